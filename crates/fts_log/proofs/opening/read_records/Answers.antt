use Rattle.std.proofs.Common.{ℕ, List, ◌≡◌, ◌<◌, ◌≤◌, length, IsTrue, ap, sym, subst, ◌∙◌}
use Rattle.fts_disk.specs.Device.{Files}
use Rattle.fts_log.specs.Scan.{IsFoundIn}
use Rattle.fts_log.proofs.Bytes.{length-ends_from}
use Rattle.fts_log.proofs.Finding.{found_reaches, found_closed}
use Rattle.fts_log.proofs.opening.read_records.Goals as goal

pub invariant_of-result : goal.invariant_of-result
invariant_of-result g c =
    let found = c.in-Ok.found in
    let old = g.D.Disk.seen c.args.device 0 in
    let new = g.D.Disk.seen c.find.new.device 0 in
    let same : IsTrue g.D.Disk.tells → new ≡ old = λ told. ap (λ (files : Files). files 0) (c.in-Ok.ensures.looks told).seen in
    record {
      whole_magic = c.in-Ok.ensures.width;
      reaches = λ told. subst (λ (file : List ℕ). found.gate ≤ length file) (sym (same told))
          (let is = c.in-Ok.ensures.found told in found_reaches c.args.magic is.0 old found is.1);
      shown = λ told. c.empty.ensures new;
      closed = λ told whole. subst (λ (file : List ℕ). found.gate < length file) (sym (same told))
          (let is = c.in-Ok.ensures.found told in found_closed c.args.magic is.0 old found is.1 whole);
    }

pub returns-in-Ok-clause-read : goal.returns-in-Ok-clause-read
returns-in-Ok-clause-read g c told =
    let found = c.in-Ok.found in
    let is = c.in-Ok.ensures.found told in
    let same = ap (λ (files : Files). files 0) (c.in-Ok.ensures.looks told).seen in (
      is.0,
      record {
        found = subst (λ (file : List ℕ). IsFoundIn c.args.magic is.0 file found) (sym same) is.1;
        durable = λ files may. c.in-Ok.ensures.durable told files may 0;
      },
      ap length is.1.ends ∙ length-ends_from (length c.args.magic) is.0,
    )
