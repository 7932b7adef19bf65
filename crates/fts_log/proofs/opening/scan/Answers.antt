use Rattle.std.proofs.Common.{ℕ, List, [], ◌∷◌, Ok, IsTrue, ◌∙◌, length-append, sym, ap, subst, refl, length, arith, rules}
use Rattle.fts_disk.specs.Device.{Files}
use Rattle.fts_log.specs.Scan.{Shows}
use Rattle.fts_log.specs.Place.{start_of, IsSpaced}
use Rattle.fts_disk.proofs.Runs.{looks_none, looks_more}
use Rattle.fts_log.proofs.Ends.{spaced_more, last_more, all_before}
use Rattle.fts_log.proofs.Scanning.{IsScanned, scanned_none, scanned_next}
use Rattle.fts_log.proofs.opening.scan.Goals as goal

pub records-init : goal.records-init
records-init g c =
    let none = c.new-ends.ensures.items in
    let file = g.D.Disk.seen c.args.device.now 0 in
    record {
      within = c.requires.within;
      spaced = λ k small. absurd (omega (arith, ap length none));
      last = sym (ap (λ (ends : List ℕ). start_of ends (length ends)) none);
      few = omega (arith, ap length none);
      shown = c.requires.shown;
      scanned = λ told. ([], subst (λ (ends : List ℕ). IsScanned file 8 ends []) (sym none) (scanned_none file (omega (arith, c.requires.told told, c.requires.within))));
      looks = λ told. looks_none g.D.Disk c.args.device.now (λ files left. g.met.D.Disk.only_now c.args.device.now files told left);
      calm = refl;
    }

pub records-preserved : goal.records-preserved
records-preserved g c =
    let so_far = c.records.invariant in
    let next = c.in-Whole.next in
    let pushed = c.in_ok-push-in-Whole.ensures.items in
    let room = c.in_ok-place_at.ensures.next next (ap Ok c.in-Whole.is) in
    let same = λ (told : IsTrue g.D.Disk.tells). (so_far.looks told).seen in
    record {
      within = room.1;
      spaced = subst IsSpaced (sym pushed) (spaced_more c.records.ends.items c.records.at next so_far.spaced so_far.last room.0);
      last = last_more c.records.ends.items next ∙ ap (λ (ends : List ℕ). start_of ends (length ends)) (sym pushed);
      few = omega (arith, so_far.few, room.0, ap length pushed, length-append c.records.ends.items (next ∷ []));
      shown = λ told. subst (λ (files : Files). Shows c.place_at.new.window (files 0)) (same told) (c.in_ok-place_at.ensures.shows told);
      scanned = λ told. scanned_next _ _ c.records.at next c.in_ok-place_at.field-0 c.records.ends.items _ (so_far.scanned told) (same told) (c.in_ok-place_at.ensures.stands told) c.in-Whole.is pushed;
      looks = λ told. looks_more g.D.Disk c.args.device.now c.records.device c.place_at.new.device (so_far.looks told) (c.in_ok-place_at.ensures.looks told);
      calm = search rules;
    }

-- each exit is one look further than the loop
pub returns-in_err-place_at-clause-looks : goal.returns-in_err-place_at-clause-looks
returns-in_err-place_at-clause-looks g c told = looks_more g.D.Disk c.args.device.now c.records.device c.place_at.new.device (c.records.invariant.looks told) (c.place_at.ensures.looks told)

pub returns-in-Closed-clause-looks : goal.returns-in-Closed-clause-looks
returns-in-Closed-clause-looks g c told = looks_more g.D.Disk c.args.device.now c.records.device c.place_at.new.device (c.records.invariant.looks told) (c.place_at.ensures.looks told)

pub returns-in_err-push-in-Whole-clause-looks : goal.returns-in_err-push-in-Whole-clause-looks
returns-in_err-push-in-Whole-clause-looks g c told = looks_more g.D.Disk c.args.device.now c.records.device c.place_at.new.device (c.records.invariant.looks told) (c.place_at.ensures.looks told)

pub returns-in-Broken-clause-looks : goal.returns-in-Broken-clause-looks
returns-in-Broken-clause-looks g c told = looks_more g.D.Disk c.args.device.now c.records.device c.place_at.new.device (c.records.invariant.looks told) (c.place_at.ensures.looks told)

-- what was found when the closed gate was met
pub invariant_of-result : goal.invariant_of-result
invariant_of-result g c =
    let so_far = c.records.invariant in
    record {
      spaced = so_far.spaced;
      few = so_far.few;
      within = omega (arith, so_far.within, c.requires.small);
      before = all_before c.records.ends.items c.records.at so_far.spaced so_far.last;
    }

pub invariant_of-result-in-Broken : goal.invariant_of-result-in-Broken
invariant_of-result-in-Broken g c =
    let so_far = c.records.invariant in
    record {
      spaced = so_far.spaced;
      few = so_far.few;
      within = omega (arith, so_far.within, c.requires.small);
      before = all_before c.records.ends.items c.records.at so_far.spaced so_far.last;
    }
