use Rattle.std.proofs.Common.{◌≡◌, ℕ, List, [], ◌∷◌, ap, sym, subst, ◌∙◌, rules, arith}
use Rattle.std.specs.Prelude.{Err}
use Rattle.fts_log.specs.Frame.{payload_of}
use Rattle.fts_log.specs.Log.{device_of}
use Rattle.fts_log.specs.Record.{IsLog}
use Rattle.fts_steps.specs.State.{rows_magic}
use Rattle.fts_engine.proofs.create.make_rows.Goals as goal

pub returns-in-Ok-append-clause-made : goal.returns-in-Ok-append-clause-made
returns-in-Ok-append-clause-made g c told settings right same =
    let log = c.append.new.self in
    let payload = payload_of c.args.framed.now in
    let stands = c.in-Ok-append.ensures.acknowledged told [] (c.in-Ok.ensures.created told) in
    let file : g.D.Disk.seen (device_of log) 0 ≡ g.D.Disk.seen c.close.result 0 = ap (λ device. g.D.Disk.seen device 0) (sym c.close.ensures) in
    let magic : IsLog rows_magic (payload ∷ []) (g.D.Disk.seen (device_of log) 0) =
    subst (λ (magic : List ℕ). IsLog magic (payload ∷ []) (g.D.Disk.seen (device_of log) 0)) (c.in-Ok-append.ensures.numbers.making.magic ∙ c.in-Ok.ensures.kept.0) stands.is_log in
    record {
      sound = search rules;
      log = subst (λ (payload : List ℕ). IsLog rows_magic (payload ∷ []) (g.D.Disk.seen c.close.result 0)) same
          (subst (λ (file : List ℕ). IsLog rows_magic (payload ∷ []) file) file magic);
    }

pub unreachable-requires : goal.unreachable-requires
unreachable-requires g c =
    let past = (c.in-Err-LogFull.ensures.full c.in-Err-LogFull.field-0-0).0 (ap Err c.in-Err-LogFull.field-0-is) in
    absurd (omega (arith, past.0, c.in-Ok.ensures.kept, c.in-Ok.ensures.empty, c.requires))
