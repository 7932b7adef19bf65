use Rattle.std.proofs.Common.{◌≡◌, ℕ, List, Vec, subst, ap, sym, ◌∙◌}
use Rattle.std.specs.declared.alloc.Global.{Global}
use Rattle.std.proofs.lemmas.Result.{on_ok_weaker, on_err_weaker}
use Rattle.fts_disk.specs.Crash.{Within}
use Rattle.fts_disk.specs.declared.memory.Call.{Call}
use Rattle.fts_disk.specs.declared.memory.Call.TheVariants.{Sync}
use Rattle.fts_disk.specs.Memory.{first_of, files_of, images_of}
use Rattle.fts_disk.specs.Contents.{contents}
use Rattle.fts_disk.specs.Replay.{seen_after, images_now}
use Rattle.fts_disk.proofs.Recording.{synced, still_pending, grew_on}
use Rattle.fts_disk.proofs.memory.recorded.Recorded.sync.Goals as goal

pub returns-clause-durable : goal.returns-clause-durable
returns-clause-durable c =
    let recorded = c.args.self.now in
    on_ok_weaker c.note.result (λ grew is_done.
    let tied : files_of c.note.new.self ≡ seen_after recorded.calls.items (first_of c.note.new.self) =
    ap (λ (files : Vec (Vec ℕ Global) Global). contents files.items) c.note.ensures.files ∙ recorded.tied
    ∙ ap (λ (first : Vec (Vec ℕ Global) Global). seen_after recorded.calls.items (contents first.items)) (sym c.note.ensures.first) in
    synced _ _ (first_of c.note.new.self) (files_of c.note.new.self) c.args.done grew is_done tied) c.note.ensures.noted

pub returns-clause-pending : goal.returns-clause-pending
returns-clause-pending c failed =
    let recorded = c.args.self.now in
    let grew = grew_on c.note.result (Sync c.args.done) recorded.calls.items c.note.new.self.calls.items c.note.ensures.noted c.note.ensures.not_noted in
    let Pending : Vec (Vec ℕ Global) Global → Type 0 = λ first. Within (images_now c.note.new.self.calls.items (contents first.items)) (images_of recorded) in
    subst Pending (sym c.note.ensures.first) (still_pending recorded.calls.items c.note.new.self.calls.items (first_of recorded) c.args.done grew failed)

pub returns-clause-not_noted : goal.returns-clause-not_noted
returns-clause-not_noted c =
    let recorded = c.args.self.now in
    let Pending : List Call → Vec (Vec ℕ Global) Global → Type 0 = λ calls first. Within (images_now calls (contents first.items)) (images_of recorded) in
    on_err_weaker c.note.result
    (λ same. subst (Pending c.note.new.self.calls.items) (sym c.note.ensures.first) (subst (λ (calls : List Call). Pending calls recorded.first) (sym same) (λ files may. may)))
    c.note.ensures.not_noted
