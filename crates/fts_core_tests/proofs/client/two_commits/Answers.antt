use Rattle.std.proofs.Common.{List, [], ◌∷◌, length, refl, ap, subst, ◌∙◌}
use Rattle.fts_disk.specs.declared.memory.MemDisk.{MemDisk}
use Rattle.fts_disk.specs.contracts.memory.MemDiskDisk.TheImpl.{ghosts}
use Rattle.fts_core.specs.declared.event.Event.{Event}
use Rattle.fts_core.specs.declared.event.Event.TheVariants.{Opening, Commit}
use Rattle.fts_core.specs.declared.event.Outcome.{Outcome}
use Rattle.fts_core.specs.Headline.{Along, KeepsPromises}
use Rattle.fts_core_tests.proofs.Seeing.{two_stand}
use Rattle.fts_core_tests.proofs.client.two_commits.Goals as goal

pub returns-then-are_committed : goal.returns-then-are_committed
returns-then-are_committed c settings began fits =
    let old = c.args.world in
    let new = c.in-Ok.world in
    let limits = c.standard-limits.result in
    let first = c.args.commits.0 in
    let second = c.args.commits.1 in
    let made = c.in-Some.ensures in
    let events : List (Event MemDisk MemDisk) = Opening limits ∷ Commit first ∷ Commit second ∷ [] in
    let are = c.if-are_committed.ensures refl (c.in-Ok.ensures.counted ∙ ap (λ (es : List (Event MemDisk MemDisk)). length es) made) in
    let told = subst (λ (es : List (Event MemDisk MemDisk)). Along {rows = ghosts} {index = ghosts} KeepsPromises old es c.in-Ok.outcomes.items new) made (c.in-Ok.ensures.headline refl refl) in
    two_stand ghosts ghosts settings began limits first second are.0 are.1 old new fits
    (subst (λ (os : List Outcome). Along {rows = ghosts} {index = ghosts} KeepsPromises old events os new) are.2 told)
