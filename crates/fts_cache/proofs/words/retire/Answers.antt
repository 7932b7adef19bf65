use Rattle.std.proofs.Common.{◌≡◌, ap, ◌∙◌}
use Rattle.fts_cache.specs.Words.{Entries}
use Rattle.fts_cache.proofs.Used.{gone_kept}
use Rattle.fts_cache.proofs.words.retire.Goals.{else-is_unused-via-then-is_unused+else-note_idle, else-is_unused-via-else-is_unused}
use Rattle.fts_cache.proofs.words.retire.Goals as goal

pub returns-clause-kept : goal.returns-clause-kept
returns-clause-kept c =
    let now : Entries = record { numbers = c.args.numbers.now.entries; slots = c.args.slots.now.slots } in
    let new : Entries = record { numbers = c.let_go.new.numbers.entries; slots = c.let_go.new.slots.slots } in
    let same : c.else-is_unused.idle.items ≡ c.args.idle.now.items
    = elim c.else-is_unused.branch [
      | else-is_unused-via-then-is_unused+else-note_idle w ↦ ap (λ v. v.items) w.idle-is ∙ w.note_idle.ensures.not_noted w.if-note_idle.false
      | else-is_unused-via-else-is_unused w ↦ ap (λ v. v.items) w.idle-is
    ] in
    gone_kept c.args.number now new c.args.order.now c.let_go.new.order c.args.idle.now.items c.else-is_unused.idle.items c.requires.kept c.let_go.ensures.less c.let_go.ensures.table c.let_go.ensures.listed same
