use Rattle.std.proofs.Common.{rules, sym, ap, subst, ◌∙◌}
use Rattle.indexmap.proofs.CallerLemmas.{filter-RetainsPairs}
use Rattle.fts_rows.specs.Slots.{Slots, AreSlots, rows_in}
use Rattle.fts_rows.proofs.Slotted.{is_full, slots-full, rows-full}
use Rattle.fts_rows.proofs.slots.compact.Goals as goal

pub returns-clause-kept : goal.returns-clause-kept
returns-clause-kept c = λ high are.
    subst (λ (l : Slots). AreSlots 0 high l) (sym (filter-RetainsPairs _ is_full _ (λ k v b w g call. search rules) _ _ c.retain.ensures.filtered)) (slots-full 0 high c.args.slots.now.entries are)

pub returns-clause-rows : goal.returns-clause-rows
returns-clause-rows c =
    ap rows_in (filter-RetainsPairs _ is_full _ (λ k v b w g call. search rules) _ _ c.retain.ensures.filtered) ∙ rows-full c.args.slots.now.entries
