use Rattle.std.proofs.Common.{ℕ, List, map, refl, ap, subst, sym, ◌∙◌}
use Rattle.fts_types.specs.Rules.{rules_of}
use Rattle.fts_types.specs.Row.{row_of}
use Rattle.fts_index.specs.Occurrences.{AreSorted}
use Rattle.fts_index.specs.declared.keyed.Occurrence.{Occurrence}
use Rattle.fts_index.proofs.Runs.{building_begins, turn}
use Rattle.fts_index.proofs.document.document_words.Goals as goal

pub loop-first-init : goal.loop-first-init
loop-first-init c =
    let sorted = subst (λ (texts : List (List ℕ)). AreSorted (rules_of c.args.settings.now) texts c.in_ok-all.all.items) c.deref-2.ensures c.in_ok-all.ensures in
    rw c.as_slice-rest.ensures.value
    (building_begins (rules_of c.args.settings.now) (row_of c.args.row.now) _ _ c.new-document.ensures sorted c.requires.texts)

pub push-requires : goal.push-requires
push-requires c =
    let t = turn (rules_of c.args.settings.now) (row_of c.args.row.now) _ c.in-Some.first.now _ _ _ refl _ (sym c.in-Some.ensures.value) c.run_len.ensures (c.in_ok-put_positions.ensures ∙ ap (map (λ (o : Occurrence). o.position)) c.split_at.ensures.front) c.loop-first.invariant in
    rw c.deref-in-Some.ensures.value t.can_push

pub loop-first-smaller : goal.loop-first-smaller
loop-first-smaller c =
    let t = turn (rules_of c.args.settings.now) (row_of c.args.row.now) _ c.in-Some.first.now _ _ _ refl _ (sym c.in-Some.ensures.value) c.run_len.ensures (c.in_ok-put_positions.ensures ∙ ap (map (λ (o : Occurrence). o.position)) c.split_at.ensures.front) c.loop-first.invariant in
    rw c.split_at.ensures.back t.shorter

pub loop-first-preserved : goal.loop-first-preserved
loop-first-preserved c =
    let t = turn (rules_of c.args.settings.now) (row_of c.args.row.now) _ c.in-Some.first.now _ _ _ refl _ (sym c.in-Some.ensures.value) c.run_len.ensures (c.in_ok-put_positions.ensures ∙ ap (map (λ (o : Occurrence). o.position)) c.split_at.ensures.front) c.loop-first.invariant in
    rw (c.in_ok-push.ensures.ok, c.split_at.ensures.back, c.deref-in-Some.ensures.value) t.pushed
