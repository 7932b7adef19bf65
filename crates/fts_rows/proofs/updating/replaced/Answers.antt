use Rattle.std.proofs.Common.{◌+◌, ◌++◌, ◌∷◌, [], List, ℕ, drop, ap, sym, append_assoc, ◌∙◌}
use Rattle.fts_commits.specs.Commit.{updated}
use Rattle.fts_rows.proofs.updating.replaced.Goals as goal

pub loop-place-preserved : goal.loop-place-preserved
loop-place-preserved c =
    let place = c.loop-place.place in
    let rest = updated (drop (place + 1) c.args.news.now) (drop (place + 1) c.args.texts.now) in
    let all = c.loop-place.all in
    let text = c.in_ok-to_vec.field-0.items in
    ap (λ (l : List (List ℕ)). l ++ rest) c.in_ok-push.ensures.ok
    ∙ append_assoc all (text ∷ []) rest
    ∙ ap (λ (t : List ℕ). all ++ (t ∷ rest)) (c.in_ok-to_vec.ensures.items_if_clones_equal (λ x y e. e))
    ∙ ap (λ (l : List (List ℕ)). all ++ l) (sym c.text_after.ensures)
    ∙ c.loop-place.invariant
