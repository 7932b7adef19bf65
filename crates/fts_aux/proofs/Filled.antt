-- Words with nodes among entries.
use Rattle.std.proofs.Common.{◌≡◌, ℕ, true, cond, List, [], ◌∷◌, ◌++◌, refl, sym, ap, ◌∙◌, append_assoc}
use Rattle.fts_words.specs.Order.{begins_with}
use Rattle.fts_ilist.specs.Node.{Docs}
use Rattle.fts_aux.specs.Words.{filled, filled_as}
use Rattle.fts_ilist.specs.Front.{front}

filled_as_more : (w : List ℕ) (ns : List Docs) (rest : List (List ℕ × List Docs)) → filled_as w ns [] ++ rest ≡ filled_as w ns rest
filled_as_more w [] rest = refl
filled_as_more w (n ∷ ns) rest = refl

-- a step of the loop that takes words with a prefix
pub taken : (p : List ℕ) (before after : List (List ℕ × List Docs)) (w : List ℕ) (v : List Docs) (done all : List (List ℕ × List Docs))
    → before ≡ (w, v) ∷ after → begins_with p w ≡ true
    → done ++ filled (front (λ e. e.0) p before) ≡ all
    → (done ++ filled_as w v []) ++ filled (front (λ e. e.0) p after) ≡ all
taken p before after w v done all parts passes so =
    let rest = filled (front (λ e. e.0) p after) in
    append_assoc done (filled_as w v []) rest
    ∙ ap (λ r. done ++ r) (filled_as_more w v rest)
    ∙ ap (λ b. done ++ filled (cond b ((w, v) ∷ front (λ e. e.0) p after) [])) (sym passes)
    ∙ ap (λ es. done ++ filled (front (λ e. e.0) p es)) (sym parts)
    ∙ so
