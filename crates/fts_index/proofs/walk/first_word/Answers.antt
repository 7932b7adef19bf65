use Rattle.std.proofs.Common.{List, ℕ, [], ◌∷◌, ◌++◌, map, ap, ap₂, sym, ◌∙◌}
use Rattle.std.proofs.lemmas.Bool.{false≢true}
use Rattle.fts_ilist.specs.Node.{Docs}
use Rattle.fts_aux.specs.Tables.{nodes}
use Rattle.fts_index.proofs.Walks.{walk_begins, walk_begins_with}
use Rattle.fts_index.proofs.walk.first_word.Goals as goal
use Rattle.fts_index.proofs.walk.first_word.Goals.{then-not-is_empty+in_ok-push, else-not-is_empty}

pub returns : goal.returns
returns c =
    let ns = nodes c.args.tables.now in
    elim c.if-not-is_empty.branch [
      | then-not-is_empty+in_ok-push w ↦ rw w.words-is
          (walk_begins_with ns _
          (ap (map (λ p. (p.0.now, p.1))) (w.in_ok-push.ensures.items ∙ ap (λ ws. ws ++ (c.args.empty, c.nodes_of-nodes.result) ∷ []) c.new-words.ensures.items)
          ∙ ap₂ (λ (v : List ℕ) (docs : List Docs). (v, docs) ∷ []) c.requires c.nodes_of-nodes.ensures.value)
          (λ none. false≢true (sym w.if-not-is_empty.true ∙ c.is_empty.ensures.1 (c.nodes_of-nodes.ensures.value ∙ none))))
      | else-not-is_empty w ↦ rw w.words-is
          (walk_begins ns _ (ap (map (λ p. (p.0.now, p.1))) c.new-words.ensures.items) (sym c.nodes_of-nodes.ensures.value ∙ c.is_empty.ensures.0 w.if-not-is_empty.false))
    ]
