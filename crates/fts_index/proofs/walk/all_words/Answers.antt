use Rattle.std.proofs.Common.{List, ℕ, [], ◌∷◌, map, ap, sym, subst, ◌∙◌}
use Rattle.std.proofs.lemmas.List.{map-append}
use Rattle.fts_ilist.specs.Node.{Docs}
use Rattle.fts_aux.specs.Words.{IsWalked}
use Rattle.fts_aux.specs.Tables.{nodes}
use Rattle.fts_index.proofs.Walks.{fewer_behind}
use Rattle.fts_index.proofs.walk.all_words.Goals as goal

pub loop-word-preserved : goal.loop-word-preserved
loop-word-preserved c =
    subst (λ (done : List (List ℕ × List Docs)). IsWalked (nodes c.args.tables.now) c.in-Some.word.now done)
    (sym (ap (map (λ p. (p.0.now, p.1))) c.in_ok-push.ensures.items ∙ map-append (λ p. (p.0.now, p.1)) c.loop-word.words.items ((c.in-Some.word, c.in-Some.nodes) ∷ [])))
    (c.in-Some.ensures.walk _ c.loop-word.invariant)

pub loop-word-smaller : goal.loop-word-smaller
loop-word-smaller c = fewer_behind c.args.tables.now c.loop-word.last.now c.in-Some.word.now c.in-Some.ensures.found.0
