use Rattle.std.proofs.Common.{◌≡◌, true, List, ℕ, [], ◌∷◌, ◌++◌, rules, map, ap, ◌∙◌}
use Rattle.fts_words.specs.Order.{begins_with}
use Rattle.fts_aux.specs.Words.{filled, filled_as}
use Rattle.fts_aux.specs.Table.{seen, nodes_in}
use Rattle.fts_ilist.specs.Front.{front}
use Rattle.fts_ilist.specs.Node.{Docs}
use Rattle.fts_aux.proofs.Filled.{taken}
use Rattle.fts_aux.proofs.table.filled_with_prefix.Goals as goal

pub loop-word-preserved : goal.loop-word-preserved
loop-word-preserved c =
    let t = c.args.words.now.entries in
    let word = c.in-Some.word.now in
    let passes : begins_with c.args.prefix.now word ≡ true = search rules in
    let parts : seen t c.loop-word.rest ≡ (word, nodes_in t word) ∷ seen t c.next.new.self = search rules in
    let done : List (List ℕ × List Docs) = map (λ p. (p.0.now, p.1)) c.loop-word.found.items in (
      tt,
      tt,
      ap (λ xs. xs ++ filled (front (λ e. e.0) c.args.prefix.now (seen t c.next.new.self))) (c.in_ok-push_filled.ensures ∙ ap (λ ns. done ++ filled_as word ns []) (c.nodes_of.ensures ∙ ap (nodes_in t) c.as_bytes-in-Some.ensures))
          ∙ taken c.args.prefix.now (seen t c.loop-word.rest) (seen t c.next.new.self) word (nodes_in t word) done _ parts passes c.loop-word.invariant.2,
    )
