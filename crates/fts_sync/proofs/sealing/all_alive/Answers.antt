use Rattle.std.proofs.Common.{ℕ, List, ◌++◌, ap, sym, subst, ◌∙◌}
use Rattle.std.specs.List.{All}
use Rattle.std.specs.Map.{keys_of}
use Rattle.std.proofs.lemmas.List.{append_assoc}
use Rattle.std.proofs.lemmas.List.Elements.{All-head, All-tail}
use Rattle.fts_ilist.specs.Node.{Docs}
use Rattle.fts_sync.specs.Leaving.{filled_words, filled_word, leaving_nodes, IsMade}
use Rattle.fts_sync.proofs.sealing.all_alive.Goals as goal

pub put_word-requires : goal.put_word-requires
put_word-requires c =
    let made : List ℕ × List Docs → Type 0 = λ e. IsMade c.args.cache.now c.args.doc e.0 e.1 in
    All-head made c.in-Some.word c.next.new.self.rest.items (subst (All made) c.in-Some.ensures.steps.0 c.loop-word.invariant.made)

pub loop-word-preserved : goal.loop-word-preserved
loop-word-preserved c =
    let nodes = leaving_nodes c.args.cache.now c.args.doc c.args.lists.now in
    let made : List ℕ × List Docs → Type 0 = λ e. IsMade c.args.cache.now c.args.doc e.0 e.1 in
    let old = c.loop-word.nodes.items in
    let rest = c.next.new.self.rest.items in
    let word = c.in-Some.word in
    record {
      can_next = tt;
      is_finite = tt;
      same = ap (λ ns. ns ++ filled_words nodes (keys_of rest)) c.in_ok-put_word.ensures
          ∙ append_assoc old (filled_word word.0 (nodes word.0)) (filled_words nodes (keys_of rest))
          ∙ ap (λ es. old ++ filled_words nodes (keys_of es)) (sym c.in-Some.ensures.steps.0)
          ∙ c.loop-word.invariant.same;
      made = All-tail made word rest (subst (All made) c.in-Some.ensures.steps.0 c.loop-word.invariant.made);
    }
