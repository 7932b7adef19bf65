use Rattle.std.proofs.Common.{ℕ, List, Option, is_some, sym, ap, ◌∙◌}
use Rattle.std.specs.Map.{keys_of}
use Rattle.std.specs.Option.{unwrap_or}
use Rattle.std.proofs.lemmas.List.Sorted.{sum_by-IsPermutation}
use Rattle.fts_ilist.specs.NodeList.{NodeState}
use Rattle.fts_aux.specs.Table.{Entries, no_list, nodes_in, loose_one}
use Rattle.fts_aux.proofs.Counts.{sums_same, over_keys}
use Rattle.fts_aux.proofs.table.sort.Goals as goal

pub returns-clause-lists : goal.returns-clause-lists
returns-clause-lists c = λ w. ap (λ o. unwrap_or o no_list) (c.sort_keys.ensures.reordered.2 w)

pub returns-clause-are : goal.returns-clause-are
returns-clause-are c = λ w. ap is_some (c.sort_keys.ensures.reordered.2 w)

pub returns-clause-loose : goal.returns-clause-loose
returns-clause-loose c =
    let es : Entries = c.args.words.now.entries in
    let new : Entries = c.sort_keys.new.self.entries in
    let one : List ℕ → ℕ = λ k. loose_one (nodes_in es k) in
    sums_same (λ k. loose_one (nodes_in new k)) one (λ k. ap (λ (o : Option NodeState). loose_one (unwrap_or o no_list).nodes) (c.sort_keys.ensures.reordered.2 k)) (keys_of new)
    ∙ sym (over_keys one new)
    ∙ sum_by-IsPermutation (λ (e : List ℕ × NodeState). one e.0) es new c.sort_keys.ensures.reordered.0
    ∙ over_keys one es
