use Rattle.std.proofs.Common.{◌≡◌, ◌∙◌, List, length, drop, sym, subst, arith, IsPermutation}
use Rattle.std.proofs.lemmas.List.{take-append-le, take_all}
use Rattle.std.proofs.lemmas.List.Sorted.{length_permutation}
use Rattle.fts_types.specs.Rules.{rules_of}
use Rattle.fts_index.specs.declared.keyed.Occurrence.{Occurrence}
use Rattle.fts_index.specs.Occurrences.{AreSorted}
use Rattle.fts_index.proofs.Bounds.{listed_sorted}
use Rattle.fts_index.proofs.occurrence.occurrences.Goals as goal

pub returns : goal.returns
returns c =
    let listed = c.in_ok-all.all in
    let sorted = c.sort.new.all in
    let seen : c.deref_mut.result.now ≡ listed.items = cc in
    let same = subst (λ (xs : List Occurrence). IsPermutation xs sorted) seen c.sort.ensures.same in
    let long : length sorted ≡ length listed.items = length_permutation listed.items sorted same in
    let whole = take-append-le listed.len sorted (drop (length sorted) listed.items) (omega (arith, long)) ∙ take_all listed.len sorted (omega (arith, long)) in
    subst (AreSorted (rules_of c.args.settings.now) c.args.texts.now) (sym whole)
    (listed_sorted (rules_of c.args.settings.now) c.args.texts.now _ c.in_ok-all.ensures _ c.requires.row (omega arith) same c.sort.ensures.sorted)
