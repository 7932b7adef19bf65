use Rattle.std.proofs.Common.{nat_eq, sym, ◌∙◌, subst}
use Rattle.std.specs.List.{IsDistinct}
use Rattle.std.proofs.lemmas.List.Filters.{dedup_is}
use Rattle.std.proofs.lemmas.List.Sorted.{list_any-IsPermutation}
use Rattle.std.proofs.lemmas.Map.Keys.{IsStrictlyIncreasing-dedup}
use Rattle.fts_cache.proofs.Numbers.{still_has, all_distinct}
use Rattle.fts_cache.proofs.cache.leaving_numbers.Goals as goal

pub returns-clause-noted : goal.returns-clause-noted
returns-clause-noted c =
    let is = dedup_is nat_eq c.sort_unstable.new.self.items c.dedup.new.self.items c.dedup.ensures.filtered in
    λ n id le h. still_has n c.sort_unstable.new.self.items c.dedup.new.self.items is
    (sym (list_any-IsPermutation (nat_eq n) c.in_ok-numbers.numbers.items c.sort_unstable.new.self.items c.sort_unstable.ensures.permutation) ∙ c.in_ok-numbers.ensures n id le h)

pub returns-clause-distinct : goal.returns-clause-distinct
returns-clause-distinct c =
    let is = dedup_is nat_eq c.sort_unstable.new.self.items c.dedup.new.self.items c.dedup.ensures.filtered in
    subst (IsDistinct nat_eq) (sym is) (all_distinct _ (IsStrictlyIncreasing-dedup c.sort_unstable.new.self.items c.sort_unstable.ensures.sorted))
