use Rattle.std.proofs.Common.{ap, nat_eq, sym, ◌∙◌, subst}
use Rattle.std.proofs.lemmas.List.Filters.{dedup_is}
use Rattle.std.proofs.lemmas.List.Sorted.{list_any-IsPermutation}
use Rattle.std.proofs.lemmas.Map.Keys.{IsStrictlyIncreasing-dedup}
use Rattle.fts_ids.specs.Ids.{has, Ascend}
use Rattle.fts_index.proofs.Syncing.{increasing_ascends, dedup_has}
use Rattle.fts_index.proofs.sync.ascending.Goals as goal

pub returns-clause-ascend : goal.returns-clause-ascend
returns-clause-ascend c =
    let is = dedup_is nat_eq c.sort_unstable.new.self.items c.dedup.new.self.items c.dedup.ensures.filtered in
    subst Ascend (sym is) (increasing_ascends _ (IsStrictlyIncreasing-dedup c.sort_unstable.new.self.items c.sort_unstable.ensures.sorted))

pub returns-clause-each : goal.returns-clause-each
returns-clause-each c = λ id.
    let sorted = c.sort_unstable.new.self.items in
    let is = dedup_is nat_eq sorted c.dedup.new.self.items c.dedup.ensures.filtered in
    ap (λ ids. has ids id) is
    ∙ dedup_has sorted id
    ∙ sym (list_any-IsPermutation (nat_eq id) c.args.ids.items sorted c.sort_unstable.ensures.permutation)
