use Rattle.std.proofs.Common.{◌≡◌, suc, ◌+◌, ℕ, List, take, subst, arith}
use Rattle.std.specs.Prelude.{◌≢◌, All}
use Rattle.std.proofs.lemmas.List.{take_all}
use Rattle.fts_script.specs.Group.{shares_of, numbers_in}
use Rattle.fts_script.specs.declared.grouping.Group.{Group}
use Rattle.fts_script.proofs.Shares.{at_share, not_share}
use Rattle.fts_script.proofs.grouping.group_of.Goals as goal

pub returns-then-groups-at-clause-some : goal.returns-then-groups-at-clause-some
returns-then-groups-at-clause-some c =
    at_share c.args.groups.now c.args.number c.loop-at.at c.index-groups-at.result c.loop-at-test.true c.loop-at.invariant
    (let here = c.index-groups-at.is in let same = c.if-groups-at.true in cc)

pub returns-clause-none : goal.returns-clause-none
returns-clause-none c =
    subst (λ (groups : List Group). All (λ other. other ≢ c.args.number) (numbers_in (shares_of groups))) (take_all c.loop-at.at c.args.groups.now c.loop-at-test.false) c.loop-at.invariant

pub loop-at-preserved : goal.loop-at-preserved
loop-at-preserved c =
    subst (λ (n : ℕ). All (λ other. other ≢ c.args.number) (numbers_in (shares_of (take n c.args.groups.now)))) (let next : suc c.loop-at.at ≡ c.loop-at.at + 1 = omega arith in next)
    (not_share c.args.groups.now c.args.number c.loop-at.at c.index-groups-at.result c.loop-at-test.true c.loop-at.invariant
    (λ same. let here = c.index-groups-at.is in let other = c.if-groups-at.false in other cc))
