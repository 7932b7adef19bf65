use Rattle.std.proofs.Common.{◌≡◌, ℕ, suc, ◌+◌, false, take, subst, arith}
use Rattle.std.proofs.lemmas.Bool.{ne_eqb}
use Rattle.fts_top.specs.Sessions.{is_met}
use Rattle.fts_top.specs.Kept.{mets_of}
use Rattle.fts_top.proofs.Keeping.{at_place, not_there}
use Rattle.fts_top.proofs.sessions.place_in.Goals as goal

pub returns-then-number-clause-some : goal.returns-then-number-clause-some
returns-then-number-clause-some c =
    at_place c.args.sessions.now c.args.number c.loop-place.place c.index-sessions-place.result c.loop-place-test.true c.loop-place.invariant
    (let here = c.index-sessions-place.is in let told = c.number.ensures in let same = c.if-number.true in cc)

pub loop-place-preserved : goal.loop-place-preserved
loop-place-preserved c =
    subst (λ (n : ℕ). is_met (mets_of (take n c.args.sessions.now)) c.args.number ≡ false) (let next : suc c.loop-place.place ≡ c.loop-place.place + 1 = omega arith in next)
    (not_there c.args.sessions.now c.args.number c.loop-place.place c.index-sessions-place.result c.loop-place-test.true c.loop-place.invariant
    (ne_eqb _ _ (λ same. let here = c.index-sessions-place.is in let told = c.number.ensures in let other = c.if-number.false in other cc)))
