use Rattle.std.proofs.Common.{arith, ne_eqb}
use Rattle.fts_query.proofs.FaultLemmas.{seen_lone, seen_close, seen_open, seen_other}
use Rattle.fts_query.proofs.faults.Backward.step.Goals as goal

pub returns-then-text-place-eq41-clause-seen : goal.returns-then-text-place-eq41-clause-seen
returns-then-text-place-eq41-clause-seen c =
    seen_close c.args.text.now c.args.place c.args.self.pending c.args.self.found c.requires.within c.requires.seen c.if-text-place-eq41.true

pub returns-then-text-place-ne40-clause-seen : goal.returns-then-text-place-ne40-clause-seen
returns-then-text-place-ne40-clause-seen c =
    seen_other c.args.text.now c.args.place c.args.self.pending c.args.self.found c.requires.within c.requires.seen
    (ne_eqb _ 40 c.if-text-place-ne40.true) (ne_eqb _ 41 c.if-text-place-eq41.false)

pub returns-then-pending-eq0-clause-seen : goal.returns-then-pending-eq0-clause-seen
returns-then-pending-eq0-clause-seen c =
    seen_lone c.args.text.now c.args.place c.args.self.pending c.args.self.found c.requires.within c.requires.seen c.if-text-place-ne40.false c.if-pending-eq0.true

pub returns-clause-seen : goal.returns-clause-seen
returns-clause-seen c =
    seen_open c.args.text.now c.args.place c.args.self.pending c.args.self.found c.requires.within c.requires.seen c.if-text-place-ne40.false (omega arith)
