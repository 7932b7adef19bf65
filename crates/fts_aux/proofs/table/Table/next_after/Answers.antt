use Rattle.std.proofs.Common.{subst}
use Rattle.fts_aux.specs.Words.{IsNext, IsLast}
use Rattle.fts_aux.specs.Table.{Entries, nodes_in}
use Rattle.fts_aux.proofs.Seen.{next_seen, last_seen}
use Rattle.fts_aux.proofs.table.Table.next_after.Goals as goal

pub returns-in-Some-clause-found : goal.returns-in-Some-clause-found
returns-in-Some-clause-found c =
    subst (λ (t : Entries). IsNext (nodes_in t) c.args.word.now c.in-Some.next.now) c.self.view_is
    (next_seen c.self.inside.words.entries c.self.inside.order c.self.invariant.listed c.range-rest.ensures.ordered c.args.word.now c.range-rest.result (c.range-rest.ensures.between tt) c.in-Some.next.now c.in-Some.ensures)

pub returns-in-None-clause-none : goal.returns-in-None-clause-none
returns-in-None-clause-none c =
    subst (λ (t : Entries). IsLast (nodes_in t) c.args.word.now) c.self.view_is
    (last_seen c.self.inside.words.entries c.self.inside.order c.self.invariant.listed c.range-rest.ensures.ordered c.args.word.now c.range-rest.result (c.range-rest.ensures.between tt) c.in-None.ensures)
