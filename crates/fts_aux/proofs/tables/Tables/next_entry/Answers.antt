use Rattle.std.proofs.Common.{ap, ◌∙◌}
use Rattle.fts_aux.specs.Tables.{nodes}
use Rattle.fts_aux.proofs.Walks.{walked_more, walked_all}
use Rattle.fts_aux.proofs.tables.Tables.next_entry.Goals as goal

pub returns-in-Some-clause-walk : goal.returns-in-Some-clause-walk
returns-in-Some-clause-walk c = λ done walked.
    walked_more (nodes c.args.self.now) c.args.word.now done walked c.in-Some.next.now c.nodes_of.result c.in-Some.ensures.found (c.nodes_of.ensures.value ∙ ap (nodes c.args.self.now) c.as_bytes.ensures)

pub returns-in-None-clause-walk : goal.returns-in-None-clause-walk
returns-in-None-clause-walk c = λ done walked.
    walked_all (nodes c.args.self.now) c.args.word.now done walked c.in-None.ensures.none
