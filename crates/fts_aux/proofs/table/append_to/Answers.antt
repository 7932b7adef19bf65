use Rattle.fts_aux.specs.Table.{list_in}
use Rattle.fts_aux.proofs.Kept.{are_written}
use Rattle.fts_aux.proofs.table.append_to.Goals as goal

pub returns-in-Some-clause-are : goal.returns-in-Some-clause-are
returns-in-Some-clause-are c =
    are_written c.args.words.now.entries c.append_at-was.new.words.entries c.args.word.now (list_in c.append_at-was.new.words.entries c.args.word.now) c.in-Some.number c.append_at-was.ensures.writes.becomes c.in-Some.ensures.some
