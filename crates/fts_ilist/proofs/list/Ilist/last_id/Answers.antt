use Rattle.fts_ilist.proofs.Lists.{list_limit}
use Rattle.fts_ilist.proofs.list.Ilist.last_id.Goals as goal

pub returns-clause-limit : goal.returns-clause-limit
returns-clause-limit c = list_limit c.self.inside.last c.self.inside.bytes.items c.self.invariant.list
