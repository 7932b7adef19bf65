use Rattle.std.proofs.Common.{false}
use Rattle.fts_aux.proofs.Kept.{lists_by}
use Rattle.fts_aux.proofs.table.take_out_of.Goals as goal

pub returns : goal.returns
returns c = lists_by c.args.order.now c.remove.new.self c.args.word.now false c.remove.ensures.updates.0
