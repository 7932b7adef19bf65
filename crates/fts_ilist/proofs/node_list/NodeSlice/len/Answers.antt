use Rattle.std.proofs.Common.{length, sym, ap, ◌∙◌}
use Rattle.fts_ilist.proofs.Runs.{nodes_count}
use Rattle.fts_ilist.proofs.node_list.NodeSlice.len.Goals as goal

pub returns : goal.returns
returns c = sym (nodes_count c.self.inside.count c.self.inside.run.now) ∙ ap length c.self.view_is
