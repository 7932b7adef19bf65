use Rattle.fts_ilist.proofs.Lanes.{run_within, run_none, run_some}
use Rattle.fts_ilist.proofs.block.bytes_before_end.Goals as goal

pub returns-clause-within : goal.returns-clause-within
returns-clause-within c = run_within c.args.bytes.now _ c.requires c.first_set.ensures

pub returns-clause-none : goal.returns-clause-none
returns-clause-none c = run_none c.args.bytes.now _ c.requires c.first_set.ensures

pub returns-clause-some : goal.returns-clause-some
returns-clause-some c = run_some c.args.bytes.now _ c.requires c.first_set.ensures
