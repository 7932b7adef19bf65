use Rattle.fts_engine.proofs.Indexing.{one_right}
use Rattle.fts_engine.proofs.kept.install_next.Goals as goal

pub returns-clause-index : goal.returns-clause-index
returns-clause-index c settings commit after will commits s is =
    one_right settings c.args.rows.now c.args.index.now c.install_commit.new.self c.args.next commit after will commits s is (record { ascend = c.are_turns.ensures.ascend; rows = c.are_turns.ensures.rows; once = c.are_turns.ensures.once }) c.install_commit.ensures
