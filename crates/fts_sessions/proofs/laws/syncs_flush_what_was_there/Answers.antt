use Rattle.std.proofs.Common.{arith}
use Rattle.fts_schema.specs.declared.reply.Reply.TheVariants.{Synced}
use Rattle.fts_sessions.proofs.Rising.{count_of, line_rises}
use Rattle.fts_sessions.proofs.laws.syncs_flush_what_was_there.Goals as goal

pub returns : goal.returns
returns c settings limits running line transaction calls through left follows says =
    (line_rises limits settings line transaction left running (count_of running) calls (Synced through) (omega arith) says follows).0
