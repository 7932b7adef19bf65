use Rattle.std.proofs.Common.{◌≡◌, take}
use Rattle.fts_top.specs.Answers.{told}
use Rattle.fts_workers.specs.Health.{health_of_all}
use Rattle.fts_top.proofs.answers.met_by.Given as goal

abbrev pub invariant-loop-reply : goal.invariant-loop-reply
invariant-loop-reply l = l.met ≡ health_of_all (told (take l.reply-index l.replies))
