use Rattle.std.proofs.Common.{◌∙◌, ap, rules}
use Rattle.fts_disk.specs.Contents.{contents}
use Rattle.fts_disk.proofs.Contents.{empty_more}
use Rattle.fts_disk.proofs.memory.recorded.sixteen.Goals as goal

pub loop-preserved : goal.loop-preserved
loop-preserved c = record {
  same = ap contents c.in_ok-push.ensures.items ∙ empty_more c.loop.all.items c.new.result c.new.ensures.items ∙ c.loop.invariant.same;
  enough = search rules;
}
