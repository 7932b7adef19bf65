-- A step of an engine is one of who owns it.
use Rattle.std.proofs.lemmas.Bool.{false≢true}
use Rattle.fts_disk.specs.declared.disk.Disk.{Ghosts}
use Rattle.fts_steps.specs.Step.{Ask, Answer, Keeps, Steps}
use Rattle.fts_engine.specs.Stands.{engine_sight}
use Rattle.fts_sessions.specs.declared.direct.Direct.{Direct}
use Rattle.fts_sessions.specs.Direct.{direct_sight}

pub as_direct : {D E : Type 0} {disk : Ghosts D} {disk' : Ghosts E} (old new : Direct D E disk disk') (ask : Ask) (answer : Answer)
    → Steps engine_sight ask answer old.engine new.engine → Steps direct_sight ask answer old new
as_direct old new ask answer step = record {
  more = step.more;
  each = λ running stands.
      let each = step.each running stands in record {
        alone = each.alone;
        may = each.may;
        stands = each.stands;
        rows = each.rows;
        index = each.index;
        keeps = kept;
      };
  tells = λ shared. absurd (false≢true shared);
  keeps = kept;
}
  where
    kept : Keeps direct_sight answer old new
    kept = record {
      settings = step.keeps.settings;
      limits = step.keeps.limits;
      faults = step.keeps.faults;
      sum = step.keeps.sum;
    }
