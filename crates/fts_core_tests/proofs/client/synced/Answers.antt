use Rattle.std.proofs.Common.{List, length, ap, subst, ◌∙◌, ⊎_elim, arith}
use Rattle.fts_disk.specs.Device.{Files}
use Rattle.fts_disk.specs.Memory.{mem_first, mem_moment}
use Rattle.fts_disk.specs.Replay.{images_now}
use Rattle.fts_disk.specs.ReplayLaws.{left_only_now}
use Rattle.fts_disk.specs.declared.memory.Call.{Call}
use Rattle.fts_core_tests.proofs.client.synced.Goals as goal

pub returns : goal.returns
returns c =
    let old = c.args.disk in
    let left = c.in-Ok-pick_image.left in
    let more = c.in-Ok.ensures.ticks in
    let counted = ap (λ (calls : List Call). length calls) c.calls.ensures in
    record {
      now = c.sync.ensures.crash;
      during = λ files may. ⊎_elim (left_only_now old files) (c.sync.ensures.crash files)
          (c.sync.ensures.time.nothing_else (mem_moment old) files (omega arith) may);
      comes = ⊎_elim (λ at. (_, omega (arith, more, counted), omega (arith, more, counted), at))
          (λ at. (_, omega (arith, more, counted), omega (arith, more, counted), at)) c.in-Ok-pick_image.ensures.image;
      only = λ files may file. subst (λ (calls : List Call). images_now calls (mem_first left) files) c.in-Ok-pick_image.ensures.calls may file
          ∙ ap (λ (f : Files). f file) c.in-Ok-pick_image.ensures.durable;
    }
