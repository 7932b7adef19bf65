use Rattle.std.proofs.Common.{◌≤◌, length, ap, List, Vec, ℕ, arith}
use Rattle.std.specs.declared.alloc.Global.{Global}
use Rattle.std.proofs.lemmas.Result.{on_ok_weaker}
use Rattle.fts_disk.specs.Contents.{contents}
use Rattle.fts_disk.proofs.Picking.{torn_picked}
use Rattle.fts_disk.proofs.memory.pick.tear_write.Goals as goal

pub returns-clause-torn : goal.returns-clause-torn
returns-clause-torn c =
    let few : length c.deref-2.result.now ≤ length c.args.bytes.now = omega (arith, ap length c.deref-2.ensures.value, c.in_ok-torn.ensures) in
    let here : c.args.at ≤ length (contents c.args.files.now.items c.args.file) =
    omega (arith, ap (λ (files : List (Vec ℕ Global)). length (contents files c.args.file)) c.deref.ensures.value, c.length_in.ensures, c.if-at-length_in.false) in
    on_ok_weaker c.overwrite_in.result (λ goes. torn_picked c.args.file c.args.at (length c.args.bytes.now) _ _ _ few here goes) c.overwrite_in.ensures.written
