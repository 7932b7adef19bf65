use Rattle.std.proofs.Common.{◌≤◌, length, arith, sym, ap, ◌∙◌}
use Rattle.fts_ilist.specs.Packing.{node_size}
use Rattle.fts_ilist.proofs.Loose.{packs_one}
use Rattle.fts_ilist.proofs.packing.packed_anew.Goals as goal

pub returns-then-bytes-le-NODE_LIMIT : goal.returns-then-bytes-le-NODE_LIMIT
returns-then-bytes-le-NODE_LIMIT c =
    let within : node_size c.args.node ≤ 8192 = omega (arith, c.if-bytes-le-NODE_LIMIT.true, ap length c.bytes.ensures.spelled) in
    c.one.ensures ∙ sym (packs_one c.args.node c.requires within)
