use Rattle.std.proofs.Common.{arith, ◌∙◌}
use Rattle.fts_io.proofs.Cutting.{append-take}
use Rattle.fts_io.proofs.lines.append_within.Goals as goal

pub returns-clause-appends : goal.returns-clause-appends
returns-clause-appends c =
    c.in_ok-extend_from_slice.ensures.items
    ∙ append-take 1048577 c.min.result c.args.line.now.items c.args.piece.now (omega (arith, c.requires)) (omega (arith, c.min.ensures))
