use Rattle.std.proofs.Common.{sym, arith}
use Rattle.std.proofs.lemmas.Bool.{eqb-true, eq-eqb}
use Rattle.fts_io.proofs.Window.{window-empty, window-meets}
use Rattle.fts_io.proofs.buffer.Buffer.is_empty.Goals as goal

pub returns : goal.returns
returns c =
    let place = c.self.inside.at in
    let end = c.self.inside.end in
    let bytes = c.self.inside.bytes.items in (
      λ meet. window-empty place end bytes _ (sym c.self.view_is) (eqb-true place end meet) (omega (arith, c.self.invariant)),
      λ empty. eq-eqb place end (window-meets place end bytes _ (sym c.self.view_is) empty (omega (arith, c.self.invariant)) (omega (arith, c.self.invariant))),
    )
