use Rattle.std.proofs.Common.{arith, ◌<◌, sym, ap, drop, ◌∙◌}
use Rattle.std.proofs.lemmas.List.{take_rest}
use Rattle.fts_ilist.proofs.Cursors.{none_at, rest_at}
use Rattle.fts_ilist.proofs.cursor.Cursor.advance.Goals as goal

pub returns-then-self-gt0 : goal.returns-then-self-gt0
returns-then-self-gt0 c =
    let some : 0 < c.self.inside.id = omega (arith, c.if-self-gt0.true) in
    let w = c.self.invariant.within some in
    c.self-then-self-gt0.view_is ∙ c.new.ensures
    ∙ rw take_rest (rest_at c.self.inside.id c.self.inside.rest.now _ some w c.body_len-len.ensures)
    ∙ ap (drop 1) c.self.view_is

pub returns-else-self-gt0 : goal.returns-else-self-gt0
returns-else-self-gt0 c =
    let e = sym c.self.view_is ∙ none_at c.self.inside.id c.self.inside.rest.now (omega (arith, c.if-self-gt0.false)) in
    e ∙ sym (ap (drop 1) e)
