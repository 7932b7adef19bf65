use Rattle.std.proofs.Common.{arith, ◌<◌, sym, subst, ◌∙◌}
use Rattle.fts_ilist.specs.Spelling.{HasFirstId}
use Rattle.fts_ilist.proofs.Cursors.{none_at, first_at}
use Rattle.fts_ilist.proofs.cursor.Cursor.doc.Goals as goal

pub returns-then-self-eq0-clause-none : goal.returns-then-self-eq0-clause-none
returns-then-self-eq0-clause-none c = sym c.self.view_is ∙ none_at c.self.inside.id c.self.inside.rest.now c.if-self-eq0.true

pub returns-else-self-eq0-clause-doc : goal.returns-else-self-eq0-clause-doc
returns-else-self-eq0-clause-doc c =
    let some : 0 < c.self.inside.id = omega (arith, c.if-self-eq0.false) in
    subst (λ ps. HasFirstId ps c.self.inside.id) c.self.view_is (first_at c.self.inside.id c.self.inside.rest.now some (c.self.invariant.within some))
