use Rattle.std.proofs.Common.{rules, arith, ◌<◌, ◌-◌, List, take, sym, ap, ◌∷◌, ◌∙◌}
use Rattle.std.proofs.lemmas.List.{take_rest}
use Rattle.fts_ilist.specs.Spelling.{Posting}
use Rattle.fts_ilist.specs.Reading.{postings_in}
use Rattle.fts_ilist.proofs.Tails.{posting_in}
use Rattle.fts_ilist.proofs.Cursors.{none_at, goes}
use Rattle.fts_ilist.proofs.cursor.CursorIterator.next.Goals as goal

pub returns-then-self-eq0-clause-steps : goal.returns-then-self-eq0-clause-steps
returns-then-self-eq0-clause-steps c =
    let e = sym c.self.view_is ∙ none_at c.self.inside.id c.self.inside.rest.now c.if-self-eq0.true in
    (e, e)

pub new-requires : goal.new-requires
new-requires c =
    let some : 0 < c.self.inside.id = omega (arith, c.if-self-eq0.false) in
    rw take_rest (goes c.self.inside.id c.self.inside.rest.now _ some (c.self.invariant.within some) c.body_len-len.ensures).tail

pub invariant_of-document : goal.invariant_of-document
invariant_of-document c =
    let some : 0 < c.self.inside.id = omega (arith, c.if-self-eq0.false) in
    (goes c.self.inside.id c.self.inside.rest.now _ some (c.self.invariant.within some) c.body_len-len.ensures).document

pub returns-clause-steps : goal.returns-clause-steps
returns-clause-steps c =
    let some : 0 < c.self.inside.id = omega (arith, c.if-self-eq0.false) in
    let g = goes c.self.inside.id c.self.inside.rest.now _ some (c.self.invariant.within some) c.body_len-len.ensures in
    let left = c.self-2.view_is ∙ c.new.ensures ∙ ap (postings_in c.self.inside.id) (take_rest c.self.inside.rest.now c.body_len-len.result) in
    sym c.self.view_is ∙ g.same ∙ ap (λ (ps : List Posting). posting_in c.self.inside.id (take (c.body_len-len.result - 1) c.self.inside.rest.now) ∷ ps) (sym left)

pub returns-clause-goes : goal.returns-clause-goes
returns-clause-goes c =
    let some : 0 < c.self.inside.id = omega (arith, c.if-self-eq0.false) in
    let g = goes c.self.inside.id c.self.inside.rest.now _ some (c.self.invariant.within some) c.body_len-len.ensures in
    let left = c.self-2.view_is ∙ c.new.ensures ∙ ap (postings_in c.self.inside.id) (take_rest c.self.inside.rest.now c.body_len-len.result) in
    let steps = sym c.self.view_is ∙ g.same ∙ ap (λ (ps : List Posting). posting_in c.self.inside.id (take (c.body_len-len.result - 1) c.self.inside.rest.now) ∷ ps) (sym left) in
    search rules
