use Rattle.std.proofs.Common.{arith, ◌<◌, ◌+◌, ◌-◌, ◌++◌, ◌∷◌, [], List, ℕ, refl, sym, ap, subst, ◌∙◌}
use Rattle.fts_ilist.specs.Number.{number_bytes}
use Rattle.fts_ilist.specs.Spelling.{Posting, last_id}
use Rattle.fts_ilist.specs.Reading.{IsKept}
use Rattle.fts_ilist.proofs.Lists.{pushed_document}
use Rattle.fts_ilist.proofs.Kept.{few_kept, kept_more}
use Rattle.fts_ilist.proofs.Tails.{posting_in}
use Rattle.fts_ilist.proofs.list.Ilist.push_document.Goals as goal

pub overflow_add-self : goal.overflow_add-self
overflow_add-self c = omega (arith, few_kept _ _ _ _ c.self.invariant)

pub invariant_of-self-2 : goal.invariant_of-self-2
invariant_of-self-2 c =
    let above : c.self.inside.last < c.document.inside.id = omega (arith, c.requires, c.self.invariant.list.last_is, ap last_id c.self.view_is, ap (λ (p : Posting). p.id) c.document.view_is) in
    let document = number_bytes (c.document.inside.id - c.self.inside.last) ++ (c.document.inside.encoded.now ++ 0 ∷ []) in
    let written = c.put_document.ensures ∙ ap (λ (w : List ℕ). w ++ document) c.in_ok-reserve.ensures.items in
    let m = pushed_document c.self.inside.last c.self.inside.bytes.items c.document.inside.id c.document.inside.encoded.now c.put_document.new.out.items c.self.invariant.list above c.document.invariant written in
    subst (λ f. IsKept f c.document.inside.id (c.self.inside.count + 1) c.put_document.new.out.items) (sym c.first_with-self-inside.ensures)
    (kept_more _ _ _ _ c.document.inside.id c.document.inside.id _ (posting_in c.document.inside.id c.document.inside.encoded.now ∷ []) c.self.invariant refl m)

pub returns-clause-ok : goal.returns-clause-ok
returns-clause-ok c =
    let above : c.self.inside.last < c.document.inside.id = omega (arith, c.requires, c.self.invariant.list.last_is, ap last_id c.self.view_is, ap (λ (p : Posting). p.id) c.document.view_is) in
    let document = number_bytes (c.document.inside.id - c.self.inside.last) ++ (c.document.inside.encoded.now ++ 0 ∷ []) in
    let written = c.put_document.ensures ∙ ap (λ (w : List ℕ). w ++ document) c.in_ok-reserve.ensures.items in
    let m = pushed_document c.self.inside.last c.self.inside.bytes.items c.document.inside.id c.document.inside.encoded.now c.put_document.new.out.items c.self.invariant.list above c.document.invariant written in
    m.view
    ∙ ap (λ (w : List Posting). w ++ posting_in c.document.inside.id c.document.inside.encoded.now ∷ []) c.self.view_is
    ∙ ap (λ (w : Posting). c.args.self.now ++ w ∷ []) c.document.view_is
