use Rattle.std.proofs.Common.{arith, ◌<◌, ◌+◌, ◌-◌, ◌++◌, ◌∷◌, [], List, ℕ, refl, sym, ap, subst, ◌∙◌}
use Rattle.fts_ilist.specs.Number.{number_bytes}
use Rattle.fts_ilist.specs.Spelling.{Posting, items_bytes, position_items, last_id}
use Rattle.fts_ilist.specs.Reading.{IsKept}
use Rattle.fts_ilist.proofs.Lists.{pushed}
use Rattle.fts_ilist.proofs.Kept.{few_kept, kept_more}
use Rattle.fts_ilist.proofs.Queues.{few_positions}
use Rattle.fts_ilist.proofs.list.Ilist.push.Goals as goal

pub bytes_for_document-requires : goal.bytes_for_document-requires
bytes_for_document-requires c = omega (arith, few_positions 0 c.args.positions.now (omega arith) c.requires.positions.1)

pub overflow_add-self : goal.overflow_add-self
overflow_add-self c = omega (arith, few_kept _ _ _ _ c.self.invariant)

pub invariant_of-self-2 : goal.invariant_of-self-2
invariant_of-self-2 c =
    let d : Posting = record { id = c.args.doc; positions = c.args.positions.now } in
    let above : c.self.inside.last < c.args.doc = omega (arith, c.requires.above, c.self.invariant.list.last_is, ap last_id c.self.view_is) in
    let document = number_bytes (c.args.doc - c.self.inside.last) ++ (items_bytes (position_items 0 c.args.positions.now) ++ 0 ∷ []) in
    let written = c.put_posting.ensures.items ∙ ap (λ (w : List ℕ). w ++ document) c.in_ok-reserve.ensures.items in
    let m = pushed c.self.inside.last c.self.inside.bytes.items d c.put_posting.new.out.items c.self.invariant.list above (omega (arith, c.requires.limit)) c.requires.positions written in
    subst (λ f. IsKept f c.args.doc (c.self.inside.count + 1) c.put_posting.new.out.items) (sym c.first_with-self-inside.ensures)
    (kept_more _ _ _ _ c.args.doc c.args.doc _ (d ∷ []) c.self.invariant refl m)

pub returns-clause-ok : goal.returns-clause-ok
returns-clause-ok c =
    let d : Posting = record { id = c.args.doc; positions = c.args.positions.now } in
    let above : c.self.inside.last < c.args.doc = omega (arith, c.requires.above, c.self.invariant.list.last_is, ap last_id c.self.view_is) in
    let document = number_bytes (c.args.doc - c.self.inside.last) ++ (items_bytes (position_items 0 c.args.positions.now) ++ 0 ∷ []) in
    let written = c.put_posting.ensures.items ∙ ap (λ (w : List ℕ). w ++ document) c.in_ok-reserve.ensures.items in
    let m = pushed c.self.inside.last c.self.inside.bytes.items d c.put_posting.new.out.items c.self.invariant.list above (omega (arith, c.requires.limit)) c.requires.positions written in
    m.view ∙ ap (λ w. w ++ d ∷ []) c.self.view_is
