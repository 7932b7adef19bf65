use Rattle.std.proofs.Common.{arith, ◌<◌, ◌++◌, ◌∷◌, [], List, length, ap, ◌∙◌}
use Rattle.fts_ilist.specs.Spelling.{Posting, list_bytes, last_id}
use Rattle.fts_ilist.proofs.Tails.{posting_in}
use Rattle.fts_ilist.proofs.Kept.{size_with}
use Rattle.fts_ilist.proofs.list.Ilist.size_of.Goals as goal

pub returns : goal.returns
returns c =
    let above : c.self.inside.last < c.document.inside.id = omega (arith, c.requires, c.self.invariant.list.last_is, ap last_id c.self.view_is, ap (λ (p : Posting). p.id) c.document.view_is) in
    let size = size_with _ _ _ _ c.document.inside.id c.document.inside.encoded.now c.self.invariant above c.document.invariant in
    let whole = ap (λ (w : List Posting). length (list_bytes (w ++ posting_in c.document.inside.id c.document.inside.encoded.now ∷ []))) c.self.view_is
    ∙ ap (λ (w : Posting). length (list_bytes (c.args.self.now ++ w ∷ []))) c.document.view_is in
    omega (arith, whole, size, ap length c.self.invariant.list.spelled, ap (λ (w : List Posting). length (list_bytes w)) c.self.view_is, c.number_len.ensures.length)
