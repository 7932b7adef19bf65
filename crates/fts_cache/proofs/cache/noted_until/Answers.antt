use Rattle.std.proofs.Common.{◌≡◌, ◌<◌, ◌+◌, ◌++◌, ◌∷◌, [], List, true, take, length, arith, ap, sym, subst, ◌∙◌}
use Rattle.std.proofs.lemmas.List.{take_more}
use Rattle.fts_cache.specs.declared.cache.Cached.{Cached}
use Rattle.fts_cache.specs.Kept.{notes}
use Rattle.fts_cache.proofs.Notes.{noted_more, notes_front}
use Rattle.fts_cache.proofs.cache.noted_until.Goals as goal

pub loop-place-preserved : goal.loop-place-preserved
loop-place-preserved c =
    let ds = c.args.documents.now.items in
    let i = c.loop-place.place in
    let d = c.index-document.result.now in
    let lt : i < length ds = omega (arith, c.loop-place-test.true, c.len-place-end.ensures, c.args.documents.now.ok.0) in
    let done : take (i + 1) ds ≡ take i ds ++ d ∷ [] = take_more ds i d lt ∙ ap (λ (x : Cached). take i ds ++ x ∷ []) (sym c.index-document.ensures) in
    λ n id h. noted_more n id (take i ds) d c.loop-place.numbers.items c.note.new.numbers.items c.in_ok-note.ensures (c.loop-place.invariant n id) (subst (λ (xs : List Cached). notes n id xs ≡ true) done h)

pub returns-then-document-doc : goal.returns-then-document-doc
returns-then-document-doc c =
    let ds = c.args.documents.now.items in
    let i = c.loop-place.place in
    let d = c.index-document.result.now in
    let lt : i < length ds = omega (arith, c.loop-place-test.true, c.len-place-end.ensures, c.args.documents.now.ok.0) in
    λ n id le h. c.loop-place.invariant n id (notes_front n id 0 c.requires.0 i ds d c.requires.1 lt (subst (λ (x : Cached). id < x.id) c.index-document.ensures (omega (arith, le, c.if-document-doc.true))) h)
