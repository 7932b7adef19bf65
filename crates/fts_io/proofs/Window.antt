use Rattle.std.proofs.Common.{◌≡◌, ℕ, ◌+◌, ◌-◌, ◌≤◌, List, [], ◌++◌, length, take, drop, sym, ◌∙◌, ap, append_assoc, length-drop, length-take, arith}
use Rattle.std.proofs.lemmas.List.{drop-drop, length-take-le, nil_from_length, take-append-drop, take_all}
use Rattle.std.proofs.Math.Seq.{take-add, take-append_seam}

-- the part of a list from a place to an end, empty where they meet and nowhere else
pub window-length : (at end : ℕ) (bytes : List ℕ) → end ≤ length bytes → length (drop at (take end bytes)) ≡ end - at
window-length at end bytes h = omega (arith, length-drop at (take end bytes), length-take end bytes)

pub window-empty : (at end : ℕ) (bytes view : List ℕ) → view ≡ drop at (take end bytes) → at ≡ end → end ≤ length bytes → view ≡ []
window-empty at end bytes view is meet h =
    is ∙ nil_from_length (drop at (take end bytes)) (omega (arith, window-length at end bytes h))

pub window-meets : (at end : ℕ) (bytes view : List ℕ) → view ≡ drop at (take end bytes) → view ≡ [] → at ≤ end → end ≤ length bytes → at ≡ end
window-meets at end bytes view is empty low h = omega (arith, window-length at end bytes h, ap length (sym is ∙ empty))

-- what was written so far, and a piece of what is left
pub written-more : (written count : ℕ) (held bytes : List ℕ)
    → (held ++ take written bytes) ++ take count (take (length bytes - written) (drop written bytes)) ≡ held ++ take (written + count) bytes
written-more written count held bytes =
    let rest : take (length bytes - written) (drop written bytes) ≡ drop written bytes =
    take_all (length bytes - written) (drop written bytes) (omega (arith, length-drop written bytes)) in
    ap (λ l. (held ++ take written bytes) ++ take count l) rest
    ∙ append_assoc held (take written bytes) (take count (drop written bytes))
    ∙ ap (λ l. held ++ l) (sym (take-add written count bytes))

-- a slice from a place on is the whole rest
pub rest-of : (at : ℕ) (bytes viewed : List ℕ) → viewed ≡ bytes → take (length viewed - at) (drop at viewed) ≡ drop at bytes
rest-of at bytes viewed same =
    take_all (length viewed - at) (drop at viewed) (omega (arith, length-drop at viewed)) ∙ ap (drop at) same

-- what a read gives of the bytes that are left, and what it leaves of them
pub read-takes : (count at : ℕ) (bytes left copied rest : List ℕ) → left ≡ drop at bytes → copied ≡ take count left → count ≤ length left
    → drop at bytes ≡ take count (copied ++ rest) ++ drop (at + count) bytes
read-takes count at bytes left copied rest same is h =
    let long : length copied ≡ count = ap length is ∙ length-take-le count left h in
    let front : take count (copied ++ rest) ≡ take count left =
    ap (λ n. take n (copied ++ rest)) (sym long) ∙ take-append_seam copied rest ∙ is in
    let behind : drop count left ≡ drop (at + count) bytes = ap (drop count) same ∙ drop-drop count at bytes in
    sym same
    ∙ sym (take-append-drop count left)
    ∙ ap (λ l. l ++ drop count left) (sym front)
    ∙ ap (λ l. take count (copied ++ rest) ++ l) behind
