-- Work of sessions that is put together, and taken apart again.
use Rattle.std.proofs.Common.{◌≡◌, List, [], ◌∷◌, ◌++◌, length, map, refl, ap, sym, ◌∙◌, arith}
use Rattle.std.proofs.lemmas.List.{append-nil}

pub no_more : {A : Type 0} (xs : List A) → length xs ≡ 0 → xs ≡ []
no_more [] is = refl
no_more (x ∷ xs) is = absurd (omega (arith, is))

-- one more was put to the others
pub put_more : {A B C : Type 0} (from : A → C) (to : B → C) (done : List B) (one : B) (was : A) (rest : List A) → to one ≡ from was
    → map to done ++ map from (was ∷ rest) ≡ map to (done ++ one ∷ []) ++ map from rest
put_more from to [] one was rest same = ap (λ c. c ∷ map from rest) (sym same)
put_more from to (first ∷ done) one was rest same = ap (λ cs. to first ∷ cs) (put_more from to done one was rest same)

-- all were
pub put_all : {A B C : Type 0} (from : A → C) (to : B → C) (all : List C) (done : List B) (rest : List A) → all ≡ map to done ++ map from rest → length rest ≡ 0 → all ≡ map to done
put_all from to all done rest so_far none = so_far ∙ ap (λ more. map to done ++ map from more) (no_more rest none) ∙ append-nil (map to done)
