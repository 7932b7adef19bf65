-- Vectors that were computed lane by lane.
use Rattle.std.proofs.Common.{◌≡◌, ℕ, List, [], ◌∷◌, map, length, replicate, refl, sym, ap, ap₂, ◌∙◌}
use lib.Lanes.{zip2}

zip2-map : (h : ℕ → ℕ → ℕ) (f g : ℕ → ℕ) (xs : List ℕ) → zip2 h (map f xs) (map g xs) ≡ map (λ x. h (f x) (g x)) xs
zip2-map h f g [] = refl
zip2-map h f g (x ∷ xs) = ap (λ r. h (f x) (g x) ∷ r) (zip2-map h f g xs)

-- an operation on two vectors that were computed lane by lane from v
pub joined : (h : ℕ → ℕ → ℕ) (f g : ℕ → ℕ) (v : List ℕ) {a b : List ℕ} → a ≡ map f v → b ≡ map g v → zip2 h a b ≡ map (λ x. h (f x) (g x)) v
joined h f g v p q = ap₂ (zip2 h) p q ∙ zip2-map h f g v

pub splat_is : (v : List ℕ) (n y : ℕ) → length v ≡ n → replicate n y ≡ map (λ _. y) v
splat_is [] n y e = ap (λ k. replicate k y) (sym e)
splat_is (x ∷ xs) n y e = ap (λ k. replicate k y) (sym e) ∙ ap (λ r. y ∷ r) (splat_is xs (length xs) y refl)
