-- The last numbers of words, noted one after another.
use Rattle.std.proofs.Common.{◌≡◌, ℕ, replicate, ◌<◌, ◌≤◌, Bool, true, false, cond, ◌||◌, ◌==◌, List, [], ◌∷◌, length, take, get_or, sym, ap, ◌∙◌, arith}
use Rattle.std.specs.List.{list_any}
use Rattle.std.specs.Str.{bytes_eq}
use Rattle.std.proofs.lemmas.Bool.{false≢true}
use Rattle.std.proofs.lemmas.List.{get_or-replicate}

-- the words before a place are noted
pub record IsNoting (found : List ℕ) (words : List (List ℕ)) (number : ℕ) (old last : List ℕ) (met : Bool) (place : ℕ) : Type 0 where
  pub long : length last ≡ length words
  pub noted : (k : ℕ) → k < place → get_or last k 0 ≡ cond (bytes_eq found (get_or words k [])) number (get_or old k 0)
  pub left : (k : ℕ) → place ≤ k → get_or last k 0 ≡ get_or old k 0
  pub met_is : met ≡ ((length words == 0) || list_any (bytes_eq found) (take place words))

-- no word was met, and there are some
pub some_words : (words : List (List ℕ)) (any : Bool) → ((length words == 0) || any) ≡ false → 0 < length words
some_words [] any e = absurd (false≢true (sym e))
some_words (w ∷ ws) any e = omega arith

pub no_word : (words : List (List ℕ)) (any : Bool) → ((length words == 0) || any) ≡ false → any ≡ false
no_word words any e = second (length words == 0) any e
  where
    second : (a b : Bool) → (a || b) ≡ false → b ≡ false
    second true b h = absurd (false≢true (sym h))
    second false b h = h

-- numbers that were all set to 0
pub zeros_of : (last : List ℕ) (n : ℕ) → last ≡ replicate n 0 → (k : ℕ) → k < n → get_or last k 0 ≡ 0
zeros_of last n e k lt = ap (λ (xs : List ℕ). get_or xs k 0) e ∙ get_or-replicate n k 0 0 lt
