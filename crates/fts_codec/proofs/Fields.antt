-- Fields that are read one behind another: what is read is spelled so, and what is spelled so is read.
use Rattle.std.proofs.Common.{◌≡◌, ℕ, zero, suc, Bool, true, false, cond, ◌<◌, ◌^◌, List, [], ◌∷◌, ◌++◌, length, Option, Some, None, Result, Ok, Err, refl, ap, subst, ◌∙◌, append_assoc}
use Rattle.std.specs.Prelude.{All}
use Rattle.std.specs.List.{flat_map}
use Rattle.std.proofs.lemmas.List.Concat.{flat_map-cons}
use Rattle.std.proofs.lemmas.List.Elements.{All-nil, All-cons, All-head, All-tail}
use Rattle.std.specs.Int.{w16, w32, w64, to_be_bytes}
use Rattle.fts_codec.specs.Reading.{number_at}
use Rattle.fts_codec.specs.Fields.{◌>>=◌, or_left, field, many_at}
use Rattle.fts_codec.proofs.Spelled.{IsBytes, Takes, takes_both, Spells, number16, number32, number64}

-- the value of a step that did not fail
pub bind_ok : {A B : Type 0} (r : Result A ℕ) (f : A → Result B ℕ) (y : B) → (r >>= f) ≡ Ok y → (x : A) × (r ≡ Ok x) × (f x ≡ Ok y)
bind_ok (Ok x) f y e = (x, refl, e)
bind_ok (Err left) f y e = absurd cc

-- a step that does not fail
pub bind_again : {A B : Type 0} (r : Result A ℕ) (f : A → Result B ℕ) (x : A) (y : B) → r ≡ Ok x → f x ≡ Ok y → (r >>= f) ≡ Ok y
bind_again {A = A} r f x y e next = ap (λ (read : Result A ℕ). read >>= f) e ∙ next

-- steps, grouped in the other way
pub bind_bind : {A B C : Type 0} (r : Result A ℕ) (g : A → Result B ℕ) (f : B → Result C ℕ) → ((r >>= g) >>= f) ≡ (r >>= λ x. g x >>= f)
bind_bind (Ok x) g f = refl
bind_bind (Err left) g f = refl

pub field_ok : {A : Type 0} (left : ℕ) (o : Option A) (x : A) → or_left left o ≡ Ok x → o ≡ Some x
field_ok left (Some y) x e = cc
field_ok left None x e = absurd cc

-- a test that did not fail
pub passed_ok : {A : Type 0} (b : Bool) (left : ℕ) (x y : A) → cond b (Ok x) (Err left) ≡ Ok y → (b ≡ true) × (x ≡ y)
passed_ok true left x y e = (refl, cc)
passed_ok false left x y e = absurd cc

abbrev given : {A : Type 0} → A → Result A ℕ
given x = Ok x

pub ok_is : {A : Type 0} (x y : A) → given x ≡ given y → x ≡ y
ok_is x y e = cc

-- a reader gives the values that are spelled so, and all of these
pub record Reads {X : Type 0} (f : X → List ℕ) (Is : X → Type 0) (one : List ℕ → Result (X × List ℕ) ℕ) : Type 0 where
  pub takes : (bytes : List ℕ) (x : X) (rest : List ℕ) → IsBytes bytes → one bytes ≡ Ok (x, rest) → Is x × Takes bytes (f x) rest
  pub again : (x : X) (rest : List ℕ) → Is x → one (f x ++ rest) ≡ Ok (x, rest)

-- one field
pub reads : {X : Type 0} (f : X → List ℕ) (Is : X → Type 0) (one : List ℕ → Option (X × List ℕ)) → Spells f Is one → Reads f Is (field one)
reads {X = X} f Is one spells = record {
  takes = λ bytes x rest fits e. spells.takes bytes x rest fits (field_ok (length bytes) (one bytes) (x, rest) e);
  again = λ x rest is. ap (λ (o : Option (X × List ℕ)). or_left (length (f x ++ rest)) o) (spells.again x rest is);
}

pub reads16 : Reads (to_be_bytes w16) (λ n. n < 2 ^ 16) (field (number_at w16))
reads16 = reads (to_be_bytes w16) (λ n. n < 2 ^ 16) (number_at w16) number16

pub reads32 : Reads (to_be_bytes w32) (λ n. n < 2 ^ 32) (field (number_at w32))
reads32 = reads (to_be_bytes w32) (λ n. n < 2 ^ 32) (number_at w32) number32

pub reads64 : Reads (to_be_bytes w64) (λ n. n < 2 ^ 64) (field (number_at w64))
reads64 = reads (to_be_bytes w64) (λ n. n < 2 ^ 64) (number_at w64) number64

-- so many values, one behind another
module _ {X : Type 0} (f : X → List ℕ) (Is : X → Type 0) (one : List ℕ → Result (X × List ℕ) ℕ) (are : Reads f Is one) where
  pub many_take : (count : ℕ) (bytes : List ℕ) (xs : List X) (rest : List ℕ) → IsBytes bytes → many_at one count bytes ≡ Ok (xs, rest)
      → (length xs ≡ count) × All Is xs × Takes bytes (flat_map f xs) rest
  unfolding many_at
  many_take zero bytes xs rest fits e =
      subst (λ (y : List X × List ℕ). (length y.0 ≡ 0) × All Is y.0 × Takes bytes (flat_map f y.0) y.1) (ok_is ([], bytes) (xs, rest) e) (refl, All-nil Is, (refl, fits))
  many_take (suc count) bytes xs rest fits e =
      let a = bind_ok (one bytes) (λ first. many_at one count first.1 >>= λ others. Ok (first.0 ∷ others.0, others.1)) (xs, rest) e in
      let b = bind_ok (many_at one count a.0.1) (λ others. Ok (a.0.0 ∷ others.0, others.1)) (xs, rest) a.2 in
      let first = are.takes bytes a.0.0 a.0.1 fits a.1 in
      let others = many_take count a.0.1 b.0.0 b.0.1 first.1.1 b.1 in
      let both = takes_both bytes (f a.0.0) a.0.1 (flat_map f b.0.0) b.0.1 first.1 others.2 in
      subst (λ (y : List X × List ℕ). (length y.0 ≡ suc count) × All Is y.0 × Takes bytes (flat_map f y.0) y.1) (ok_is (a.0.0 ∷ b.0.0, b.0.1) (xs, rest) b.2)
      (ap suc others.0, All-cons Is a.0.0 b.0.0 first.0 others.1, rw flat_map-cons both)

  pub many_again : (xs : List X) (rest : List ℕ) → All Is xs → many_at one (length xs) (flat_map f xs ++ rest) ≡ Ok (xs, rest)
  unfolding many_at
  many_again [] rest each = refl
  many_again (x ∷ xs) rest each =
      let regrouped : flat_map f (x ∷ xs) ++ rest ≡ f x ++ (flat_map f xs ++ rest) = ap (λ (y : List ℕ). y ++ rest) (flat_map-cons f x xs) ∙ append_assoc (f x) (flat_map f xs) rest in
      ap (many_at one (suc (length xs))) regrouped ∙ rw (are.again x (flat_map f xs ++ rest) (All-head Is x xs each), many_again xs rest (All-tail Is x xs each)) refl
