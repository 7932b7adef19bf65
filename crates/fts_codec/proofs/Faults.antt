-- Where reading stops, the grammar has the first fault.
use Rattle.std.proofs.Common.{◌≡◌, ℕ, zero, suc, ◌+◌, ◌-◌, ◌≤◌, Bool, true, false, cond, eqb, List, [], ◌∷◌, ◌++◌, length, Option, Some, None, Result, Ok, Err, refl, sym, ap, ◌∙◌, inl, inr, arith}
use Rattle.std.proofs.lemmas.List.{length-append}
use Rattle.fts_codec.specs.Reading.{behind_at}
use Rattle.fts_codec.specs.Fields.{◌>>=◌, or_left, field, many_at}
use Rattle.fts_codec.specs.Grammar.{Faults, InField, AtEnd, InMany, one_byte}
use Rattle.fts_codec.proofs.Spelled.{IsBytes, Spells, byte_takes, byte_again}
use Rattle.fts_codec.proofs.Fields.{bind_bind}

-- so many bytes are left from the first fault on
abbrev pub Left : Faults → List ℕ → ℕ → Type 0
Left Where bytes left = (left ≤ length bytes) × Where bytes (length bytes - left)

module _ {X : Type 0} (spelled : X → List ℕ) (May : X → Type 0) (Behind : X → Faults) (bytes : List ℕ) (left : ℕ) where
  -- none of a field's values stands there
  pub stuck : ((x : X) (rest : List ℕ) → May x → bytes ≡ spelled x ++ rest → ⊥) → length bytes ≡ left → Left (InField spelled May Behind) bytes left
  stuck none is = (omega (arith, is), inl (omega (arith, is), none))

  -- one stands there
  pub passes : (x : X) (rest : List ℕ) → May x → bytes ≡ spelled x ++ rest → Left (Behind x) rest left → Left (InField spelled May Behind) bytes left
  passes x rest may is behind =
      let long : length bytes ≡ length (spelled x) + length rest = ap length is ∙ length-append (spelled x) rest in
      (omega (arith, long, behind.0), inr (x, rest, length rest - left, may, is, omega (arith, long, behind.0), behind.1))

-- a field, and what is read behind it
module _ {X : Type 0} (spelled : X → List ℕ) (May : X → Type 0) (read : List ℕ → Option (X × List ℕ)) (spells : Spells spelled May read) where
  pub in_field : {B : Type 0} (f : X × List ℕ → Result B ℕ) (Behind : X → Faults) (bytes : List ℕ) (left : ℕ) → IsBytes bytes
      → ((x : X) (rest : List ℕ) → IsBytes rest → f (x, rest) ≡ Err left → Left (Behind x) rest left)
      → (field read bytes >>= f) ≡ Err left → Left (InField spelled May Behind) bytes left
  in_field {B = B} f Behind bytes left fits next e = by (read bytes) refl e
    where
      by : (found : Option (X × List ℕ)) → read bytes ≡ found → (or_left (length bytes) found >>= f) ≡ Err left → Left (InField spelled May Behind) bytes left
      by (Some x) at e =
          let here = spells.takes bytes x.0 x.1 fits at in
          passes spelled May Behind bytes left x.0 x.1 here.0 here.1.0 (next x.0 x.1 here.1.1 e)
      by None at e =
          stuck spelled May Behind bytes left (λ x rest may same. (let again = ap read same ∙ spells.again x rest may in let none = at in absurd cc)) (let e = e in cc)

-- a byte that is given, and what is read behind it
pub in_byte : {B : Type 0} (byte : ℕ) (f : List ℕ → Result B ℕ) (Behind : Faults) (bytes : List ℕ) (left : ℕ) → IsBytes bytes
    → ((rest : List ℕ) → IsBytes rest → f rest ≡ Err left → Left Behind rest left)
    → (field (behind_at byte) bytes >>= f) ≡ Err left → Left (InField one_byte (λ n. n ≡ byte) (λ n. Behind)) bytes left
in_byte {B = B} byte f Behind bytes left fits next e = by (behind_at byte bytes) refl e
  where
    by : (found : Option (List ℕ)) → behind_at byte bytes ≡ found → (or_left (length bytes) found >>= f) ≡ Err left → Left (InField one_byte (λ n. n ≡ byte) (λ n. Behind)) bytes left
    by (Some rest) at e =
        let here = byte_takes byte bytes rest fits at in
        passes one_byte (λ n. n ≡ byte) (λ n. Behind) bytes left byte rest refl here.0 (next rest here.1 e)
    by None at e =
        stuck one_byte (λ n. n ≡ byte) (λ n. Behind) bytes left
        (λ n rest is same. (let again = ap (behind_at byte) same ∙ byte_again byte n rest is in let none = at in absurd cc)) (let e = e in cc)

-- a reader of a part, and what is read behind it
pub record Leads {X : Type 0} (read : List ℕ → Result (X × List ℕ) ℕ) (Part : Faults → Faults) : Type 1 where
  pub leads : {B : Type 0} (f : X × List ℕ → Result B ℕ) (Behind : Faults) (bytes : List ℕ) (left : ℕ) → IsBytes bytes
      → ((x : X) (rest : List ℕ) → IsBytes rest → f (x, rest) ≡ Err left → Left Behind rest left)
      → (read bytes >>= f) ≡ Err left → Left (Part Behind) bytes left

-- so many parts
module _ {X : Type 0} (one : List ℕ → Result (X × List ℕ) ℕ) (Part : Faults → Faults) (part : Leads one Part) where
  pub in_many : {B : Type 0} (count : ℕ) (f : List X × List ℕ → Result B ℕ) (Behind : Faults) (bytes : List ℕ) (left : ℕ) → IsBytes bytes
      → ((xs : List X) (rest : List ℕ) → IsBytes rest → f (xs, rest) ≡ Err left → Left Behind rest left)
      → (many_at one count bytes >>= f) ≡ Err left → Left (InMany Part count Behind) bytes left
  unfolding many_at
  in_many zero f Behind bytes left fits next e = next [] bytes fits e
  in_many (suc count) f Behind bytes left fits next e =
      part.leads (λ first. (many_at one count first.1 >>= λ others. Ok (first.0 ∷ others.0, others.1)) >>= f) (InMany Part count Behind) bytes left fits
      (λ x rest within e. in_many count (λ others. f (x ∷ others.0, others.1)) Behind rest left within (λ xs rest within e. next (x ∷ xs) rest within e)
      (sym (bind_bind (many_at one count rest) (λ others. Ok (x ∷ others.0, others.1)) f) ∙ e))
      (sym (bind_bind (one bytes) (λ first. many_at one count first.1 >>= λ others. Ok (first.0 ∷ others.0, others.1)) f) ∙ e)

  pub many_leads : (count : ℕ) → Leads (many_at one count) (InMany Part count)
  many_leads count = record { leads = λ f Behind bytes left fits next e. in_many count f Behind bytes left fits next e }

-- the end of what is read
not_passed : {X : Type 0} (b : Bool) (x : X) (n left : ℕ) → cond b (Ok x) (Err n) ≡ Err left → (b ≡ false) × (n ≡ left)
not_passed true x n left e = absurd cc
not_passed false x n left e = (refl, (let e = e in cc))

pub in_end : {X : Type 0} (x : X) (rest : List ℕ) (left : ℕ) → cond (eqb (length rest) 0) (Ok x) (Err (length rest)) ≡ Err left → Left AtEnd rest left
in_end x rest left e =
    let over = not_passed (eqb (length rest) 0) x (length rest) left e in
    let some : rest ≡ [] → ⊥ = λ none. (let same : eqb (length rest) 0 ≡ true = ap (λ (xs : List ℕ). eqb (length xs) 0) none in let other = over.0 in absurd cc) in
    (omega (arith, over.1), (omega (arith, over.1), some))
