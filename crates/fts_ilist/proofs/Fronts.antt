-- Words in byte order: those that begin with a prefix stand one after another.
use Rattle.std.proofs.Common.{◌≡◌, ℕ, ◌<◌, Bool, true, false, cond, ◌&&◌, List, [], ◌∷◌, nat_eq, refl, sym, ap, subst, ◌∙◌, ⊎_elim, filter, arith}
use Rattle.std.specs.List.{AllByRecursion}
use Rattle.std.specs.declared.cmp.Ordering.{Ordering}
use Rattle.std.specs.declared.cmp.Ordering.TheVariants.{Less, Equal, Greater}
use Rattle.std.specs.Ordering.{is_le, is_gt, ordering_then}
use Rattle.std.specs.Cmp.{nat_cmp_is}
use Rattle.std.proofs.lemmas.Bool.{false≢true, true≢false, cases_Bool, cases_lt, cases_eq, eqb-true, eq-eqb, ne_eqb}
use Rattle.fts_words.specs.Order.{byte_order, begins_with}
use Rattle.fts_ilist.specs.Front.{front}

-- the order of two words by their first bytes and the rest
by_first : (a b : ℕ) (p q : List ℕ) (P : Ordering → Type 0) → (a < b → P Less) → (a ≡ b → P (byte_order p q)) → (b < a → P Greater) → P (byte_order (a ∷ p) (b ∷ q))
by_first a b p q P less equal greater =
    let at : Ordering → Type 0 = λ o. P (ordering_then o (byte_order p q)) in
    ⊎_elim
    (λ h. subst at (nat_cmp_is a b Less h) (less h))
    (λ h. ⊎_elim
    (λ e. subst at (nat_cmp_is a b Equal e) (equal e))
    (λ n. let above : b < a = omega (arith, n) in subst at (nat_cmp_is a b Greater above) (greater above))
    (cases_eq a b))
    (cases_lt a b)

and_left : (a b : Bool) → (a && b) ≡ true → a ≡ true
and_left true b e = refl
and_left false b e = e

and_right : (a b : Bool) → (a && b) ≡ true → b ≡ true
and_right true b e = e
and_right false b e = absurd (false≢true e)

-- what begins with a prefix isn't before it
pub begins_from : (p q : List ℕ) → begins_with p q ≡ true → is_gt (byte_order p q) ≡ false
begins_from [] [] e = refl
begins_from [] (b ∷ q) e = refl
begins_from (a ∷ p) [] e = absurd (false≢true e)
begins_from (a ∷ p) (b ∷ q) e =
    let same : a ≡ b = eqb-true a b (and_left (nat_eq a b) (begins_with p q) e) in
    by_first a b p q (λ o. is_gt o ≡ false)
    (λ lt. refl)
    (λ eq. begins_from p q (and_right (nat_eq a b) (begins_with p q) e))
    (λ gt. absurd (omega (arith, gt, same)))

-- behind a word that is behind the prefix and doesn't begin with it, no word does
past : (p x y : List ℕ) → is_gt (byte_order p x) ≡ false → begins_with p x ≡ false → byte_order x y ≡ Less → begins_with p y ≡ false
past [] x y from none less = absurd (true≢false none)
past (a ∷ p) [] y from none less = absurd (true≢false from)
past (a ∷ p) (b ∷ x) [] from none less = refl
past (a ∷ p) (b ∷ x) (d ∷ y) from none less =
    ⊎_elim
    (λ e. by_first a b p x (λ o. is_gt o ≡ false → begins_with (a ∷ p) (d ∷ y) ≡ false)
    (λ lt f. absurd (by_first b d x y (λ o. o ≡ Less → ⊥)
    (λ l2. absurd (omega (arith, lt, l2, e)))
    (λ e2. absurd (omega (arith, lt, e2, e)))
    (λ g2 z. true≢false (ap is_gt z))
    less))
    (λ eq f.
    let here : begins_with p x ≡ false = sym (ap (λ t. t && begins_with p x) (eq-eqb a b eq)) ∙ none in
    let later : byte_order x y ≡ Less = by_first b d x y (λ o. o ≡ Less → byte_order x y ≡ Less)
    (λ l2. absurd (omega (arith, l2, eq, e)))
    (λ e2 z. z)
    (λ g2. absurd (omega (arith, g2, eq, e)))
    less in
    ap (λ t. t && begins_with p y) (eq-eqb a d e) ∙ past p x y f here later)
    (λ gt f. absurd (true≢false f))
    from)
    (λ n. ap (λ t. t && begins_with p y) (ne_eqb a d n))
    (cases_eq a d)

-- the words from the prefix on
abbrev pub is_from : List ℕ → List ℕ → Bool
is_from p q = is_le (byte_order p q) && true

from_le : (o : Ordering) → (is_le o && true) ≡ true → is_gt o ≡ false
from_le Less e = refl
from_le Equal e = refl
from_le Greater e = absurd (false≢true e)

le_from : (o : Ordering) → is_gt o ≡ false → (is_le o && true) ≡ true
le_from Less e = refl
le_from Equal e = refl
le_from Greater e = absurd (true≢false e)

pub begun_is_from : (p q : List ℕ) → begins_with p q ≡ true → is_from p q ≡ true
begun_is_from p q e = le_from (byte_order p q) (begins_from p q e)

-- elements that each have a word
module _ {X : Type 0} (word : X → List ℕ) where
  -- all their words are behind w
  abbrev pub AllBehind : List ℕ → List X → Type 0
  AllBehind w xs = AllByRecursion (λ x. byte_order w (word x) ≡ Less) xs

  -- their words ascend
  abbrev pub Ascends : List X → Type 0
  Ascends [] = Unit {0}
  Ascends (x ∷ xs) = AllBehind (word x) xs × Ascends xs

module _ {X : Type 0} (word : X → List ℕ) (p : List ℕ) where
  abbrev begun : X → Bool
  begun x = begins_with p (word x)

  abbrev from : X → Bool
  from x = is_from p (word x)

  -- no word is before the prefix
  abbrev AllFrom : List X → Type 0
  AllFrom xs = AllByRecursion (λ x. is_gt (byte_order p (word x)) ≡ false) xs

  none_begins : (w : List ℕ) (xs : List X) → is_gt (byte_order p w) ≡ false → begins_with p w ≡ false → AllBehind word w xs → filter begun xs ≡ []
  none_begins w [] from none h = refl
  none_begins w (x ∷ xs) from none h =
      ap (λ b. cond b (x ∷ filter begun xs) (filter begun xs)) (past p w (word x) from none h.0)
      ∙ none_begins w xs from none h.1

  front_is : (xs : List X) → Ascends word xs → AllFrom xs → front word p xs ≡ filter begun xs
  front_is [] up from = refl
  front_is (x ∷ xs) up from =
      ⊎_elim
      (λ passes. ap (λ b. cond b (x ∷ front word p xs) []) passes ∙ ap (λ l. x ∷ l) (front_is xs up.1 from.1) ∙ sym (ap (λ b. cond b (x ∷ filter begun xs) (filter begun xs)) passes))
      (λ none. ap (λ b. cond b (x ∷ front word p xs) []) none ∙ sym (ap (λ b. cond b (x ∷ filter begun xs) (filter begun xs)) none ∙ none_begins (word x) xs from.0 none up.0))
      (cases_Bool (begun x))

  all_from : (xs : List X) → AllFrom (filter from xs)
  all_from [] = tt
  all_from (x ∷ xs) =
      ⊎_elim
      (λ in_range. subst (λ b. AllFrom (cond b (x ∷ filter from xs) (filter from xs))) (sym in_range) (from_le (byte_order p (word x)) in_range, all_from xs))
      (λ out. subst (λ b. AllFrom (cond b (x ∷ filter from xs) (filter from xs))) (sym out) (all_from xs))
      (cases_Bool (from x))

  -- of the words from the prefix on, the first that begin with it are all that do
  pub front_of_rest : (xs : List X) → Ascends word (filter (λ x. is_from p (word x)) xs)
      → front word p (filter (λ x. is_from p (word x)) xs) ≡ filter (λ x. begins_with p (word x)) (filter (λ x. is_from p (word x)) xs)
  front_of_rest xs up = front_is (filter from xs) up (all_from xs)
