-- A union, id by id.
use Rattle.std.specs.Prelude.{IfOk}
use Rattle.std.proofs.Common.{Result, Ok, Err, subst, ◌≡◌, ℕ, ◌+◌, ◌<◌, ◌≤◌, min, inl, inr, ◌⊎◌, Bool, true, false, ◌||◌, List, [], ◌∷◌, ◌++◌, length, get_or, nat_eq, refl, sym, ap, ◌∙◌, ⊎_elim, arith}
use Rattle.std.proofs.lemmas.Bool.{cases_lt, false≢true, eqb-true, eq-eqb}
use Rattle.std.proofs.lemmas.List.Folds.{list_any-append}
use Rattle.fts_ids.specs.Ids.{has, AscendFrom}
use Rattle.fts_ids.specs.Union.{IsUniting}
use Rattle.fts_ids.proofs.Ascending.{AscendFrom-sooner, AscendFrom-push, AscendFrom-join, one_of}

head_at_least : (xs : List ℕ) (n : ℕ) → AscendFrom n xs → 0 < length xs → n ≤ get_or xs 0 0
head_at_least [] n f some = absurd (omega (arith, some))
head_at_least (x ∷ xs) n f some = f.0

head_in : (xs : List ℕ) → 0 < length xs → has xs (get_or xs 0 0) ≡ true
head_in [] some = absurd (omega (arith, some))
head_in (x ∷ xs) some = ap (λ (b : Bool). b || has xs x) (eq-eqb x x refl)

-- an id that is left out where it was the first
pub behind_first : (x id : ℕ) (xs : List ℕ) → AscendFrom id (x ∷ xs) → x ≡ id → AscendFrom (id + 1) xs
behind_first x id xs f e = AscendFrom-sooner (x + 1) (id + 1) xs f.1 (omega (arith, e))

united : (w e l r l' r' : Bool) → (e || l') ≡ (e || l) → (e || r') ≡ (e || r) → (e ≡ true → (l || r) ≡ true) → ((w || (e || false)) || (l' || r')) ≡ (w || (l || r))
united true e l r l' r' p q h = refl
united false true l r l' r' p q h = sym (h refl)
united false false l r l' r' p q h = ap (λ (b : Bool). b || r') p ∙ ap (λ (b : Bool). l || b) q

in_one : (l r : Bool) → l ≡ true → (l || r) ≡ true
in_one true r e = refl
in_one false r e = absurd (false≢true e)

in_other : (l r : Bool) → r ≡ true → (l || r) ≡ true
in_other true r e = refl
in_other false r e = e

module _ (a b written left right : List ℕ) (id : ℕ) where
  in_either : 0 < length left → 0 < length right → id ≡ min (get_or left 0 0) (get_or right 0 0) → (has left id || has right id) ≡ true
  in_either some_left some_right is =
      let x = get_or left 0 0 in
      let y = get_or right 0 0 in
      ⊎_elim
      (λ (le : x ≤ y). let e : id ≡ x = omega (arith, is, le) in in_one (has left id) (has right id) (ap (has left) e ∙ head_in left some_left))
      (λ (le : y ≤ x). let e : id ≡ y = omega (arith, is, le) in in_other (has left id) (has right id) (ap (has right) e ∙ head_in right some_right))
      (by_size x y)
    where
      by_size : (x y : ℕ) → (x ≤ y) ⊎ (y ≤ x)
      by_size x y = ⊎_elim (λ lt. inl (omega (arith, lt))) (λ ge. inr (omega (arith, ge))) (cases_lt x y)

  pub uniting_more : (left' right' : List ℕ) → 0 < length left → 0 < length right → id ≡ min (get_or left 0 0) (get_or right 0 0)
      → AscendFrom (id + 1) left' → AscendFrom (id + 1) right'
      → ((q : ℕ) → (nat_eq q id || has left' q) ≡ (nat_eq q id || has left q))
      → ((q : ℕ) → (nat_eq q id || has right' q) ≡ (nat_eq q id || has right q))
      → IsUniting a b written left right → IsUniting a b (written ++ id ∷ []) left' right'
  uniting_more left' right' some_left some_right is left_up right_up left_same right_same u =
      let above : (q : ℕ) → has written q ≡ true → q < id = λ q h.
      omega (arith, is, head_at_least left (q + 1) (u.left_above q h) some_left, head_at_least right (q + 1) (u.right_above q h) some_right) in
      let up_to : (q : ℕ) → has (written ++ id ∷ []) q ≡ true → q ≤ id = λ q h.
      ⊎_elim
      (λ before. omega (arith, above q before))
      (λ here. ⊎_elim (λ e. omega (arith, eqb-true q id e)) (λ e. absurd (false≢true e)) (one_of (nat_eq q id) false here))
      (one_of (has written q) (nat_eq q id || false) (sym (list_any-append (nat_eq q) written (id ∷ [])) ∙ h)) in
      record {
        ascend = AscendFrom-push 0 written id u.ascend above (omega arith);
        left_ascends = AscendFrom-sooner (id + 1) 0 left' left_up (omega arith);
        right_ascends = AscendFrom-sooner (id + 1) 0 right' right_up (omega arith);
        left_above = λ q h. let le = up_to q h in AscendFrom-sooner (id + 1) (q + 1) left' left_up (omega (arith, le));
        right_above = λ q h. let le = up_to q h in AscendFrom-sooner (id + 1) (q + 1) right' right_up (omega (arith, le));
        same = λ q.
            ap (λ (w : Bool). w || (has left' q || has right' q)) (list_any-append (nat_eq q) written (id ∷ []))
            ∙ united (has written q) (nat_eq q id) (has left q) (has right q) (has left' q) (has right' q) (left_same q) (right_same q) (λ e. ap (λ (k : ℕ). has left k || has right k) (eqb-true q id e) ∙ in_either some_left some_right is)
            ∙ u.same q;
      }

or_false : (b : Bool) → (b || false) ≡ b
or_false true = refl
or_false false = refl

none_of : (xs : List ℕ) → length xs ≡ 0 → xs ≡ []
none_of [] e = refl
none_of (x ∷ xs) e = absurd (omega (arith, e))

-- where nothing is left of one list, what is left of the other one follows
module _ (a b written left right : List ℕ) (u : IsUniting a b written left right) where
  pub united_left : length right ≡ 0 → AscendFrom 0 (written ++ left)
  united_left none = AscendFrom-join 0 written left u.ascend u.left_ascends u.left_above

  pub united_right : length left ≡ 0 → AscendFrom 0 (written ++ right)
  united_right none = AscendFrom-join 0 written right u.ascend u.right_ascends u.right_above

  pub has_left : length right ≡ 0 → (q : ℕ) → has (written ++ left) q ≡ (has a q || has b q)
  has_left none q =
      list_any-append (nat_eq q) written left
      ∙ ap (λ (l : Bool). has written q || l) (sym (or_false (has left q)) ∙ ap (λ (ys : List ℕ). has left q || has ys q) (sym (none_of right none)))
      ∙ u.same q

  pub has_right : length left ≡ 0 → (q : ℕ) → has (written ++ right) q ≡ (has a q || has b q)
  has_right none q =
      list_any-append (nat_eq q) written right
      ∙ ap (λ (ys : List ℕ). has written q || (has ys q || has right q)) (sym (none_of left none))
      ∙ u.same q

-- the same of a result
pub ascends_so : {V E : Type 0} (items : V → List ℕ) (xs : List ℕ) (r : Result V E) → AscendFrom 0 xs → IfOk r (λ v. items v ≡ xs) → IfOk r (λ v. AscendFrom 0 (items v))
ascends_so items xs (Ok v) up is = subst (AscendFrom 0) (sym is) up
ascends_so items xs (Err e) up is = tt
