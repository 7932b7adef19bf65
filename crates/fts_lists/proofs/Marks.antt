-- Marks beside ids.
use Rattle.std.proofs.Common.{◌≡◌, ℕ, ◌+◌, ◌<◌, Bool, true, false, ◌||◌, ◌&&◌, not, List, length, take, set, get_or, cond, refl, sym, ap, ◌∙◌, ⊎_elim, arith}
use Rattle.std.proofs.lemmas.Bool.{cases_eq, eq-eqb, ne_eqb}
use Rattle.std.proofs.lemmas.List.{get_or-set_other}
use Rattle.std.proofs.lemmas.Grind.{get_or-set_at}
use Rattle.fts_ids.specs.Ids.{has}
use Rattle.fts_ids.specs.Marks.{is_marked}
use Rattle.fts_ids.proofs.Ascending.{has-more}
use Rattle.fts_lists.specs.Ids.{AreMarked, with_ids, without}
use Rattle.fts_lists.proofs.Ascending.{has-without}
use Rattle.fts_lists.proofs.Merging.{has-with_ids}

or_true : (a b : Bool) → (a || (true || b)) ≡ true
or_true true b = refl
or_true false b = refl

or_none : (a : Bool) → (a || (false || false)) ≡ a
or_none true = refl
or_none false = refl

-- one id more, which is this one or another
more_is : (ids : List ℕ) (k id : ℕ) → k < length ids → id ≡ get_or ids k 0 → has (take (k + 1) ids) id ≡ true
more_is ids k id lt e = has-more ids k id lt ∙ ap (λ b. has (take k ids) id || (b || false)) (eq-eqb id (get_or ids k 0) e) ∙ or_true (has (take k ids) id) false

more_other : (ids : List ℕ) (k id : ℕ) → k < length ids → (id ≡ get_or ids k 0 → ⊥) → has (take (k + 1) ids) id ≡ has (take k ids) id
more_other ids k id lt o = has-more ids k id lt ∙ ap (λ b. has (take k ids) id || (b || false)) (ne_eqb id (get_or ids k 0) o) ∙ or_none (has (take k ids) id)

-- the mark of one id is set
pub set_one : (first marks : List Bool) (ids : List ℕ) (k id : ℕ) (m : Bool) → k < length ids → get_or ids k 0 < length marks
    → is_marked marks id ≡ cond (has (take k ids) id) m (is_marked first id)
    → is_marked (set marks (get_or ids k 0) m) id ≡ cond (has (take (k + 1) ids) id) m (is_marked first id)
set_one first marks ids k id m lt within same =
    let x = get_or ids k 0 in
    ⊎_elim
    (λ (e : id ≡ x). get_or-set_at marks x id m false e within ∙ sym (ap (λ b. cond b m (is_marked first id)) (more_is ids k id lt e)))
    (λ (o : id ≡ x → ⊥). get_or-set_other marks x id m false o ∙ same ∙ sym (ap (λ b. cond b m (is_marked first id)) (more_other ids k id lt o)))
    (cases_eq id x)

put_is : (a b c : Bool) → c ≡ a → cond b true c ≡ (a || b)
put_is true true c e = refl
put_is false true c e = refl
put_is true false c e = e
put_is false false c e = e

taken_is : (a b c : Bool) → c ≡ a → cond b false c ≡ (not b && a)
taken_is a true c e = refl
taken_is a false c e = e

-- ids are put in, and marked
pub put_marks : (old new : List Bool) (held more all : List ℕ) → AreMarked old held → length new ≡ length old
    → ((id : ℕ) → id < length old → is_marked new id ≡ cond (has more id) true (is_marked old id)) → all ≡ with_ids held more → AreMarked new all
put_marks old new held more all are size each is id lt =
    let before : id < length old = omega (arith, lt, size) in
    each id before
    ∙ put_is (has held id) (has more id) (is_marked old id) (are id before)
    ∙ sym (ap (λ xs. has xs id) is ∙ has-with_ids held more id)

-- ids are taken out, and are marked no more
pub drop_marks : (old new : List Bool) (held taken all : List ℕ) → AreMarked old held → length new ≡ length old
    → ((id : ℕ) → id < length old → is_marked new id ≡ cond (has taken id) false (is_marked old id)) → all ≡ without taken held → AreMarked new all
drop_marks old new held taken all are size each is id lt =
    let before : id < length old = omega (arith, lt, size) in
    each id before
    ∙ taken_is (has held id) (has taken id) (is_marked old id) (are id before)
    ∙ sym (ap (λ xs. has xs id) is ∙ has-without taken held id)
