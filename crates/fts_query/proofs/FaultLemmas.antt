-- A scan for faults: what is known of the places that it has passed.
use Rattle.std.proofs.Common.{◌≡◌, ℕ, ◌+◌, ◌-◌, ◌<◌, ◌≤◌, ◌⊎◌, true, false, eqb, min, ◌&&◌, List, length, get_or, Option, None, Some, sym, subst, inl, inr, ⊎_elim, arith, eqb-true, eq-eqb}
use Rattle.std.proofs.lemmas.Bool.{cases_Bool, cases_lt}
use Rattle.std.proofs.lemmas.Bool.Decides.{nat_tests}
use Rattle.fts_words.proofs.RunLemmas.{clash}
use Rattle.fts_meaning.specs.Token.{stray_at}
use Rattle.fts_meaning.specs.Fault.{opened, closed, IsLoneOpen, IsLoneClose, IsFaulty, IsTooDeep}
use Rattle.fts_meaning.proofs.Places.{CountsAs, counts_open, counts_close, counts_other}
use Rattle.fts_query.specs.Found.{IsEarly, IsFirstBetween, IsSeenFrom, height_behind, earlier}

-- how many brackets are open before a place
pub record IsHeight (text : List ℕ) (place height : ℕ) : Type 0 where
  pub is : height + closed text place ≡ opened text place
  pub small : height ≤ place

-- what the byte at a place is to the brackets
data Bracket (text : List ℕ) (i : ℕ) : Type 0 where
  opens : get_or text i 0 ≡ 40 → CountsAs text i 1 0 → Bracket text i
  closes : get_or text i 0 ≡ 41 → CountsAs text i 0 1 → Bracket text i
  other : eqb (get_or text i 0) 40 ≡ false → eqb (get_or text i 0) 41 ≡ false → CountsAs text i 0 0 → Bracket text i

bracket_at : (text : List ℕ) (i : ℕ) → i < length text → Bracket text i
bracket_at text i within =
    ⊎_elim
    (λ (open_ : eqb (get_or text i 0) 40 ≡ true). let is = eqb-true _ 40 open_ in opens is (counts_open text i within is))
    (λ (no_open : eqb (get_or text i 0) 40 ≡ false).
    ⊎_elim
    (λ (close : eqb (get_or text i 0) 41 ≡ true). let is = eqb-true _ 41 close in closes is (counts_close text i within is))
    (λ (no_close : eqb (get_or text i 0) 41 ≡ false). other no_open no_close (counts_other text i within no_open no_close))
    (cases_Bool (eqb (get_or text i 0) 41)))
    (cases_Bool (eqb (get_or text i 0) 40))

height_by : (text : List ℕ) (i height : ℕ) → IsHeight text i height → closed text (i + 1) ≤ opened text (i + 1) → Bracket text i → IsHeight text (i + 1) (height_behind (get_or text i 0) height)
height_by text i height here order (opens is counts) =
    subst (λ (b : ℕ). IsHeight text (i + 1) (height_behind b height)) (sym is) (record { is = omega (arith, here.is, counts.opens, counts.closes); small = omega (arith, here.small) })
height_by text i height here order (closes is counts) =
    subst (λ (b : ℕ). IsHeight text (i + 1) (height_behind b height)) (sym is) (record { is = omega (arith, here.is, counts.opens, counts.closes); small = omega (arith, here.small) })
height_by text i height here order (other no_open no_close counts) =
    rw (no_open, no_close) (record { is = omega (arith, here.is, counts.opens, counts.closes); small = omega (arith, here.small) })

-- the height behind a place, where no more brackets close than open
pub height_on : (text : List ℕ) (i height : ℕ) → i < length text → IsHeight text i height → closed text (i + 1) ≤ opened text (i + 1) → IsHeight text (i + 1) (height_behind (get_or text i 0) height)
height_on text i height within here order = height_by text i height here order (bracket_at text i within)

-- a scan from the front, which has met no fault
pub record IsPassed (query text : List ℕ) (place height : ℕ) : Type 0 where
  pub height_is : IsHeight text place height
  pub order : (j : ℕ) → j ≤ place → closed text j ≤ opened text j
  pub none : (j : ℕ) → j < place → IsEarly query text j → ⊥

order_by : (text : List ℕ) (i height : ℕ) → IsHeight text i height → (eqb (get_or text i 0) 41 && eqb height 0) ≡ false → Bracket text i → closed text (i + 1) ≤ opened text (i + 1)
order_by text i height here open_ (opens is counts) = omega (arith, here.is, counts.opens, counts.closes)
order_by text i height here open_ (closes is counts) =
    let byte : eqb (get_or text i 0) 41 ≡ true = eq-eqb _ 41 is in
    let some : eqb height 0 ≡ false = rw byte at open_ in
    let above : 0 < height = grind (arith, nat_tests) in
    omega (arith, here.is, counts.opens, counts.closes)
order_by text i height here open_ (other no_open no_close counts) = omega (arith, here.is, counts.opens, counts.closes)

not_lone : (text : List ℕ) (i height : ℕ) → IsHeight text i height → (eqb (get_or text i 0) 41 && eqb height 0) ≡ false → IsLoneClose text i → ⊥
not_lone text i height here open_ lone =
    let byte : eqb (get_or text i 0) 41 ≡ true = eq-eqb _ 41 lone.is in
    let some : eqb height 0 ≡ false = rw byte at open_ in
    let above : 0 < height = grind (arith, nat_tests) in
    let none = lone.none 0 (omega arith) in
    omega (arith, here.is)

pub passed_more : (query text : List ℕ) (i height : ℕ) → IsPassed query text i height → i < length text → stray_at query text i ≡ false → (eqb (get_or text i 0) 41 && eqb height 0) ≡ false → IsPassed query text (i + 1) (height_behind (get_or text i 0) height)
passed_more query text i height passed within fine open_ =
    let next = order_by text i height passed.height_is open_ (bracket_at text i within) in
    record {
      height_is = height_on text i height within passed.height_is next;
      order = λ j low. ⊎_elim
          (λ (less : j < i + 1). passed.order j (omega arith))
          (λ (most : i + 1 ≤ j). let same : i + 1 ≡ j = omega arith in subst (λ (x : ℕ). closed text x ≤ opened text x) same next)
          (cases_lt j (i + 1));
      none = λ j less early. ⊎_elim
          (λ (before : j < i). passed.none j before early)
          (λ (here : i ≤ j).
          let same : j ≡ i = omega arith in
          ⊎_elim
          (λ (fault : stray_at query text j ≡ true). clash (stray_at query text i) (subst (λ (x : ℕ). stray_at query text x ≡ true) same fault) fine)
          (λ (lone : IsLoneClose text j). not_lone text i height passed.height_is open_ (subst (IsLoneClose text) same lone))
          early)
          (cases_lt j i);
    }

-- a scan from the end
module _ (text : List ℕ) where
  Most : ℕ → ℕ → ℕ → Type 0
  Most place pending end = closed text end + opened text place ≤ opened text end + closed text place + pending

  module _ (i pending : ℕ) (found : Option ℕ) (within : i < length text) (seen : IsSeenFrom text (i + 1) pending found) where
    most_on : (next : ℕ) → ((end : ℕ) → i + 1 ≤ end → end ≤ length text → Most i next end) → (end : ℕ) → i ≤ end → end ≤ length text → Most i next end
    unfolding Most
    most_on next behind end low high =
        ⊎_elim
        (λ (more : i < end). behind end (omega arith) high)
        (λ (least : end ≤ i).
        let same : i ≡ end = omega arith in
        subst (λ (x : ℕ). closed text x + opened text i ≤ opened text x + closed text i + next) same (omega arith))
        (cases_lt i end)

    found_on : (found : Option ℕ) → IsFirstBetween (IsLoneOpen text) (i + 1) (length text) found → (IsLoneOpen text i → ⊥) → IsFirstBetween (IsLoneOpen text) i (length text) found
    found_on None none here = λ j low high lone. ⊎_elim
        (λ (more : i < j). none j (omega arith) high lone)
        (λ (least : j ≤ i). let same : j ≡ i = omega arith in here (subst (IsLoneOpen text) same lone))
        (cases_lt i j)
    found_on (Some place) some here = (
      omega (arith, some.0),
      some.1,
      some.2,
      λ j low less lone. ⊎_elim
          (λ (more : i < j). some.3 j (omega arith) less lone)
          (λ (least : j ≤ i). let same : j ≡ i = omega arith in here (subst (IsLoneOpen text) same lone))
          (cases_lt i j),
    )

    pub seen_close : get_or text i 0 ≡ 41 → IsSeenFrom text i (pending + 1) found
    unfolding Most
    seen_close byte =
        let counts = counts_close text i within byte in
        let e = seen.reached.0 in
        record {
          most = most_on (pending + 1) (λ end low high. omega (arith, seen.most end low high, counts.opens, counts.closes));
          reached = (e, omega (arith, seen.reached.1), seen.reached.2, omega (arith, seen.reached.3, counts.opens, counts.closes));
          found_is = found_on found seen.found_is (λ lone. absurd (omega (arith, lone.is, byte)));
        }

    pub seen_other : eqb (get_or text i 0) 40 ≡ false → eqb (get_or text i 0) 41 ≡ false → IsSeenFrom text i pending found
    unfolding Most
    seen_other no_open no_close =
        let counts = counts_other text i within no_open no_close in
        let e = seen.reached.0 in
        record {
          most = most_on pending (λ end low high. omega (arith, seen.most end low high, counts.opens, counts.closes));
          reached = (e, omega (arith, seen.reached.1), seen.reached.2, omega (arith, seen.reached.3, counts.opens, counts.closes));
          found_is = found_on found seen.found_is (λ lone. clash (eqb (get_or text i 0) 40) (eq-eqb _ 40 lone.is) no_open);
        }

    pub seen_open : get_or text i 0 ≡ 40 → 0 < pending → IsSeenFrom text i (pending - 1) found
    unfolding Most
    seen_open byte some =
        let counts = counts_open text i within byte in
        let e = seen.reached.0 in
        let above = seen.reached.1 in
        record {
          most = most_on (pending - 1) (λ end low high. omega (arith, seen.most end low high, counts.opens, counts.closes));
          reached = (e, omega arith, seen.reached.2, omega (arith, seen.reached.3, counts.opens, counts.closes));
          found_is = found_on found seen.found_is (λ lone. (let none = lone.none e (omega arith) seen.reached.2 in omega (arith, seen.reached.3)));
        }

    pub seen_lone : get_or text i 0 ≡ 40 → pending ≡ 0 → IsSeenFrom text i pending (Some i)
    unfolding Most
    seen_lone byte level =
        let counts = counts_open text i within byte in
        let lone : IsLoneOpen text i = record { is = byte; none = λ end low high. (let m = seen.most end (omega arith) high in omega arith) } in
        record {
          most = most_on pending (λ end low high. omega (arith, seen.most end low high, counts.opens, counts.closes));
          reached = (i, omega arith, omega arith, omega arith);
          found_is = (omega arith, within, lone, λ j low less. absurd (omega arith));
        }

-- a bracket that is too deep
pub record IsClimbed (text : List ℕ) (place height : ℕ) : Type 0 where
  pub height_is : IsHeight text place height
  pub none : (j : ℕ) → j < place → IsTooDeep text j → ⊥

-- the first early fault and the first lone bracket give the first fault
module _ (query text : List ℕ) where
  parted : (i : ℕ) → IsFaulty query text i → IsEarly query text i ⊎ IsLoneOpen text i
  parted i faulty = ⊎_elim (λ stray. inl (inl stray)) (λ lone. ⊎_elim (λ open_. inr open_) (λ close. inl (inr close)) lone) faulty.cause

  early_is : (i : ℕ) → i < length text → IsEarly query text i → IsFaulty query text i
  early_is i within early = record { within = within; cause = ⊎_elim (λ stray. inl stray) (λ close. inr (inr close)) early }

  open_is : (i : ℕ) → i < length text → IsLoneOpen text i → IsFaulty query text i
  open_is i within lone = record { within = within; cause = inr (inl lone) }

  pub first_of : (early open_ : Option ℕ) → IsFirstBetween (IsEarly query text) 0 (length text) early → IsFirstBetween (IsLoneOpen text) 0 (length text) open_ → IsFirstBetween (IsFaulty query text) 0 (length text) (earlier early open_)
  first_of None None no_early no_open = λ i low high faulty. ⊎_elim (no_early i low high) (no_open i low high) (parted i faulty)
  first_of None (Some p) no_early some = (omega arith, some.1, open_is p some.1 some.2, λ i low less faulty. ⊎_elim (no_early i low (omega (arith, some.1))) (some.3 i low less) (parted i faulty))
  first_of (Some p) None some no_open = (omega arith, some.1, early_is p some.1 some.2, λ i low less faulty. ⊎_elim (some.3 i low less) (no_open i low (omega (arith, some.1))) (parted i faulty))
  first_of (Some p) (Some q) some late =
      ⊎_elim
      (λ (less : p < q).
      let is : min p q ≡ p = omega arith in
      subst (λ (x : ℕ). IsFirstBetween (IsFaulty query text) 0 (length text) (Some x)) (sym is)
      (omega arith, some.1, early_is p some.1 some.2, λ i low before faulty. ⊎_elim (some.3 i low before) (late.3 i low (omega arith)) (parted i faulty)))
      (λ (more : q ≤ p).
      let is : min p q ≡ q = omega arith in
      subst (λ (x : ℕ). IsFirstBetween (IsFaulty query text) 0 (length text) (Some x)) (sym is)
      (omega arith, late.1, open_is q late.1 late.2, λ i low before faulty. ⊎_elim (some.3 i low (omega arith)) (late.3 i low before) (parted i faulty)))
      (cases_lt p q)
