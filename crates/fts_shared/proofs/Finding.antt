-- The step that added an entry of the history.
use Rattle.std.proofs.Common.{◌≡◌, ◌==◌, ◌≤◌, ◌<◌, ℕ, zero, suc, ◌+◌, Bool, true, false, List, [], ◌∷◌, ◌++◌, length, ap, ◌∙◌, subst, sym, refl, arith, inl, inr, ◌⊎◌, length-append, append-nil}
use Rattle.std.proofs.lemmas.List.{append_assoc, append_cancel_left}
use Rattle.std.proofs.lemmas.List.Elements.{filter-append}
use Rattle.std.proofs.lemmas.Bool.{false≢true, eq-eqb}
use Rattle.std.specs.List.{filter}
use mathlib.Core.Bool.{cond}
use Rattle.fts_types.specs.declared.limits.Limits.{Limits}
use Rattle.fts_steps.specs.Running.{Running, Entry, What}
use Rattle.fts_steps.specs.Step.{Ask, Answer, Call, to_commit, to_sync, to_optimize, to_view, to_find, to_list, to_measure, changes_of, entries_of}
use Rattle.fts_turn.specs.Histories.{entries_by}
use Rattle.fts_shared.specs.History.{noted}
use Rattle.fts_shared.specs.Laws.{IsNumber, before_step, AddedBy}
use Rattle.fts_shared.specs.Served.{by_whom, TellsAll}
use Rattle.fts_shared.specs.Talk.{history_of, own_of}
use Rattle.fts_shared.proofs.Telling.{tells_as}
use Rattle.fts_shared.proofs.Histories.{same_count}
use Rattle.fts_shared.proofs.Standing.{some_item, same_first, same_rest, steps_at}

-- a step adds one entry at most
one_at_most : (ask : Ask) (answer : Answer) → length (changes_of ask answer) ≤ 1
one_at_most (to_commit commit) answer = (tells_as (to_commit commit) answer tt).1
one_at_most to_sync answer = (tells_as to_sync answer tt).1
one_at_most to_optimize answer = (tells_as to_optimize answer tt).1
one_at_most (to_view asked) answer = (tells_as (to_view asked) answer tt).1
one_at_most (to_find terms) answer = (tells_as (to_find terms) answer tt).1
one_at_most (to_list kind) answer = (tells_as (to_list kind) answer tt).1
one_at_most to_measure answer = omega arith

-- ---- whose entries they are

abbrev of_one : ℕ → Entry → Bool
of_one n entry = entry.by == n

kept_own : (n : ℕ) (entry : Entry) (rest : List Entry) (b : Bool) → b ≡ true → cond b (entry ∷ rest) rest ≡ entry ∷ rest
kept_own n entry rest true is = refl
kept_own n entry rest false is = absurd (false≢true is)

own_kept : (n : ℕ) (whats : List What) → entries_by by_whom n (noted n whats) ≡ noted n whats
own_kept n [] = refl
own_kept n (what ∷ whats) =
    kept_own n (record { by = n; what = what }) (entries_by by_whom n (noted n whats)) (n == n) (eq-eqb n n refl)
    ∙ ap (λ (xs : List Entry). record { by = n; what = what } ∷ xs) (own_kept n whats)

-- an entry of its number is among those
is_among : (n : ℕ) (front behind : List Entry) (entry : Entry) → entry.by ≡ n → 1 ≤ length (entries_by by_whom n (front ++ (entry ∷ behind)))
is_among n front behind entry is =
    let split = ap length (filter-append (of_one n) front (entry ∷ behind)) in
    let all = length-append (filter (of_one n) front) (filter (of_one n) (entry ∷ behind)) in
    let here = ap length (kept_own n entry (filter (of_one n) behind) (entry.by == n) (eq-eqb entry.by n is)) in
    omega (arith, split, all, here)

by_more : (n : ℕ) (xs ys : List Entry) → length (entries_by by_whom n (xs ++ ys)) ≡ length (entries_by by_whom n xs) + length (entries_by by_whom n ys)
by_more n xs ys = ap length (filter-append (of_one n) xs ys) ∙ length-append (entries_by by_whom n xs) (entries_by by_whom n ys)

-- what steps added themselves is in what they tell
own_there : (n : ℕ) (calls : List Call) → length (own_of n calls) ≤ length (entries_by by_whom n (history_of n calls))
own_there n [] = omega arith
own_there n (call ∷ calls) =
    let own = entries_of n call.ask call.answer in
    let rest = own_there n calls in
    let first = by_more n call.more (own ++ history_of n calls) in
    let second = by_more n own (history_of n calls) in
    let kept = ap length (own_kept n (changes_of call.ask call.answer)) in
    let all = length-append own (own_of n calls) in
    omega (arith, rest, first, second, kept, all)

no_entries : (xs : List Entry) → length xs ≡ 0 → xs ≡ []
no_entries [] is = refl
no_entries (x ∷ xs) is = absurd (omega (arith, is))

-- an item of two lists, one behind the other, is of the first or of the second
where_is : (xs ys front behind : List Entry) (entry : Entry) → (xs ++ ys) ≡ (front ++ (entry ∷ behind))
    → ((more : List Entry) × (xs ≡ front ++ (entry ∷ more))) ⊎ ((front' : List Entry) × (front ≡ xs ++ front') × (ys ≡ front' ++ (entry ∷ behind)))
where_is [] ys front behind entry is = inr (front, refl, is)
where_is (x ∷ xs) ys [] behind entry is =
    inl (xs, ap (λ (e : Entry). e ∷ xs) (same_first x entry (xs ++ ys) behind is))
where_is (x ∷ xs) ys (f ∷ front) behind entry is =
    let here = same_first x f (xs ++ ys) (front ++ (entry ∷ behind)) is in
    deeper (where_is xs ys front behind entry (same_rest x f (xs ++ ys) (front ++ (entry ∷ behind)) is)) here
  where
    deeper : ((more : List Entry) × (xs ≡ front ++ (entry ∷ more))) ⊎ ((front' : List Entry) × (front ≡ xs ++ front') × (ys ≡ front' ++ (entry ∷ behind))) → x ≡ f
        → ((more : List Entry) × ((x ∷ xs) ≡ (f ∷ front) ++ (entry ∷ more))) ⊎ ((front' : List Entry) × ((f ∷ front) ≡ (x ∷ xs) ++ front') × (ys ≡ front' ++ (entry ∷ behind)))
    deeper (inl (more, is)) here = inl (more, ap (λ (e : Entry). e ∷ xs) here ∙ ap (λ (es : List Entry). f ∷ es) is)
    deeper (inr (front', is, rest)) here = inr (front', ap (λ (e : Entry). e ∷ front) (sym here) ∙ ap (λ (es : List Entry). x ∷ es) is, rest)

-- ---- the step

-- the step among these that added an entry behind this front
record Found (n : ℕ) (calls : List Call) (front : List Entry) (entry : Entry) : Type 0 where
  earlier : List Call
  call : Call
  later : List Call
  whole : calls ≡ earlier ++ (call ∷ later)
  place : before_step n earlier call ≡ front
  added : entries_of n call.ask call.answer ≡ entry ∷ []

module _ (n : ℕ) (entry : Entry) (is : entry.by ≡ n) where
  -- the first step did, or one behind it
  further : (call : Call) (calls : List Call) (own front front' : List Entry) → own ≡ entries_of n call.ask call.answer → front ≡ call.more ++ (own ++ front') → Found n calls front' entry
      → Found n (call ∷ calls) front entry
  further call calls own front front' own_is is found = record {
    earlier = call ∷ found.earlier;
    call = found.call;
    later = found.later;
    whole = ap (λ (cs : List Call). call ∷ cs) found.whole;
    place =
        let H = history_of n found.earlier in
        append_assoc call.more (entries_of n call.ask call.answer ++ H) found.call.more
        ∙ ap (λ (xs : List Entry). call.more ++ xs) (append_assoc (entries_of n call.ask call.answer) H found.call.more)
        ∙ ap (λ (xs : List Entry). call.more ++ (xs ++ before_step n found.earlier found.call)) (sym own_is)
        ∙ ap (λ (xs : List Entry). call.more ++ (own ++ xs)) found.place
        ∙ sym is;
    added = found.added;
  }

  at_own : (call : Call) (calls : List Call) (rest front front' behind own : List Entry) → own ≡ entries_of n call.ask call.answer → length own ≤ 1 → front ≡ call.more ++ front'
      → (own ++ (history_of n calls ++ rest)) ≡ (front' ++ (entry ∷ behind))
      → ((further : List Entry) → (history_of n calls ++ rest) ≡ (further ++ (entry ∷ behind)) → Found n calls further entry) → Found n (call ∷ calls) front entry
  at_own call calls rest front front' behind [] own_is one front_is there later =
      further call calls [] front front' own_is front_is (later front' there)
  at_own call calls rest front [] behind (o ∷ []) own_is one front_is there later = record {
    earlier = [];
    call = call;
    later = calls;
    whole = refl;
    place = sym (front_is ∙ append-nil call.more);
    added = sym own_is ∙ ap (λ (e : Entry). e ∷ []) (same_first o entry (history_of n calls ++ rest) behind there);
  }
  at_own call calls rest front (f ∷ front') behind (o ∷ []) own_is one front_is there later =
      let here = same_first o f (history_of n calls ++ rest) (front' ++ (entry ∷ behind)) there in
      further call calls (o ∷ []) front front' own_is (front_is ∙ ap (λ (e : Entry). call.more ++ (e ∷ front')) (sym here))
      (later front' (same_rest o f (history_of n calls ++ rest) (front' ++ (entry ∷ behind)) there))
  at_own call calls rest front front' behind (o ∷ (p ∷ own')) own_is one front_is there later = absurd (omega (arith, one))

  find : (calls : List Call) (rest front behind : List Entry) → (history_of n calls ++ rest) ≡ (front ++ (entry ∷ behind)) → entries_by by_whom n (history_of n calls ++ rest) ≡ own_of n calls
      → Found n calls front entry
  find [] rest front behind there own =
      let some = is_among n front behind entry is in
      let none = ap length own in
      let same = ap (λ (xs : List Entry). length (entries_by by_whom n xs)) there in
      absurd (omega (arith, some, none, same))
  find (call ∷ calls) rest front behind there own =
      let mine = entries_of n call.ask call.answer in
      let H = history_of n calls in
      let parts : (history_of n (call ∷ calls) ++ rest) ≡ call.more ++ (mine ++ (H ++ rest)) =
      append_assoc call.more (mine ++ H) rest ∙ ap (λ (xs : List Entry). call.more ++ xs) (append_assoc mine H rest) in
      let counted = ap (λ (xs : List Entry). length (entries_by by_whom n xs)) parts in
      let first = by_more n call.more (mine ++ (H ++ rest)) in
      let second = by_more n mine (H ++ rest) in
      let third = by_more n H rest in
      let kept = ap length (own_kept n (changes_of call.ask call.answer)) in
      let less = own_there n calls in
      let total = ap length own in
      let all = length-append mine (own_of n calls) in
      let none : entries_by by_whom n call.more ≡ [] =
      no_entries (entries_by by_whom n call.more) (omega (arith, counted, first, second, third, kept, less, total, all)) in
      let behind_own : entries_by by_whom n (H ++ rest) ≡ own_of n calls =
      append_cancel_left mine (entries_by by_whom n (H ++ rest)) (own_of n calls)
      (ap (λ (xs : List Entry). xs ++ entries_by by_whom n (H ++ rest)) (sym (own_kept n (changes_of call.ask call.answer)))
      ∙ sym (filter-append (of_one n) mine (H ++ rest))
      ∙ ap (λ (xs : List Entry). xs ++ entries_by by_whom n (mine ++ (H ++ rest))) (sym none)
      ∙ sym (filter-append (of_one n) call.more (mine ++ (H ++ rest)))
      ∙ ap (entries_by by_whom n) (sym parts) ∙ own) in
      place none (λ further there. find calls rest further behind there behind_own) (where_is call.more (mine ++ (H ++ rest)) front behind entry (sym parts ∙ there))
    where
      place : entries_by by_whom n call.more ≡ [] → ((further : List Entry) → (history_of n calls ++ rest) ≡ (further ++ (entry ∷ behind)) → Found n calls further entry)
          → ((more : List Entry) × (call.more ≡ front ++ (entry ∷ more)))
          ⊎ ((front' : List Entry) × (front ≡ call.more ++ front') × ((entries_of n call.ask call.answer ++ (history_of n calls ++ rest)) ≡ front' ++ (entry ∷ behind)))
          → Found n (call ∷ calls) front entry
      place none later (inl (more, there)) =
          let some = is_among n front more entry is in
          let same = ap (λ (xs : List Entry). length (entries_by by_whom n xs)) there in
          let no = ap length none in
          absurd (omega (arith, some, same, no))
      place none later (inr (front', front_is, there)) =
          at_own call calls rest front front' behind (entries_of n call.ask call.answer) refl
          (let many = same_count n (changes_of call.ask call.answer) in let one = one_at_most call.ask call.answer in omega (arith, many, one))
          front_is there later

module _ (limits : Limits) (running : Running) (history : List Entry) (all : List (List Call)) (told : TellsAll limits running history all) where
  pub added_by : (front : List Entry) (entry : Entry) (behind : List Entry) → history ≡ front ++ (entry ∷ behind) → AddedBy all front entry
  added_by front entry behind there =
      by_case (nat_or (length all) entry.by)
    where
      nat_or : (a b : ℕ) → (a ≤ b) ⊎ (b < a)
      nat_or zero b = inl (omega arith)
      nat_or (suc a) zero = inr (omega arith)
      nat_or (suc a) (suc b) = up (nat_or a b)
        where
          up : (a ≤ b) ⊎ (b < a) → (suc a ≤ suc b) ⊎ (suc b < suc a)
          up (inl less) = inl (omega (arith, less))
          up (inr more) = inr (omega (arith, more))

      by_case : (length all ≤ entry.by) ⊎ (entry.by < length all) → AddedBy all front entry
      by_case (inl more) =
          let some = is_among entry.by front behind entry refl in
          let none = ap length (told.no_others entry.by more) in
          let same = ap (λ (xs : List Entry). length (entries_by by_whom entry.by xs)) there in
          absurd (omega (arith, some, none, same))
      by_case (inr less) =
          let item = some_item all entry.by less in
          let it = steps_at limits running history all told entry.by item.0 item.1 in
          let found = find entry.by entry refl item.0 it.saw.0 front behind (sym it.saw.1 ∙ there) (ap (entries_by by_whom entry.by) (sym it.saw.1) ∙ it.own) in
          record {
            number = entry.by;
            earlier = found.earlier;
            call = found.call;
            step = record { later = found.later; calls = subst (λ (calls : List Call). IsNumber all entry.by calls) found.whole item.1 };
            place = found.place;
            added = found.added;
          }
