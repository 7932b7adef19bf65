-- The shares of sessions in a script, with one line more.
use Rattle.std.proofs.Common.{◌≡◌, ◌⊎◌, ℕ, zero, suc, ◌+◌, ◌<◌, Bool, true, false, List, [], ◌∷◌, ◌++◌, length, take, drop, inl, inr, refl, ap, sym, subst, ◌∙◌, arith, Option, Some, None}
use Rattle.std.proofs.lemmas.Bool.{eqb-true, ne_eqb, eq-eqb, eqb-false}
use Rattle.std.proofs.lemmas.List.{length-map, map-set}
use Rattle.std.proofs.lemmas.List.Elements.{All-nil, All-cons, All-head, All-tail}
use Rattle.std.proofs.lemmas.List.Quantifiers.{all_pairs_push}
use Rattle.std.specs.Prelude.{◌==◌, ◌≢◌, if◌then◌else◌, All, AllPairs, map, slice_index_or, slice_set}
use Rattle.fts_io.specs.Text.{Line}
use Rattle.fts_script.specs.Script.{line_of}
use Rattle.fts_script.specs.declared.lines.ScriptLine.{ScriptLine}
use Rattle.fts_script.specs.Sessions.{IsOf, among, joined_by, AreOf, IsCrowded}
use Rattle.fts_script.specs.Group.{Share, share, share_of, shares_of, numbers_in, StandAt, IsGrouping, joining, Puts, IsOneMore, IsItsShare}
use Rattle.fts_script.specs.declared.grouping.Group.{Group}
use Rattle.fts_script.proofs.Counting.{whose, of_more, among_new}

-- the numbers of shares with one place more
numbers_joining : (shares : List Share) (number place : ℕ) → numbers_in (joining shares number place) ≡ among (numbers_in shares) number
numbers_joining [] number place = refl
numbers_joining (one ∷ shares) number place = by_test (numbers_joining shares number place) (one.number == number) refl
  where
    by_test : numbers_in (joining shares number place) ≡ among (numbers_in shares) number → (same : Bool) → (one.number == number) ≡ same
        → numbers_in (if same then share number (one.places ++ place ∷ []) ∷ shares else one ∷ joining shares number place)
        ≡ (if same then one.number ∷ numbers_in shares else one.number ∷ among (numbers_in shares) number)
    by_test more true is = ap (λ (n : ℕ). n ∷ numbers_in shares) (sym (eqb-true one.number number is))
    by_test more false is = ap (λ (numbers : List ℕ). one.number ∷ numbers) more

-- a number is one of these, which then are all; or it is none of them, and comes behind them
among_cases : (numbers : List ℕ) (number : ℕ) → (among numbers number ≡ numbers) ⊎ All (λ other. other ≢ number) numbers
among_cases [] number = inr (All-nil (λ other. other ≢ number))
among_cases (one ∷ numbers) number = by_test (among_cases numbers number) (one == number) refl
  where
    by_test : (among numbers number ≡ numbers) ⊎ All (λ other. other ≢ number) numbers → (same : Bool) → (one == number) ≡ same
        → ((if same then one ∷ numbers else one ∷ among numbers number) ≡ one ∷ numbers) ⊎ All (λ other. other ≢ number) (one ∷ numbers)
    by_test more true is = inl refl
    by_test (inl same) false is = inl (ap (λ (n : List ℕ). one ∷ n) same)
    by_test (inr new) false is = inr (All-cons (λ other. other ≢ number) one numbers (eqb-false one number is) new)

differ_more : (numbers : List ℕ) (number : ℕ) → AllPairs (λ one other. one ≢ other) numbers → AllPairs (λ one other. one ≢ other) (among numbers number)
differ_more numbers number differ = by_case (among_cases numbers number)
  where
    by_case : (among numbers number ≡ numbers) ⊎ All (λ other. other ≢ number) numbers → AllPairs (λ one other. one ≢ other) (among numbers number)
    by_case (inl same) = subst (λ (n : List ℕ). AllPairs (λ one other. one ≢ other) n) (sym same) differ
    by_case (inr new) = subst (λ (n : List ℕ). AllPairs (λ one other. one ≢ other) n) (sym (among_new numbers number new))
        (all_pairs_push (λ one other. one ≢ other) numbers number differ new)

-- a line more, of this session or of another one
stand_more : (number place : ℕ) (lines : List Line) (line : Line) (places : List ℕ) → StandAt number place lines places → IsOf line (Some number)
    → StandAt number place (lines ++ line ∷ []) (places ++ (place + length lines) ∷ [])
stand_more number place [] line places none of =
    inl ([], of, ap (λ (p : List ℕ). p ++ (place + 0) ∷ []) none ∙ ap (λ (n : ℕ). n ∷ []) (let same : place + 0 ≡ place = omega arith in same), refl)
stand_more number place (first ∷ lines) line places (inl (more, its, same, rest)) of =
    let next = stand_more number (place + 1) lines line more rest of in
    let end : place + 1 + length lines ≡ place + length (first ∷ lines) = omega arith in
    inl (
      more ++ (place + length (first ∷ lines)) ∷ [],
      its,
      ap (λ (p : List ℕ). p ++ (place + length (first ∷ lines)) ∷ []) same,
      subst (λ (n : ℕ). StandAt number (place + 1) (lines ++ line ∷ []) (more ++ n ∷ [])) end next,
    )
stand_more number place (first ∷ lines) line places (inr (other, rest)) of =
    let next = stand_more number (place + 1) lines line places rest of in
    let end : place + 1 + length lines ≡ place + length (first ∷ lines) = omega arith in
    inr (other, subst (λ (n : ℕ). StandAt number (place + 1) (lines ++ line ∷ []) (places ++ n ∷ [])) end next)

stand_still : (number place : ℕ) (lines : List Line) (line : Line) (places : List ℕ) → StandAt number place lines places → (IsOf line (Some number) → ⊥)
    → StandAt number place (lines ++ line ∷ []) places
stand_still number place [] line places none other = inr (other, none)
stand_still number place (first ∷ lines) line places (inl (more, its, same, rest)) other =
    inl (more, its, same, stand_still number (place + 1) lines line more rest other)
stand_still number place (first ∷ lines) line places (inr (not_its, rest)) other = inr (not_its, stand_still number (place + 1) lines line places rest other)

-- of a session that is none of these no line was met
among_has : (numbers : List ℕ) (one number : ℕ) → All (λ other. other ≢ number) (among numbers one) → All (λ other. other ≢ number) numbers × (one ≢ number)
among_has [] one number all = (All-nil (λ other. other ≢ number), All-head (λ other. other ≢ number) one [] all)
among_has (first ∷ numbers) one number all = by_test (among_has numbers one number) (first == one) refl all
  where
    by_test : (All (λ other. other ≢ number) (among numbers one) → All (λ other. other ≢ number) numbers × (one ≢ number)) → (same : Bool) → (first == one) ≡ same
        → All (λ other. other ≢ number) (if same then first ∷ numbers else first ∷ among numbers one) → All (λ other. other ≢ number) (first ∷ numbers) × (one ≢ number)
    by_test more true is all = (all, λ e. All-head (λ other. other ≢ number) first numbers all (eqb-true first one is ∙ e))
    by_test more false is all =
        let rest = more (All-tail (λ other. other ≢ number) first (among numbers one) all) in
        (All-cons (λ other. other ≢ number) first numbers (All-head (λ other. other ≢ number) first (among numbers one) all) rest.0, rest.1)

joined_has : (numbers : List ℕ) (session : Option ℕ) (number : ℕ) → All (λ other. other ≢ number) (joined_by numbers session)
    → All (λ other. other ≢ number) numbers × (session ≢ Some number)
joined_has numbers None number all = (all, λ e. cc)
joined_has numbers (Some one) number all = let has = among_has numbers one number all in (has.0, λ e. has.1 (some_one one number e))
  where
    some_one : (a b : ℕ) → Some a ≡ Some b → a ≡ b
    some_one a b e = cc

none_before : (numbers all : List ℕ) (lines : List Line) (number : ℕ) → AreOf numbers lines all → All (λ other. other ≢ number) all → All (λ other. other ≢ number) numbers
none_before numbers all [] number are new = subst (λ (n : List ℕ). All (λ other. other ≢ number) n) are new
none_before numbers all (line ∷ lines) number (session, of, are) new =
    (joined_has numbers session number (none_before (joined_by numbers session) all lines number are new)).0

none_yet : (numbers all : List ℕ) (place : ℕ) (lines : List Line) (number : ℕ) → AreOf numbers lines all → All (λ other. other ≢ number) all → StandAt number place lines []
none_yet numbers all place [] number are new = refl
none_yet numbers all place (line ∷ lines) number (session, of, are) new =
    let has = joined_has numbers session number (none_before (joined_by numbers session) all lines number are new) in
    inr (λ its. has.1 (whose line session (Some number) of its), none_yet (joined_by numbers session) all (place + 1) lines number are new)

-- so the shares have one place more
module _ (lines : List Line) (line : Line) (number : ℕ) (of : IsOf line (Some number)) where
  abbrev Stands : Share → Type 0
  Stands one = StandAt one.number 0 lines one.places

  abbrev Stands' : Share → Type 0
  Stands' one = StandAt one.number 0 (lines ++ line ∷ []) one.places

  stand_here : (places : List ℕ) → StandAt number 0 lines places → StandAt number 0 (lines ++ line ∷ []) (places ++ length lines ∷ [])
  stand_here places stands =
      subst (λ (n : ℕ). StandAt number 0 (lines ++ line ∷ []) (places ++ n ∷ [])) (let same : 0 + length lines ≡ length lines = omega arith in same)
      (stand_more number 0 lines line places stands of)

  still : (one : Share) → one.number ≢ number → Stands one → Stands' one
  still one other stands = stand_still one.number 0 lines line one.places stands (λ its. other (some_one one.number (whose line (Some one.number) (Some number) its of)))
    where
      some_one : (a : ℕ) → Some a ≡ Some number → a ≡ number
      some_one a e = cc

  all_still : (shares : List Share) → All (λ other. other ≢ number) (numbers_in shares) → All Stands shares → All Stands' shares
  all_still [] other stand = All-nil Stands'
  all_still (one ∷ shares) other stand =
      All-cons Stands' one shares (still one (All-head (λ o. o ≢ number) one.number (numbers_in shares) other) (All-head Stands one shares stand))
      (all_still shares (All-tail (λ o. o ≢ number) one.number (numbers_in shares) other) (All-tail Stands one shares stand))

  stand_joining : (shares : List Share) → All Stands shares → AllPairs (λ one other. one ≢ other) (numbers_in shares)
      → (All (λ other. other ≢ number) (numbers_in shares) → StandAt number 0 lines []) → All Stands' (joining shares number (length lines))
  stand_joining [] stand differ none =
      All-cons Stands' (share number (length lines ∷ [])) [] (stand_here [] (none (All-nil (λ other. other ≢ number)))) (All-nil Stands')
  stand_joining (one ∷ shares) stand differ none =
      by_test (stand_joining shares (All-tail Stands one shares stand) (λ i j d low high. differ (suc i) (suc j) d (omega (arith, low)) (omega (arith, high)))) (one.number == number) refl
    where
      here : Stands one
      here = All-head Stands one shares stand

      by_test : ((All (λ other. other ≢ number) (numbers_in shares) → StandAt number 0 lines []) → All Stands' (joining shares number (length lines)))
          → (same : Bool) → (one.number == number) ≡ same
          → All Stands' (if same then share number (one.places ++ length lines ∷ []) ∷ shares else one ∷ joining shares number (length lines))
      by_test more true is =
          let same = eqb-true one.number number is in
          All-cons Stands' (share number (one.places ++ length lines ∷ [])) shares
          (stand_here one.places (subst (λ (n : ℕ). StandAt n 0 lines one.places) same here))
          (all_still shares (λ k d less e. differ 0 (suc k) d (omega arith) (omega (arith, less)) (same ∙ sym e)) (All-tail Stands one shares stand))
      by_test more false is =
          let other = eqb-false one.number number is in
          All-cons Stands' one (joining shares number (length lines)) (still one other here)
          (more (λ new. none (All-cons (λ o. o ≢ number) one.number (numbers_in shares) other new)))

  grouped_joining : (shares : List Share) → IsGrouping lines shares → IsGrouping (lines ++ line ∷ []) (joining shares number (length lines))
  grouped_joining shares is = record {
    sessions = subst (λ (n : List ℕ). AreOf [] (lines ++ line ∷ []) n) (sym (numbers_joining shares number (length lines)))
        (of_more [] (numbers_in shares) lines line (Some number) is.sessions of);
    differ = subst (λ (n : List ℕ). AllPairs (λ one other. one ≢ other) n) (sym (numbers_joining shares number (length lines))) (differ_more (numbers_in shares) number is.differ);
    places = stand_joining shares is.places is.differ (λ new. none_yet [] (numbers_in shares) 0 lines number is.sessions new);
  }

-- a line that is nobody's
grouped_still : (lines : List Line) (line : Line) (shares : List Share) → IsOf line None → IsGrouping lines shares → IsGrouping (lines ++ line ∷ []) shares
grouped_still lines line shares of is = record {
  sessions = of_more [] (numbers_in shares) lines line None is.sessions of;
  differ = is.differ;
  places = λ k d less. let one = slice_index_or shares k d in
      stand_still one.number 0 lines line one.places (is.places k d less) (λ its. let e = whose line None (Some one.number) of its in cc);
}

-- the lines with one more
pub grouped_more : (lines : List Line) (line : Line) (old new : List Share) → IsGrouping lines old → Puts line (length lines) old new → IsGrouping (lines ++ line ∷ []) new
grouped_more lines line old new is (None, of, same) = subst (IsGrouping (lines ++ line ∷ [])) (sym same) (grouped_still lines line old of is)
grouped_more lines line old new is (Some number, of, same) = subst (IsGrouping (lines ++ line ∷ [])) (sym same) (grouped_joining lines line number of old is)

-- a session more than 16
pub crowded_by : (lines earlier behind : List Line) (line : Line) (shares : List Share) (number : ℕ) → lines ≡ earlier ++ line ∷ behind → IsGrouping earlier shares
    → IsOf line (Some number) → IsOneMore shares number → IsCrowded lines number
crowded_by lines earlier behind line shares number cut is of more =
    let count : length (numbers_in shares) ≡ 16 = length-map shares (λ (one : Share). one.number) ∙ more.many in record {
      earlier = earlier;
      line = line;
      behind = behind;
      numbers = numbers_in shares;
      cut = cut;
      are = is.sessions;
      many = count;
      of = of;
      more = ap length (among_new (numbers_in shares) number more.unmet) ∙ length_behind (numbers_in shares) number ∙ ap suc count;
    }
  where
    length_behind : (numbers : List ℕ) (number : ℕ) → length (numbers ++ number ∷ []) ≡ suc (length numbers)
    length_behind [] number = refl
    length_behind (one ∷ numbers) number = ap suc (length_behind numbers number)

-- a line that a script keeps, with those before it and behind it
record IsCut (lines : List Line) (place : ℕ) (line : Line) : Type 0 where
  next : take (suc place) lines ≡ take place lines ++ line ∷ []
  count : length (take place lines) ≡ place
  whole : lines ≡ take place lines ++ line ∷ drop (suc place) lines

cut_at : (kept : List ScriptLine) (place : ℕ) (one : ScriptLine) → place < length kept → one ≡ slice_index_or kept place one → IsCut (map line_of kept) place (line_of one)
cut_at [] place one less is = absurd (omega (arith, less))
cut_at (first ∷ kept) zero one less is = let same : line_of first ≡ line_of one = ap line_of (sym is) in record {
  next = ap (λ (l : Line). l ∷ []) same;
  count = refl;
  whole = ap (λ (l : Line). l ∷ map line_of kept) same;
}
cut_at (first ∷ kept) (suc place) one less is =
    let rest = cut_at kept place one (omega (arith, less)) is in record {
      next = ap (λ (l : List Line). line_of first ∷ l) rest.next;
      count = ap suc rest.count;
      whole = ap (λ (l : List Line). line_of first ∷ l) rest.whole;
    }

-- so the loop over the lines groups them
module _ (kept : List ScriptLine) (lines : List Line) (same : map line_of kept ≡ lines) (place : ℕ) (one : ScriptLine) (less : place < length kept)
    (is : one ≡ slice_index_or kept place one) where
  cut_here : IsCut lines place (line_of one)
  cut_here = subst (λ (l : List Line). IsCut l place (line_of one)) same (cut_at kept place one less is)

  pub grouped_next : (old new : List Share) → IsGrouping (take place lines) old → Puts (line_of one) place old new → IsGrouping (take (place + 1) lines) new
  grouped_next old new grouped puts =
      let next : place + 1 ≡ suc place = omega arith in
      subst (λ (l : List Line). IsGrouping l new) (sym (ap (λ (n : ℕ). take n lines) next ∙ cut_here.next))
      (grouped_more (take place lines) (line_of one) old new grouped (subst (λ (n : ℕ). Puts (line_of one) n old new) (sym cut_here.count) puts))

  pub crowded_here : (shares : List Share) (number : ℕ) → IsGrouping (take place lines) shares → IsOf (line_of one) (Some number) × IsOneMore shares number → IsCrowded lines number
  crowded_here shares number grouped (of, more) = crowded_by lines (take place lines) (drop (suc place) lines) (line_of one) shares number cut_here.whole grouped of more

-- before the first line
pub grouped_none : IsGrouping [] []
grouped_none = record { sessions = refl; differ = λ i j d low high. absurd (omega (arith, low, high)); places = All-nil (λ (one : Share). StandAt one.number 0 [] one.places) }

-- the group at this place, where none before it has the number
pub at_share : (groups : List Group) (number at : ℕ) (d : Group) → at < length groups → All (λ other. other ≢ number) (numbers_in (shares_of (take at groups)))
    → (slice_index_or groups at d).number ≡ number → IsItsShare groups number at
at_share [] number at d less none is = absurd (omega (arith, less))
at_share (one ∷ groups) number zero d less none is = record {
  within = omega arith;
  joins = λ place d. ap (λ (b : Bool). if b then share number (one.places.items ++ place ∷ []) ∷ shares_of groups else share_of one ∷ joining (shares_of groups) number place)
      (eq-eqb one.number number is);
  its = λ d. is;
}
at_share (one ∷ groups) number (suc at) d less none is =
    let rest = at_share groups number at d (omega (arith, less)) (All-tail (λ o. o ≢ number) one.number (numbers_in (shares_of (take at groups))) none) is in
    let other = All-head (λ o. o ≢ number) one.number (numbers_in (shares_of (take at groups))) none in record {
      within = let within = rest.within in omega (arith, within);
      joins = λ place d. ap (λ (b : Bool). if b then share number (one.places.items ++ place ∷ []) ∷ shares_of groups else share_of one ∷ joining (shares_of groups) number place)
          (ne_eqb one.number number other) ∙ ap (λ (more : List Share). share_of one ∷ more) (rest.joins place d);
      its = rest.its;
    }

-- one more that has another number
pub not_share : (groups : List Group) (number at : ℕ) (d : Group) → at < length groups → All (λ other. other ≢ number) (numbers_in (shares_of (take at groups)))
    → (slice_index_or groups at d).number ≢ number → All (λ other. other ≢ number) (numbers_in (shares_of (take (suc at) groups)))
not_share [] number at d less none other = absurd (omega (arith, less))
not_share (one ∷ groups) number zero d less none other = All-cons (λ o. o ≢ number) one.number [] other (All-nil (λ o. o ≢ number))
not_share (one ∷ groups) number (suc at) d less none other =
    All-cons (λ o. o ≢ number) one.number (numbers_in (shares_of (take (suc at) groups))) (All-head (λ o. o ≢ number) one.number (numbers_in (shares_of (take at groups))) none)
    (not_share groups number at d (omega (arith, less)) (All-tail (λ o. o ≢ number) one.number (numbers_in (shares_of (take at groups))) none) other)

-- a place was put into it
pub joined_at : (groups : List Group) (number at place : ℕ) (d one : Group) → IsItsShare groups number at → one.number ≡ (slice_index_or groups at d).number
    → one.places.items ≡ (slice_index_or groups at d).places.items ++ place ∷ [] → shares_of (slice_set groups at one) ≡ joining (shares_of groups) number place
joined_at groups number at place d one is same put =
    map-set share_of groups at one
    ∙ ap (λ (n : ℕ). slice_set (shares_of groups) at (share n one.places.items)) (same ∙ is.its d)
    ∙ ap (λ (p : List ℕ). slice_set (shares_of groups) at (share number p)) put
    ∙ sym (is.joins place d)

-- a group that is new comes last
pub joined_last : (groups : List Group) (number place : ℕ) (one : Group) → All (λ other. other ≢ number) (numbers_in (shares_of groups)) → one.number ≡ number
    → one.places.items ≡ place ∷ [] → shares_of (groups ++ one ∷ []) ≡ joining (shares_of groups) number place
joined_last [] number place one none is put = ap (λ (n : ℕ). share n one.places.items ∷ []) is ∙ ap (λ (p : List ℕ). share number p ∷ []) put
joined_last (first ∷ groups) number place one none is put =
    ap (λ (more : List Share). share_of first ∷ more) (joined_last groups number place one (All-tail (λ o. o ≢ number) first.number (numbers_in (shares_of groups)) none) is put)
    ∙ sym (ap (λ (b : Bool). if b then share number (first.places.items ++ place ∷ []) ∷ shares_of groups else share_of first ∷ joining (shares_of groups) number place)
    (ne_eqb first.number number (All-head (λ o. o ≢ number) first.number (numbers_in (shares_of groups)) none)))
