-- The next word over several tables.
use Rattle.std.proofs.Common.{◌≡◌, ◌≢◌, ℕ, ◌+◌, ◌<◌, ◌≤◌, ◌==◌, suc, zero, slice_index, true, false, cond, ◌&&◌, List, [], ◌∷◌, Option, Some, None, length, get_or, drop, nat_eq, refl, sym, ap, subst, ◌∙◌, ⊎_elim, arith}
use Rattle.std.specs.Option.{IfSome, IfNone}
use Rattle.std.specs.declared.cmp.Ordering.{Ordering}
use Rattle.std.specs.declared.cmp.Ordering.TheVariants.{Less, Equal, Greater}
use Rattle.std.specs.Ordering.{is_gt, ordering_reverse, ordering_then}
use Rattle.std.specs.Cmp.{nat_cmp_is}
use Rattle.std.specs.Cmp.Lexicographic.{nat_list_cmp_total}
use Rattle.std.proofs.lemmas.Bool.{false≢true, cases_Bool, cases_lt, cases_eq, eqb-true, ne_eqb, eq-eqb}
use Rattle.fts_words.specs.Order.{byte_order, begins_with}
use Rattle.fts_types.specs.Table.{table_of}
use Rattle.fts_ilist.specs.Node.{Docs}
use Rattle.fts_aux.specs.Words.{IsNext, IsLast, IsListing}
use Rattle.fts_aux.specs.Table.{Entries, nodes_in}
use Rattle.fts_aux.specs.Tables.{Held, nodes, nodes_from, PlacedFrom, AreTables, IsNextIn, IsLastIn}
use Rattle.fts_types.proofs.Partition.{first_rises, tables_rise_to_z, high_table}
use Rattle.fts_aux.proofs.Places.{own_nodes, placed_at}

-- ---- what an option says

pub if_some : {X : Type 0} (r : Option X) (P Q : X → Type 0) → ((x : X) → P x → Q x) → IfSome r P → IfSome r Q
if_some (Some x) P Q f h = f x h
if_some None P Q f h = tt

pub if_none : {X : Type 0} (r : Option X) (P Q : Type 0) → (P → Q) → IfNone r P → IfNone r Q
if_none (Some x) P Q f h = tt
if_none None P Q f h = f h

-- ---- words by their first bytes

nothing_left : (ns : List Docs) → (ns ≢ [] → ⊥) → ns ≡ []
nothing_left [] h = refl
nothing_left (n ∷ ns) h = absurd (h (λ e. absurd (cc)))

-- a word with the greater first byte is the greater
first_above : (u v : List ℕ) → slice_index v 0 < slice_index u 0 → is_gt (byte_order u v) ≡ true
first_above [] [] lt = absurd (omega (arith, lt))
first_above [] (b ∷ v) lt = absurd (omega (arith, lt))
first_above (a ∷ u) [] lt = refl
first_above (a ∷ u) (b ∷ v) lt = ap (λ o. is_gt (ordering_then o (byte_order u v))) (sym (nat_cmp_is a b Greater lt))

not_gt : (o : Ordering) → is_gt o ≡ true → o ≡ Greater
not_gt Less e = absurd (false≢true e)
not_gt Equal e = absurd (false≢true e)
not_gt Greater e = refl

below_it : (u v : List ℕ) → is_gt (byte_order u v) ≡ true → byte_order v u ≡ Less
below_it u v e = nat_list_cmp_total.antisymm v u ∙ ap ordering_reverse (not_gt (byte_order u v) e)

-- a word of a later table doesn't begin behind z
low_of : (v : List ℕ) → table_of v ≢ 1 → slice_index v 0 ≤ 122
low_of v other = ⊎_elim (λ high. absurd (other (high_table v high))) (λ low. low) (cases_lt 122 (slice_index v 0))

-- ---- some of the tables

from_below : (k : ℕ) (ts : List Entries) (q : List ℕ) → nodes_from k ts q ≢ [] → k ≤ table_of q
from_below k [] q some = absurd (some refl)
from_below k (t ∷ ts) q some =
    ⊎_elim
    (λ here. omega (arith, eqb-true (table_of q) k here))
    (λ there. omega (arith, from_below (suc k) ts q (λ none. some (ap (λ b. cond b (nodes_in t q) (nodes_from (suc k) ts q)) there ∙ none))))
    (cases_Bool (table_of q == k))

from_drop : (k j : ℕ) (ts : List Entries) (q : List ℕ) → k + j ≤ table_of q → nodes_from k ts q ≡ nodes_from (k + j) (drop j ts) q
from_drop k zero ts q le = let same : k ≡ k + 0 = omega arith in ap (λ n. nodes_from n ts q) same
from_drop k (suc j) [] q le = refl
from_drop k (suc j) (t ∷ ts) q le =
    let same : suc k + j ≡ k + suc j = omega arith in
    ap (λ b. cond b (nodes_in t q) (nodes_from (suc k) ts q)) (ne_eqb (table_of q) k (λ e. omega (arith, e, le)))
    ∙ from_drop (suc k) j ts q (omega (arith, le)) ∙ ap (λ n. nodes_from n (drop j ts) q) same

placed_drop : (k j : ℕ) (ts : List Entries) → PlacedFrom k ts → PlacedFrom (k + j) (drop j ts)
placed_drop k zero ts p = let same : k ≡ k + 0 = omega arith in subst (λ n. PlacedFrom n ts) same p
placed_drop k (suc j) [] p = tt
placed_drop k (suc j) (t ∷ ts) p = let same : suc k + j ≡ k + suc j = omega arith in subst (λ n. PlacedFrom n (drop j ts)) same (placed_drop (suc k) j ts p.1)

next_place : (k : ℕ) (ts : List Entries) (w n : List ℕ) → PlacedFrom k ts → IsNextIn ts w n → k ≤ table_of n
next_place k [] w n p is = elim is [ ]
next_place k (t ∷ ts) w n p is = ⊎_elim (λ here. omega (arith, p.0 n here.inside)) (λ there. omega (arith, next_place (suc k) ts w n p.1 there.1)) is

next_inside : (k : ℕ) (ts : List Entries) (w n : List ℕ) → PlacedFrom k ts → IsNextIn ts w n → nodes_from k ts n ≢ []
next_inside k [] w n p is = elim is [ ]
next_inside k (t ∷ ts) w n p is =
    ⊎_elim
    (λ here none. here.inside (sym (ap (λ b. cond b (nodes_in t n) (nodes_from (suc k) ts n)) (eq-eqb (table_of n) k (p.0 n here.inside))) ∙ none))
    (λ there none. next_inside (suc k) ts w n p.1 there.1 (sym (ap (λ b. cond b (nodes_in t n) (nodes_from (suc k) ts n)) (ne_eqb (table_of n) k (λ e. omega (arith, e, next_place (suc k) ts w n p.1 there.1)))) ∙ none))
    is

next_behind : (ts : List Entries) (w n : List ℕ) → IsNextIn ts w n → byte_order w n ≡ Less
next_behind [] w n is = elim is [ ]
next_behind (t ∷ ts) w n is = ⊎_elim (λ here. here.after) (λ there. next_behind ts w n there.1) is

next_least : (k : ℕ) (ts : List Entries) (w n : List ℕ) → PlacedFrom k ts → IsNextIn ts w n → (q : List ℕ) → byte_order w q ≡ Less → table_of q ≤ table_of n → nodes_from k ts q ≢ [] → is_gt (byte_order n q) ≡ false
next_least k [] w n p is q less le some = elim is [ ]
next_least k (t ∷ ts) w n p is q less le some =
    ⊎_elim
    (λ mine. let same : nodes_from k (t ∷ ts) q ≡ nodes_in t q = ap (λ b. cond b (nodes_in t q) (nodes_from (suc k) ts q)) mine in
    ⊎_elim
    (λ here. here.least q less (λ none. some (same ∙ none)))
    (λ there. absurd (some (same ∙ there.0 q less)))
    is)
    (λ other. let same : nodes_from k (t ∷ ts) q ≡ nodes_from (suc k) ts q = ap (λ b. cond b (nodes_in t q) (nodes_from (suc k) ts q)) other in
    let rest : nodes_from (suc k) ts q ≢ [] = λ none. some (same ∙ none) in
    ⊎_elim
    (λ here. absurd (omega (arith, from_below (suc k) ts q rest, le, p.0 n here.inside)))
    (λ there. next_least (suc k) ts w n p.1 there.1 q less le rest)
    is)
    (cases_Bool (table_of q == k))

none_in : (k : ℕ) (ts : List Entries) (w : List ℕ) → IsLastIn ts w → (q : List ℕ) → byte_order w q ≡ Less → nodes_from k ts q ≡ []
none_in k [] w last q less = refl
none_in k (t ∷ ts) w last q less =
    elim (table_of q == k) as (λ b. cond b (nodes_in t q) (nodes_from (suc k) ts q) ≡ []) [ true ↦ last.0 q less | false ↦ none_in (suc k) ts w last.1 q less ]

-- ---- over all tables, by the table of the word

module _ (ts : List Entries) (held : Held) (seen : ts ≡ held) (are : AreTables ts) (w : List ℕ) (i : ℕ) (few : i < 6) (place : i + 1 ≡ table_of w) (d : Entries) where
  abbrev own : List ℕ → List Docs
  own q = nodes_in (get_or ts i d) q

  in_own : (q : List ℕ) → table_of q ≡ table_of w → nodes held q ≡ own q
  in_own q same = own_nodes ts held seen are i few d q (place ∙ sym same)

  own_place : (q : List ℕ) → own q ≢ [] → table_of q ≡ table_of w
  own_place q some = omega (arith, placed_at 1 i ts d are.placed (omega (arith, few, are.six)) q some, place)

  -- behind a word that begins behind z stand words of its own table alone
  all_own : 122 < slice_index w 0 → (q : List ℕ) → byte_order w q ≡ Less → nodes held q ≡ own q
  all_own high q less = in_own q (high_table q (omega (arith, high, first_rises w q less)) ∙ sym (high_table w high))

  pub found_high : 122 < slice_index w 0 → (n : List ℕ) → IsNext own w n → IsNext (nodes held) w n
  found_high high n is = record {
    inside = λ none. is.inside (sym (all_own high n is.after) ∙ none);
    after = is.after;
    least = λ q less some. is.least q less (λ none. some (all_own high q less ∙ none));
  }

  pub none_high : 122 < slice_index w 0 → IsLast own w → IsLast (nodes held) w
  none_high high last q less = all_own high q less ∙ last q less

  -- a word between w and one that doesn't begin behind z stands in no table before that of w, and in none behind that one's
  between : (n q : List ℕ) → slice_index n 0 ≤ 122 → byte_order w q ≡ Less → byte_order q n ≡ Less → (slice_index q 0 ≤ 122) × (table_of w ≤ table_of q) × (table_of q ≤ table_of n)
  between n q low less before =
      let q_low : slice_index q 0 ≤ 122 = omega (arith, low, first_rises q n before) in
      (q_low, tables_rise_to_z w q less q_low, tables_rise_to_z q n before low)

  pub found_own : (n : List ℕ) → (122 < slice_index n 0 → ⊥) → IsNext own w n → IsNext (nodes held) w n
  found_own n low is = record {
    inside = λ none. is.inside (sym (in_own n (own_place n is.inside)) ∙ none);
    after = is.after;
    least = λ q less some. ⊎_elim
        (λ above. let b = between n q (omega (arith, low)) less (below_it n q above) in
        is.least q less (λ none. some (in_own q (omega (arith, b.1, b.2, own_place n is.inside)) ∙ none)))
        (λ not_above. not_above)
        (cases_Bool (is_gt (byte_order n q)));
  }

  -- the own table has no word behind w that doesn't begin behind z
  abbrev pub NoneLow : Type 0
  NoneLow = (q : List ℕ) → byte_order w q ≡ Less → slice_index q 0 ≤ 122 → own q ≡ []

  pub low_none : IsLast own w → NoneLow
  low_none last q less low = last q less

  pub low_past : (n : List ℕ) → 122 < slice_index n 0 → IsNext own w n → NoneLow
  low_past n high is q less low = nothing_left (own q) (λ some. false≢true (sym (is.least q less some) ∙ first_above n q (omega (arith, high, low))))

  abbrev later : List Entries
  later = drop (i + 1) ts

  in_later : (q : List ℕ) → 1 + (i + 1) ≤ table_of q → nodes held q ≡ nodes_from (1 + (i + 1)) later q
  in_later q le = ap (λ h. nodes_from 1 h q) (sym seen) ∙ from_drop 1 (i + 1) ts q le

  pub found_later : NoneLow → (n : List ℕ) → IsNextIn later w n → IsNext (nodes held) w n
  found_later none_low n is =
      let p : PlacedFrom (1 + (i + 1)) later = placed_drop 1 (i + 1) ts are.placed in
      let at : 1 + (i + 1) ≤ table_of n = next_place (1 + (i + 1)) later w n p is in
      let low : slice_index n 0 ≤ 122 = low_of n (λ e. omega (arith, e, at)) in
      record {
        inside = λ none. next_inside (1 + (i + 1)) later w n p is (sym (in_later n at) ∙ none);
        after = next_behind later w n is;
        least = λ q less some. ⊎_elim
            (λ above. let b = between n q low less (below_it n q above) in
            ⊎_elim
            (λ same. absurd (some (in_own q same ∙ none_low q less b.0)))
            (λ other. let le : 1 + (i + 1) ≤ table_of q = omega (arith, other, b.1, place) in
            next_least (1 + (i + 1)) later w n p is q less b.2 (λ none. some (in_later q le ∙ none)))
            (cases_eq (table_of q) (table_of w)))
            (λ not_above. not_above)
            (cases_Bool (is_gt (byte_order n q)));
      }

  -- then the words behind w are those of the first table
  others : NoneLow → IsLastIn later w → (q : List ℕ) → byte_order w q ≡ Less → table_of q ≢ 1 → nodes held q ≡ []
  others none_low last q less other =
      let low : slice_index q 0 ≤ 122 = low_of q other in
      let from : table_of w ≤ table_of q = tables_rise_to_z w q less low in
      ⊎_elim
      (λ same. in_own q same ∙ none_low q less low)
      (λ apart. in_later q (omega (arith, apart, from, place)) ∙ none_in (1 + (i + 1)) later w last q less)
      (cases_eq (table_of q) (table_of w))

  abbrev first : Entries → List ℕ → List Docs
  first e q = nodes_in (get_or ts 0 e) q

  in_first : (e : Entries) (q : List ℕ) → table_of q ≡ 1 → nodes held q ≡ first e q
  in_first e q one = own_nodes ts held seen are 0 (omega arith) e q (sym one)

  pub found_first : NoneLow → IsLastIn later w → (e : Entries) (n : List ℕ) → IsNext (first e) w n → IsNext (nodes held) w n
  found_first none_low last e n is = record {
    inside = λ none. is.inside (sym (in_first e n (omega (arith, placed_at 1 0 ts e are.placed (omega (arith, are.six)) n is.inside))) ∙ none);
    after = is.after;
    least = λ q less some. ⊎_elim
        (λ one. is.least q less (λ none. some (in_first e q one ∙ none)))
        (λ other. absurd (some (others none_low last q less other)))
        (cases_eq (table_of q) 1);
  }

  pub none_first : NoneLow → IsLastIn later w → (e : Entries) → IsLast (first e) w → IsLast (nodes held) w
  none_first none_low last e last_first q less =
      ⊎_elim
      (λ one. in_first e q one ∙ last_first q less)
      (λ other. others none_low last q less other)
      (cases_eq (table_of q) 1)

-- ---- words with a prefix

pub begins_table : (p q : List ℕ) → 0 < length p → begins_with p q ≡ true → table_of q ≡ table_of p
begins_table [] q some e = absurd (omega (arith, some))
begins_table (a ∷ p) [] some e = absurd (false≢true e)
begins_table (a ∷ p) (b ∷ q) some e =
    ⊎_elim
    (λ same. ap (λ z. table_of (z ∷ [])) (sym (eqb-true a b same)))
    (λ other. absurd (false≢true (sym (ap (λ t. t && begins_with p q) other) ∙ e)))
    (cases_Bool (nat_eq a b))

pub listing_over : (p : List ℕ) (l : List (List ℕ × List Docs)) (f g : List ℕ → List Docs) → ((q : List ℕ) → begins_with p q ≡ true → g q ≡ f q) → IsListing f p l → IsListing g p l
listing_over p l f g same is =
    record {
      ascending = is.ascending;
      filled = is.filled;
      exact = λ q. is.exact q ∙ ⊎_elim
          (λ passes. ap (λ b. cond b (f q) []) passes ∙ sym (same q passes) ∙ sym (ap (λ b. cond b (g q) []) passes))
          (λ none. ap (λ b. cond b (f q) []) none ∙ sym (ap (λ b. cond b (g q) []) none))
          (cases_Bool (begins_with p q));
    }
