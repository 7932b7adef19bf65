-- Replies that are put to the places of their lines, from the last one on.
use Rattle.std.proofs.Common.{◌≡◌, ◌⊎◌, ℕ, zero, suc, ◌+◌, ◌<◌, ◌≤◌, List, [], ◌∷◌, ◌++◌, length, append_assoc, inl, inr, refl, ap, sym, subst, ◌∙◌, arith, Option, Some, None}
use Rattle.std.proofs.lemmas.Option.{slice_get-map, slice_get_read, slice_get_within, slice_get_past}
use Rattle.std.proofs.lemmas.Bool.{cases_lt}
use Rattle.std.proofs.lemmas.List.{append-nil}
use Rattle.std.specs.Prelude.{map, replicate, slice_get, slice_index_or, slice_set, Vec}
use Rattle.std.specs.Global.{Global}
use Rattle.std.specs.Option.{option_map, option_and_then}
use Rattle.fts_io.specs.Text.{Line}
use Rattle.fts_script.specs.Sessions.{IsOf}
use Rattle.fts_script.specs.Group.{Share, share_of, shares_of, IsGrouping}
use Rattle.fts_script.specs.declared.grouping.Group.{Group}
use Rattle.fts_script.specs.Merge.{items_of, reply_of, IsMerged, AreApart, AreFree, Scatters}
use Rattle.fts_script.proofs.Counting.{whose}
use Rattle.fts_script.proofs.Places.{apart_at, line_at, one_share, set_same, set_other, get_replicate, get_last, length_replicate}

some_same : {X : Type 0} (a b : X) → Some a ≡ Some b → a ≡ b
some_same a b e = cc

-- the last of those that are left
last_of : {X : Type 0} (all left before done : List X) (x : X) → all ≡ before ++ done → before ≡ left ++ x ∷ [] → slice_get all (length left) ≡ Some x
last_of all left before done x is cut =
    ap (λ (l : List _). slice_get l (length left)) (is ∙ ap (λ (l : List _). l ++ done) cut ∙ append_assoc left (x ∷ []) done) ∙ get_last left done x

one_less : {X : Type 0} (all left before done : List X) (x : X) → all ≡ before ++ done → before ≡ left ++ x ∷ [] → all ≡ left ++ x ∷ done
one_less all left before done x is cut = is ∙ ap (λ (l : List _). l ++ done) cut ∙ append_assoc left (x ∷ []) done

-- these are left of all, from the front
pub record IsFront {X : Type 0} (all left : List X) : Type 0 where
  pub done : List X
  pub cut : all ≡ left ++ done

pub whole_front : {X : Type 0} (all : List X) → IsFront all all
whole_front all = record { done = []; cut = sym (append-nil all) }

pub shorter_front : {X : Type 0} (all left before : List X) (x : X) → IsFront all before → before ≡ left ++ x ∷ [] → IsFront all left
shorter_front all left before x is cut = record { done = x ∷ is.done; cut = one_less all left before is.done x is.cut cut }

pub last_in : {X : Type 0} (all left before : List X) (x : X) → IsFront all before → before ≡ left ++ x ∷ [] → slice_get all (length left) ≡ Some x
last_in all left before x is cut = last_of all left before is.done x is.cut cut

pub one_count : {X : Type 0} (left before : List X) (x : X) → before ≡ left ++ x ∷ [] → length before ≡ length left + 1
one_count left before x cut = ap length cut ∙ count left
  where
    count : (left : List _) → length (left ++ x ∷ []) ≡ length left + 1
    count [] = refl
    count (y ∷ left) = let more = count left in omega (arith, more)

-- the replies of one session from this number on were put
pub record IsPutting {T : Type 0} (places : List ℕ) (own : List T) (old : List (Option T)) (from : ℕ) (all : List (Option T)) : Type 0 where
  pub count : length all ≡ length old
  pub put : (number place : ℕ) → from ≤ number → slice_get places number ≡ Some place → slice_get all place ≡ Some (slice_get own number)
  pub kept : (place : ℕ) → ((number : ℕ) → from ≤ number → slice_get places number ≡ Some place → ⊥) → slice_get all place ≡ slice_get old place

module _ {T : Type 0} (places : List ℕ) (own : List T) (old : List (Option T)) (apart : AreApart places) (free : AreFree places old) where
  pub put_none : IsPutting places own old (length own) old
  put_none = record {
    count = refl;
    put = λ number place past here. free number place here ∙ ap Some (sym (slice_get_past own number past));
    kept = λ place none. refl;
  }

  pub put_past : (at from : ℕ) (all : List (Option T)) → from ≡ at + 1 → length places ≤ at → IsPutting places own old from all → IsPutting places own old at all
  put_past at from all next past is = record {
    count = is.count;
    put = λ number place less here. let within = slice_get_within places number place here in absurd (omega (arith, past, less, within));
    kept = λ place none. is.kept place (λ number less. none number (omega (arith, next, less)));
  }

  pub put_next : (at from place : ℕ) (all : List (Option T)) (reply : T) → from ≡ at + 1 → slice_get places at ≡ Some place → slice_get own at ≡ Some reply
      → IsPutting places own old from all → IsPutting places own old at (slice_set all place (Some reply))
  put_next at from place all reply next here its is = record {
    count = length_set all place (Some reply) ∙ is.count;
    put = λ number other less there. by_number number other there (cases_lt at number) less;
    kept = λ other none. set_other all place other (Some reply) (λ same. none at (omega arith) (here ∙ ap Some same))
        ∙ is.kept other (λ number less. none number (omega (arith, next, less)));
  }
    where
      length_set : {X : Type 0} (xs : List X) (i : ℕ) (x : X) → length (slice_set xs i x) ≡ length xs
      length_set [] i x = refl
      length_set (y ∷ xs) zero x = refl
      length_set (y ∷ xs) (suc i) x = ap suc (length_set xs i x)

      within : place < length all
      within = let count = is.count in let less = slice_get_within old place None (free at place here) in omega (arith, count, less)

      by_number : (number other : ℕ) → slice_get places number ≡ Some other → (at < number) ⊎ (number ≤ at) → at ≤ number
          → slice_get (slice_set all place (Some reply)) other ≡ Some (slice_get own number)
      by_number number other there (inl above) less =
          set_other all place other (Some reply) (λ same. let e = apart at number place here (there ∙ ap Some (sym same)) in omega (arith, e, above))
          ∙ is.put number other (omega (arith, next, above)) there
      by_number number other there (inr not_above) less =
          let same : number ≡ at = omega (arith, not_above, less) in
          let equal : other ≡ place = some_same other place (sym there ∙ ap (slice_get places) same ∙ here) in
          ap (slice_get (slice_set all place (Some reply))) equal ∙ set_same all place (Some reply) within ∙ ap Some (sym its ∙ ap (slice_get own) (sym same))

  pub put_all : (all : List (Option T)) → IsPutting places own old 0 all → Scatters places own old all
  put_all all is = record {
    count = is.count;
    put = λ number place here. is.put number place (omega arith) here;
    kept = λ place none. is.kept place (λ number less. none number);
  }

-- the replies of the sessions from this one on were put
pub record IsMerging {T : Type 0} (lines : List Line) (shares : List Share) (replies : List (List T)) (from : ℕ) (all : List (Option T)) : Type 0 where
  pub count : length all ≡ length lines
  pub own : (at number place : ℕ) (one : Share) → from ≤ at → slice_get shares at ≡ Some one → slice_get one.places number ≡ Some place
      → slice_get all place ≡ Some (reply_of replies at number)
  pub rest : (place : ℕ) → place < length lines → ((at number : ℕ) (one : Share) → from ≤ at → slice_get shares at ≡ Some one → slice_get one.places number ≡ Some place → ⊥)
      → slice_get all place ≡ Some None

module _ {T : Type 0} (lines : List Line) (shares : List Share) (replies : List (List T)) (grouped : IsGrouping lines shares) where
  within : (at number place : ℕ) (one : Share) → slice_get shares at ≡ Some one → slice_get one.places number ≡ Some place → place < length lines
  within at number place one here there = let line = line_at lines shares grouped at number place one here there in slice_get_within lines place line.0 line.1

  pub merge_none : (all : List (Option T)) (count : ℕ) → count ≡ length lines → all ≡ replicate count None → IsMerging lines shares replies (length replies) all
  merge_none all count same none = record {
    count = ap length none ∙ length_replicate count None ∙ same;
    own = λ at number place one past here there.
        answers_none place (within at number place one here there)
        ∙ ap (λ (own : Option (List T)). Some (option_and_then (λ (o : List T). slice_get o number) own)) (sym (slice_get_past replies at past));
    rest = λ place less nobody. answers_none place less;
  }
    where
      answers_none : (place : ℕ) → place < length lines → slice_get all place ≡ Some None
      answers_none place less = ap (λ (l : List (Option T)). slice_get l place) none ∙ get_replicate count place None (omega (arith, same, less))

  pub merge_apart : (at : ℕ) (one : Share) → slice_get shares at ≡ Some one → AreApart one.places
  merge_apart at one here = apart_at lines shares grouped at one here

  pub merge_free : (at from : ℕ) (one : Share) (all : List (Option T)) → from ≡ at + 1 → slice_get shares at ≡ Some one → IsMerging lines shares replies from all → AreFree one.places all
  merge_free at from one all next here is number place there =
      is.rest place (within at number place one here there)
      (λ at' number' other less here' there'. one_share lines shares grouped at at' number number' place one other (omega (arith, next, less)) here here' there there')

  pub merge_past : (at from : ℕ) (all : List (Option T)) → from ≡ at + 1 → length shares ≤ at → IsMerging lines shares replies from all → IsMerging lines shares replies at all
  merge_past at from all next past is = record {
    count = is.count;
    own = λ at' number place one less here there. let short = slice_get_within shares at' one here in absurd (omega (arith, past, less, short));
    rest = λ place less nobody. is.rest place less (λ at' number one above. nobody at' number one (omega (arith, next, above)));
  }

  pub merge_next : (at from : ℕ) (one : Share) (own : List T) (all new : List (Option T)) → from ≡ at + 1 → slice_get shares at ≡ Some one → slice_get replies at ≡ Some own
      → IsMerging lines shares replies from all → Scatters one.places own all new → IsMerging lines shares replies at new
  merge_next at from one own all new next here its is put = record {
    count = put.count ∙ is.count;
    own = λ at' number place other less here' there. by_session at' number place other here' there (cases_lt at at') less;
    rest = λ place less nobody. put.kept place (λ number there. nobody at number one (omega arith) here there)
        ∙ is.rest place less (λ at' number other above. nobody at' number other (omega (arith, next, above)));
  }
    where
      by_session : (at' number place : ℕ) (other : Share) → slice_get shares at' ≡ Some other → slice_get other.places number ≡ Some place → (at < at') ⊎ (at' ≤ at) → at ≤ at'
          → slice_get new place ≡ Some (reply_of replies at' number)
      by_session at' number place other here' there (inl above) less =
          put.kept place (λ number' there'. one_share lines shares grouped at at' number' number place one other above here here' there' there)
          ∙ is.own at' number place other (omega (arith, next, above)) here' there
      by_session at' number place other here' there (inr not_above) less =
          let same : at' ≡ at = omega (arith, not_above, less) in
          let equal : other ≡ one = some_same other one (sym here' ∙ ap (slice_get shares) same ∙ here) in
          put.put number place (subst (λ (s : Share). slice_get s.places number ≡ Some place) equal there)
          ∙ ap (λ (o : Option (List T)). Some (option_and_then (λ (o : List T). slice_get o number) o)) (sym its ∙ ap (slice_get replies) (sym same))

  pub merge_all : (all : List (Option T)) → IsMerging lines shares replies 0 all → IsMerged lines shares replies all
  merge_all all is = record {
    count = is.count;
    own = λ at number place one here there. is.own at number place one (omega arith) here there;
    nobodys = λ place line here of. is.rest place (slice_get_within lines place line here)
        (λ at number one less here' there. let its = line_at lines shares grouped at number place one here' there in
        let same = some_same line its.0 (sym here ∙ its.1) in
        let e = whose its.0 None (Some one.number) (subst (λ (l : Line). IsOf l None) same of) its.2 in cc);
  }

-- a session's replies among those of all, and its share
pub own_in : {T : Type 0} (all left before : List (Vec T Global)) (own : Vec T Global) → IsFront all before → before ≡ left ++ own ∷ []
    → slice_get (map items_of all) (length left) ≡ Some own.items
own_in all left before own is cut = slice_get-map items_of all (length left) ∙ ap (option_map items_of) (last_in all left before own is cut)

pub share_at : (groups : List Group) (at : ℕ) (one : Group) → at < length groups → one ≡ slice_index_or groups at one → slice_get (shares_of groups) at ≡ Some (share_of one)
share_at groups at one less is = slice_get-map share_of groups at ∙ ap (option_map share_of) (slice_get_read groups (length groups) at one refl less is)
