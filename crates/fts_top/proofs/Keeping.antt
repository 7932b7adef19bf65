-- The sessions of a run, each at its place.
use Rattle.std.proofs.Common.{◌≡◌, ℕ, zero, suc, ◌<◌, ◌≤◌, Bool, true, false, List, [], ◌∷◌, ◌++◌, length, take, refl, ap, sym, subst, ◌∙◌, arith, None}
use Rattle.std.proofs.lemmas.Bool.{eq-eqb, or_parts}
use Rattle.std.proofs.lemmas.List.{length-map, map-set}
use Rattle.std.proofs.lemmas.List.Elements.{All-get_or}
use Rattle.std.specs.Prelude.{◌==◌, ◌||◌, if◌then◌else◌, All, slice_index_or, slice_set}
use Rattle.fts_sessions.specs.declared.session.Session.{Session}
use Rattle.fts_sessions.specs.Transaction.{FitsTable}
use Rattle.fts_top.specs.declared.sessions.Sessions.{Sessions}
use Rattle.fts_top.specs.Sessions.{Met, met, is_met, open_in, leaving}
use Rattle.fts_top.specs.Kept.{met_of, mets_of, mets, AreKept, IsPlace}

-- 16 sessions at most
pub kept_few : (sessions : Sessions) → AreKept sessions → length (mets sessions) ≤ 16
kept_few sessions kept = let few = kept.few in let same = length-map sessions.sessions.items met_of in omega (arith, few, same)

-- a session of this number stands first
module _ (one : Session) (sessions : List Session) (number : ℕ) (is : one.number ≡ number) where
  tested : (one.number == number) ≡ true
  tested = eq-eqb one.number number is

  first_place : IsPlace (mets_of (one ∷ sessions)) number 0 (one ∷ sessions)
  first_place = record {
    within = omega arith;
    here = λ d. ap (λ (n : ℕ). met n one.transaction) is ∙ ap (λ (b : Bool). met number (if b then one.transaction else open_in (mets_of sessions) number)) (sym tested);
    leaves = λ transaction. ap (λ (b : Bool). if b then met number transaction ∷ mets_of sessions else met_of one ∷ leaving (mets_of sessions) number transaction) tested;
  }

-- or another one does, and it is behind that
later_place : (one : Session) (sessions : List Met) (new : List Session) (number place : ℕ) → (one.number == number) ≡ false → IsPlace sessions number place new
    → IsPlace (met_of one ∷ sessions) number (suc place) (one ∷ new)
later_place one sessions new number place other is = record {
  within = let within = is.within in omega (arith, within);
  here = λ d. is.here d ∙ ap (λ (b : Bool). met number (if b then one.transaction else open_in sessions number)) (sym other);
  leaves = λ transaction.
      ap (λ (b : Bool). if b then met number transaction ∷ sessions else met_of one ∷ leaving sessions number transaction) other
      ∙ ap (λ (more : List Met). met_of one ∷ more) (is.leaves transaction);
}

-- the first session of this number, where none before has it
pub at_place : (sessions : List Session) (number place : ℕ) (d : Session) → place < length sessions → is_met (mets_of (take place sessions)) number ≡ false
    → (slice_index_or sessions place d).number ≡ number → IsPlace (mets_of sessions) number place sessions
at_place [] number place d less none is = absurd (omega (arith, less))
at_place (one ∷ sessions) number zero d less none is = first_place one sessions number is
at_place (one ∷ sessions) number (suc place) d less none is =
    let parts = or_parts (one.number == number) (is_met (mets_of (take place sessions)) number) none in
    later_place one (mets_of sessions) sessions number place parts.0 (at_place sessions number place d (omega (arith, less)) parts.1 is)

-- one more has another number
pub not_there : (sessions : List Session) (number place : ℕ) (d : Session) → place < length sessions → is_met (mets_of (take place sessions)) number ≡ false
    → ((slice_index_or sessions place d).number == number) ≡ false → is_met (mets_of (take (suc place) sessions)) number ≡ false
not_there [] number place d less none other = absurd (omega (arith, less))
not_there (one ∷ sessions) number zero d less none other = ap (λ (b : Bool). b || false) other
not_there (one ∷ sessions) number (suc place) d less none other =
    let parts = or_parts (one.number == number) (is_met (mets_of (take place sessions)) number) none in
    ap (λ (b : Bool). b || is_met (mets_of (take (suc place) sessions)) number) parts.0 ∙ not_there sessions number place d (omega (arith, less)) parts.1 other

-- so all have
pub nowhere : (sessions : List Session) (number place : ℕ) → length sessions ≤ place → is_met (mets_of (take place sessions)) number ≡ false → is_met (mets_of sessions) number ≡ false
nowhere [] number place less none = refl
nowhere (one ∷ sessions) number zero less none = absurd (omega (arith, less))
nowhere (one ∷ sessions) number (suc place) less none =
    let parts = or_parts (one.number == number) (is_met (mets_of (take place sessions)) number) none in
    ap (λ (b : Bool). b || is_met (mets_of sessions) number) parts.0 ∙ nowhere sessions number place (omega (arith, less)) parts.1

-- a session that is new comes last
pub at_end : (sessions : List Session) (number : ℕ) (new : Session) → is_met (mets_of sessions) number ≡ false → new.number ≡ number → new.transaction ≡ None
    → IsPlace (mets_of sessions) number (length sessions) (sessions ++ new ∷ [])
at_end [] number new none is closed = record {
  within = omega arith;
  here = λ d. ap (λ (n : ℕ). met n new.transaction) is ∙ ap (met number) closed;
  leaves = λ transaction. refl;
}
at_end (one ∷ sessions) number new none is closed =
    let parts = or_parts (one.number == number) (is_met (mets_of sessions) number) none in
    later_place one (mets_of sessions) (sessions ++ new ∷ []) number (length sessions) parts.0 (at_end sessions number new parts.1 is closed)

-- a session was changed at its place
pub changed : (old : List Met) (number place : ℕ) (new : List Session) (d one : Session) → IsPlace old number place new → one.number ≡ (slice_index_or new place d).number
    → mets_of (slice_set new place one) ≡ leaving old number one.transaction
changed old number place new d one is same =
    map-set met_of new place one
    ∙ ap (λ (n : ℕ). slice_set (mets_of new) place (met n one.transaction)) (same ∙ ap (λ (m : Met). m.number) (is.here d))
    ∙ sym (is.leaves one.transaction)

-- or left as it is
pub unchanged : (old : List Met) (number place : ℕ) (new : List Session) → IsPlace old number place new → mets_of new ≡ leaving old number (open_in old number)
unchanged old number place new is = kept_at new place (met number (open_in old number)) is.within (λ d. is.here d) ∙ sym (is.leaves (open_in old number))
  where
    kept_at : (sessions : List Session) (place : ℕ) (one : Met) → place < length sessions → ((d : Session) → met_of (slice_index_or sessions place d) ≡ one)
        → mets_of sessions ≡ slice_set (mets_of sessions) place one
    kept_at [] place one less here = absurd (omega (arith, less))
    kept_at (first ∷ sessions) zero one less here = ap (λ (m : Met). m ∷ mets_of sessions) (here first)
    kept_at (first ∷ sessions) (suc place) one less here = ap (λ (more : List Met). met_of first ∷ more) (kept_at sessions place one (omega (arith, less)) here)

-- what is open in it
pub stands_at : (old : List Met) (number place : ℕ) (new : List Session) (one : Session) → IsPlace old number place new → one ≡ slice_index_or new place one → open_in old number ≡ one.transaction
stands_at old number place new one is same = sym (ap (λ (s : Session). s.transaction) same ∙ ap (λ (m : Met). m.transaction) (is.here one))

pub fits_at : (columns place : ℕ) (new : List Session) (one : Session) → place < length new → one ≡ slice_index_or new place one → All (λ (s : Session). FitsTable columns s.transaction) new
    → FitsTable columns one.transaction
fits_at columns place new one less same fit =
    subst (λ (s : Session). FitsTable columns s.transaction) (sym same) (All-get_or (λ (s : Session). FitsTable columns s.transaction) new place one less fit)
