-- The turns of events, by what their calls answer.
use Rattle.std.proofs.Common.{◌≡◌, List, [], ◌∷◌, ◌++◌, drop, get_or, length, length-append, refl, ap, ap₂, arith, subst, sym, ◌∙◌, inl, inr, false, true}
use Rattle.std.specs.Prelude.{◌⊎◌, Option, Some, None, Bool, option_to_list, IsTrue}
use Rattle.std.proofs.lemmas.Bool.{false≢true}
use Rattle.fts_steps.specs.Running.{Running}
use Rattle.fts_disk.specs.Device.{Files}
use Rattle.fts_disk.specs.declared.disk.Disk.{Ghosts}
use Rattle.fts_core.specs.declared.event.Event.TheVariants as event
use Rattle.fts_core.specs.declared.event.Outcome.TheVariants as outcome
use Rattle.fts_core.specs.declared.world.Last.{Last}
use Rattle.fts_core.specs.declared.world.Last.TheVariants.{Other}
use Rattle.fts_core.specs.declared.world.Place.{Place}
use Rattle.fts_core.specs.declared.world.Place.TheVariants.{Closed}
use Rattle.fts_core.specs.declared.world.World.{World}
use Rattle.fts_core.specs.World.{rows_at, index_at, in_doubt}
use Rattle.fts_core.specs.Parts.{world_of, behind}
use Rattle.fts_core.specs.Core.{Core, Fits, TakesBack, IsLeftOn}
use Rattle.fts_core.specs.Lists.{Turned}
use Rattle.fts_core.proofs.Found.{crashed_core, crashes, crashed_after, crashed_within}

-- a world is its parts
pub same_world : {D E : Type 0} {disk : Ghosts D} {disk' : Ghosts E} (world : World D E disk disk') (place : Place D E disk disk') (last : Last) → world.place ≡ place → world.last ≡ last
    → world ≡ world_of place world.acknowledged world.doubt last
same_world {D} {E} {disk} {disk'} world place last same same' =
    ap₂ (λ (p : Place D E disk disk') (l : Last). world_of p world.acknowledged world.doubt l) same same'

-- a device that tells keeps the laws of devices
pub record IsHonest {D : Type 0} (disk : Ghosts D) : Type 0 where
  pub told : IsTrue disk.tells
  pub stay : (d : D) → disk.images d (disk.seen d)
  pub only : (d : D) (c : Files) → disk.left_since d (disk.moment d) c → disk.images d c

module _ {D E : Type 0} {disk : Ghosts D} {disk' : Ghosts E} (h : IsHonest disk) (h' : IsHonest disk') (core : Core) where
  -- ---- crashes

  module _ (world : World D E disk disk') (fits : Fits core world) (rows : D) (index : E) where
    pub turned_after : IsLeftOn disk false core.since.rows (rows_at world.place) rows → IsLeftOn disk' false core.since.index (index_at world.place) index
        → (new : World D E disk disk') → new ≡ behind (Closed rows index) world.acknowledged world.doubt → Turned (event.Crash rows index false) outcome.Crashed core world new
    turned_after left left' new is =
        subst (λ (w : World D E disk disk'). Turned (event.Crash rows index false) outcome.Crashed core world w) (sym is)
        (record {
          next = crashed_core h.stay h'.stay core world fits h.only h'.only rows index core.now;
          turns = crashes h.stay h'.stay core world fits h.only h'.only rows index false;
          fits = crashed_after h.stay h'.stay core world fits h.only h'.only rows index left left';
        })

    pub turned_within : IsLeftOn disk true core.since.rows (rows_at world.place) rows → IsLeftOn disk' true core.since.index (index_at world.place) index
        → (new : World D E disk disk') → new.place ≡ Closed rows index → new.last ≡ Other
        → (new.acknowledged.items ≡ core.undone.state.commits) × (in_doubt new ≡ core.undone.doubt) → Turned (event.Crash rows index true) outcome.Crashed core world new
    turned_within left left' new place last lists =
        subst (λ (w : World D E disk disk'). Turned (event.Crash rows index true) outcome.Crashed core world w) (sym (same_world new (Closed rows index) Other place last))
        (record {
          next = crashed_core h.stay h'.stay core world fits h.only h'.only rows index core.undone;
          turns = crashes h.stay h'.stay core world fits h.only h'.only rows index true;
          fits = crashed_within h.stay h'.stay core world fits h.only h'.only rows index left left' new.acknowledged new.doubt lists.0 lists.1;
        })

    pub turned_crash : (within : Bool) → IsLeftOn disk within core.since.rows (rows_at world.place) rows × IsLeftOn disk' within core.since.index (index_at world.place) index
        → (new : World D E disk disk')
        → ((within ≡ false) × (new ≡ behind (Closed rows index) world.acknowledged world.doubt))
        ⊎ ((within ≡ true) × (new.place ≡ Closed rows index) × (new.last ≡ Other) × ((now undone : Running) → TakesBack world.last now undone
        → world.acknowledged.items ≡ now.state.commits → option_to_list world.doubt ≡ now.doubt → (new.acknowledged.items ≡ undone.state.commits) × (in_doubt new ≡ undone.doubt)))
        → Turned (event.Crash rows index within) outcome.Crashed core world new
    turned_crash true can new (inl (outside, is)) = absurd (false≢true (sym outside))
    turned_crash false can new (inl (outside, is)) = turned_after can.0 can.1 new is
    turned_crash true can new (inr (inside, place, last, lists)) = turned_within can.0 can.1 new place last (lists core.now core.undone fits.last fits.acknowledged fits.doubt)
    turned_crash false can new (inr (inside, place, last, lists)) = absurd (false≢true inside)

-- ---- what a crash takes back

snoc : {A : Type 0} (xs ys : List A) (x y : A) → xs ++ x ∷ [] ≡ ys ++ y ∷ [] → (xs ≡ ys) × (x ≡ y)
snoc [] [] x y same = (refl, ap (λ l. get_or l 0 x) same)
snoc [] (b ∷ []) x y same = absurd (omega (arith, ap length same))
snoc [] (b ∷ d ∷ ys) x y same = absurd (omega (arith, ap length same))
snoc (a ∷ []) [] x y same = absurd (omega (arith, ap length same))
snoc (a ∷ d ∷ xs) [] x y same = absurd (omega (arith, ap length same))
snoc (a ∷ xs) (b ∷ ys) x y same =
    let rest = snoc xs ys x y (ap (drop 1) same) in (ap₂ (λ (first : _) (all : List _). first ∷ all) (ap (λ l. get_or l 0 a) same) rest.0, rest.1)

-- the last one is taken back
pub popped : {A : Type 0} (all front back : List A) (last : Option A) (x : A) → all ≡ front ++ option_to_list last → all ≡ back ++ x ∷ []
    → (last ≡ None → length all ≡ 0)
    → (front ≡ back) × (option_to_list last ≡ x ∷ [])
popped all front back None x split same some =
    absurd (omega (arith, some refl, ap length same, length-append back (x ∷ [])))
popped {A} all front back (Some y) x split same some =
    let both = snoc front back y x (sym split ∙ same) in (both.0, ap (λ (z : A). z ∷ []) both.1)
