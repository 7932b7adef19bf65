-- Events one behind another.
use Rattle.std.proofs.Common.{◌≡◌, List, [], ◌∷◌, ◌++◌, length, arith, refl, subst, sym, append_assoc, append-nil}
use Rattle.std.proofs.lemmas.Bool.{false≢true}
use Rattle.std.specs.Prelude.{Bool, true, false, cond}
use Rattle.fts_disk.specs.declared.disk.Disk.{Ghosts}
use Rattle.fts_core.specs.declared.event.Event.{Event}
use Rattle.fts_core.specs.declared.event.Outcome.{Outcome}
use Rattle.fts_core.specs.declared.world.World.{World}
use Rattle.fts_core.specs.Lists.{Allows, AllowsAll}

-- no event is left
pub no_rest : {A : Type 0} (rest : List A) → length rest ≡ 0 → rest ≡ []
no_rest [] none = refl
no_rest (x ∷ rest) none = absurd (omega (arith, none))

-- an outcome was put behind the others
pub pushed : {A : Type 0} (all done : List A) (x : A) (ok : Bool) → all ≡ cond ok (done ++ x ∷ []) done → ok ≡ true → all ≡ done ++ x ∷ []
pushed all done x true is ok = is
pushed all done x false is ok = absurd (false≢true ok)

module _ {D E : Type 0} {disk : Ghosts D} {disk' : Ghosts E} (first : World D E disk disk') (events : List (Event D E)) where
  -- whatever is allowed from here on, behind what was done, is allowed from the first world on
  abbrev pub LeadsTo : World D E disk disk' → List (Event D E) → List Outcome → Type 0
  LeadsTo world rest done = (more : List Outcome) (last : World D E disk disk') → AllowsAll world rest more last → AllowsAll first events (done ++ more) last

  pub begins : LeadsTo first events []
  begins more last allows = allows

  pub goes_on : (world next : World D E disk disk') (event : Event D E) (rest : List (Event D E)) (outcome : Outcome) (done : List Outcome) → LeadsTo world (event ∷ rest) done
      → Allows world event outcome next → LeadsTo next rest (done ++ outcome ∷ [])
  goes_on world next event rest outcome done so_far allows more last later =
      subst (λ (all : List Outcome). AllowsAll first events all last) (sym (append_assoc done (outcome ∷ []) more)) (so_far (outcome ∷ more) last (next, allows, later))

  pub ends : (world : World D E disk disk') (done : List Outcome) → LeadsTo world [] done → AllowsAll first events done world
  ends world done so_far = subst (λ (all : List Outcome). AllowsAll first events all world) (append-nil done) (so_far [] world refl)
