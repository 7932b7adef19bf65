-- That the index stays right where several make steps.
use Rattle.std.proofs.Common.{◌≡◌, ℕ, List, [], ◌∷◌, ◌++◌, length, ap, subst, sym, ◌∙◌, refl, inl, inr, ◌⊎◌, arith, append-nil}
use Rattle.std.proofs.lemmas.List.{append_assoc}
use Rattle.fts_types.specs.Rules.{rules_of}
use Rattle.fts_types.specs.declared.limits.Limits.{Limits}
use Rattle.fts_commits.specs.Commit.{replay}
use Rattle.fts_disk.specs.declared.disk.Disk.{Ghosts}
use Rattle.fts_io.specs.Text.{Line}
use Rattle.fts_meaning.specs.Scan.{scan}
use Rattle.fts_meaning.specs.Tree.{Terms}
use Rattle.fts_steps.specs.Right.{HasRightIndex}
use Rattle.fts_steps.specs.Running.{Running, Entry, What, with_what, grown, opened}
use Rattle.fts_steps.specs.State.{State, HasEntries, IsRight}
use Rattle.fts_steps.specs.Step.{Call, MayAnswer, to_find, found, changes_of, entries_of}
use Rattle.fts_engine.specs.Stands.{Holds, engine_limits}
use Rattle.fts_engine.specs.declared.engine.Engine.{Engine}
use Rattle.fts_shared.specs.History.{noted}
use Rattle.fts_shared.specs.Laws.{IsStep, before_step, AddedBy, HasItsPlace}
use Rattle.fts_shared.specs.Served.{AreServed, by_number}
use Rattle.fts_shared.specs.declared.served.Served.{Served}
use Rattle.fts_shared.specs.declared.work.Work.{Work}
use Rattle.fts_shared.proofs.Finding.{added_by}
use Rattle.fts_shared.proofs.Histories.{grown_more}
use Rattle.fts_shared.proofs.Standing.{has_its_place, is_scan}
use Rattle.fts_core.proofs.Right.{AllKnown, sure_right}
use Rattle.fts_core.proofs.Real.{IsReal, AddsOne, adds_one, real_behind}

abbrev first_or : Entry → List Entry → Entry
first_or d [] = d
first_or d (x ∷ xs) = x

module _ {D E : Type 0} {rows : Ghosts D} {index : Ghosts E} (known : AllKnown) (lines : List Line) (first : Engine D E rows index) (works : List Work) (served : Served D E rows index)
    (are : AreServed lines first works served)
    (start : State) (holds : Holds (opened start) first) (right : IsRight start) where
  real_first : IsReal (opened start)
  real_first = record {
    sure = λ going. (refl, refl);
    left = refl;
    one = inl refl;
    one' = inl refl;
    right = sure_right (opened start) refl refl right;
  }

  -- some engine held what a front of the history makes
  entries_at : (front rest : List Entry) → are.history ≡ front ++ rest → HasEntries (grown (opened start) front).state
  entries_at front rest is = ((are.held front rest is).1 (opened start) holds).has.keeps.entries

  real_next : (done : List Entry) (entry : Entry) (rest : List Entry) → are.history ≡ done ++ (entry ∷ rest) → IsReal (grown (opened start) done)
      → IsReal (grown (opened start) (done ++ entry ∷ []))
  real_next done entry rest is real =
      let it = added_by (engine_limits first) (opened start) are.history (by_number are.calls) (are.told (opened start) holds) done entry rest is in
      let place = has_its_place (engine_limits first) (opened start) are.history (by_number are.calls) (are.told (opened start) holds) it.number it.earlier it.call it.step in
      let may : MayAnswer (engine_limits first) (grown (opened start) done) it.call.ask it.call.answer =
      subst (λ (front : List Entry). MayAnswer (engine_limits first) (grown (opened start) front) it.call.ask it.call.answer) it.place place.may in
      by_case it (adds_one (engine_limits first) (grown (opened start) done) it.call.ask it.call.answer may)
    where
      more : grown (opened start) (done ++ entry ∷ []) ≡ with_what (grown (opened start) done) entry.what
      more = grown_more (opened start) done (entry ∷ [])

      longer : are.history ≡ (done ++ entry ∷ []) ++ rest
      longer = is ∙ sym (append_assoc done (entry ∷ []) rest)

      by_case : (it : AddedBy (by_number are.calls) done entry) → AddsOne (engine_limits first) (grown (opened start) done) it.call.ask it.call.answer → IsReal (grown (opened start) (done ++ entry ∷ []))
      by_case it (inl none) =
          let no = ap length (sym it.added ∙ ap (noted it.number) none) in
          absurd (omega (arith, no))
      by_case it (inr (what, is_what, adds)) =
          let same : entry ≡ record { by = it.number; what = what } = ap (first_or entry) (sym it.added ∙ ap (noted it.number) is_what) in
          let is_one : what ≡ entry.what = sym (ap (λ (e : Entry). e.what) same) in
          let behind : IsReal (with_what (grown (opened start) done) what) =
          real_behind known (engine_limits first) (grown (opened start) done) real what adds
          (λ going. entries_at done (entry ∷ rest) is)
          (λ going. subst (λ (w : What). HasEntries (with_what (grown (opened start) done) w).state) (sym is_one)
          (subst (λ (r : Running). HasEntries r.state) more (entries_at (done ++ entry ∷ []) rest longer))) in
          subst IsReal (sym more) (subst (λ (w : What). IsReal (with_what (grown (opened start) done) w)) is_one behind)

  real_along : (done front rest : List Entry) → are.history ≡ done ++ (front ++ rest) → IsReal (grown (opened start) done) → IsReal (grown (opened start) (done ++ front))
  real_along done [] rest is real = subst (λ (xs : List Entry). IsReal (grown (opened start) xs)) (sym (append-nil done)) real
  real_along done (entry ∷ front) rest is real =
      subst (λ (xs : List Entry). IsReal (grown (opened start) xs)) (append_assoc done (entry ∷ []) front)
      (real_along (done ++ entry ∷ []) front rest (is ∙ sym (append_assoc done (entry ∷ []) (front ++ rest)))
      (real_next done entry (front ++ rest) is real))

  pub stays_right : (front rest : List Entry) → are.history ≡ front ++ rest → HasRightIndex (grown (opened start) front)
  stays_right front rest is = (real_along [] front rest is real_first).right

  pub are_scans : (by : ℕ) (earlier : List Call) (call : Call) → IsStep (by_number are.calls) by earlier call → (terms : Terms) → call.ask ≡ to_find terms
      → (number : ℕ) (docs : List ℕ) → call.answer ≡ found number docs → (met : Running) → met ≡ grown (opened start) (before_step by earlier call)
      → (number ≡ length met.state.commits) × (docs ≡ scan (rules_of met.state.settings) (replay met.state.commits).list terms)
  are_scans by earlier call step terms asked number docs answered met is =
      let place = has_its_place (engine_limits first) (opened start) are.history (by_number are.calls) (are.told (opened start) holds) by earlier call step in
      let both = is_scan (engine_limits first) (opened start) are.history by earlier call place terms asked number docs answered met is in (
        both.0,
        both.1 (subst (λ (r : Running). IsRight r.state) (sym is)
            (stays_right (before_step by earlier call) (entries_of by call.ask call.answer ++ place.behind) place.whole).right),
      )
