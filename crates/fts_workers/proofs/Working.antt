-- Rounds of a worker, one behind another.
use Rattle.std.proofs.Common.{◌≡◌, ℕ, zero, suc, List, [], ◌∷◌, ◌++◌, All, refl, ap, subst, sym, ◌∙◌, arith}
use Rattle.std.proofs.lemmas.List.{append-nil, append_assoc}
use Rattle.std.proofs.lemmas.List.Elements.{All-append}
use Rattle.fts_types.specs.declared.settings.Settings.{Settings}
use Rattle.fts_steps.specs.FaultCounts.{FaultCounts, CountsFaultOf}
use Rattle.fts_steps.proofs.FaultCounts.{counts_calm}
use Rattle.fts_steps.specs.Step.{Call, Sight, AreMade}
use Rattle.fts_steps.proofs.Making.{made_keeps, made_append}
use Rattle.fts_workers.specs.declared.health.Health.{Health}
use Rattle.fts_workers.specs.declared.health.Health.TheVariants.{Sound, Failed}
use Rattle.fts_workers.specs.Health.{health_of_steps, worse}
use Rattle.fts_workers.specs.Workers.{MakesOne, Works, all_steps}
use Rattle.fts_workers.proofs.OneRound.{health_both}
use Rattle.fts_workers.proofs.Worse.{counted_more}

all_one : {X : Type 0} (P : X → Type 0) (x : X) → P x → All P (x ∷ [])
all_one P x is zero d less = is
all_one P x is (suc i) d less = absurd (omega (arith, less))

-- the steps of one round more
steps_more : (rounds : List (List Call)) (calls : List Call) → all_steps (rounds ++ calls ∷ []) ≡ all_steps rounds ++ calls
steps_more [] calls = append-nil calls
steps_more (round ∷ rounds) calls = ap (λ (c : List Call). round ++ c) (steps_more rounds calls) ∙ sym (append_assoc round (all_steps rounds) calls)

module _ {S : Type 0} (sight : Sight S) (Round : Settings → List Call → Type 0) (old : S) where
  -- rounds that were made so far, and what they met
  pub record AreSoFar (met : Health) (now : S) : Type 0 where
    pub rounds : List (List Call)
    pub are : All (Round (sight.settings old)) rounds
    pub made : AreMade sight (all_steps rounds) old now
    pub met_is : met ≡ health_of_steps (all_steps rounds)
    pub faults : CountsFaultOf (met ≡ Failed) (sight.faults old) (sight.faults now)

  pub none_yet : AreSoFar Sound old
  none_yet = record {
    rounds = [];
    are = λ i d less. absurd (omega (arith, less));
    made = refl;
    met_is = refl;
    faults = counts_calm _ _ _ (λ is. cc) refl;
  }

  module _ (met now_met : Health) (now new : S) (so_far : AreSoFar met now) (one : MakesOne sight Round now_met now new) where
    its : Round (sight.settings old) one.calls
    its = subst (λ (s : Settings). Round s one.calls) (made_keeps sight (all_steps so_far.rounds) old now so_far.made).settings one.is

    made_both : AreMade sight (all_steps so_far.rounds ++ one.calls) old new
    made_both = made_append sight (all_steps so_far.rounds) one.calls old now new so_far.made one.made

    met_both : worse met now_met ≡ health_of_steps (all_steps so_far.rounds ++ one.calls)
    met_both =
        ap (λ (h : Health). worse h now_met) so_far.met_is
        ∙ ap (worse (health_of_steps (all_steps so_far.rounds))) one.met_is
        ∙ sym (health_both (all_steps so_far.rounds) one.calls)

    faults_both : CountsFaultOf (worse met now_met ≡ Failed) (sight.faults old) (sight.faults new)
    faults_both = counted_more met now_met (sight.faults old) (sight.faults now) (sight.faults new) so_far.faults one.faults

    -- one round more
    pub one_more : AreSoFar (worse met now_met) new
    one_more = record {
      rounds = so_far.rounds ++ one.calls ∷ [];
      are = All-append (Round (sight.settings old)) so_far.rounds (one.calls ∷ []) so_far.are (all_one (Round (sight.settings old)) one.calls its);
      made = subst (λ (c : List Call). AreMade sight c old new) (sym (steps_more so_far.rounds one.calls)) made_both;
      met_is = met_both ∙ sym (ap health_of_steps (steps_more so_far.rounds one.calls));
      faults = faults_both;
    }

    -- the last one
    pub the_last : Works sight Round (worse met now_met) old new
    the_last = record {
      rounds = so_far.rounds;
      last = one.calls;
      are = so_far.are;
      last_is = its;
      made = made_both;
      met_is = met_both;
      faults = faults_both;
    }
