-- Batches behind a reply, one round after another.
use Rattle.std.proofs.Common.{◌≡◌, ℕ, zero, suc, ◌-◌, ◌<◌, ◌≤◌, Bool, true, false, nat_lt, List, [], ◌∷◌, ◌++◌, append_assoc, refl, ap, subst, sym, ◌∙◌, arith}
use Rattle.std.specs.Prelude.{Option, Some, None}
use Rattle.std.proofs.lemmas.Bool.{false≢true, lt-ltb, le-ltb}
use Rattle.std.proofs.lemmas.List.{append-nil}
use Rattle.fts_steps.specs.FaultCounts.{FaultCounts, CountsFaultOf}
use Rattle.fts_steps.proofs.FaultCounts.{counts_calm, counts_behind, counts_told}
use Rattle.fts_steps.specs.Step.{Answer, full, flushed, all_flushed, measured, disk_fault, stopped, no_memory, to_measure, to_sync, Call, Sight, Steps, AreMade, is_disk_fault}
use Rattle.fts_workers.specs.declared.health.Health.{Health}
use Rattle.fts_workers.specs.declared.health.Health.TheVariants.{Sound, Short, Failed}
use Rattle.fts_workers.specs.Batches.{MakesBatches, MakesRound}
use Rattle.fts_workers.specs.Health.{health_of_answer, health_of_steps, worse}
use Rattle.fts_workers.specs.Batches.{AreBatches, if_above, unless_refused}
use Rattle.fts_workers.proofs.Worse.{worse_sound, worse_more}
use Rattle.fts_steps.proofs.Making.{made_keeps, made_append}
use Rattle.fts_workers.proofs.Making.{call_of, one_step}

-- no fault raised a count, in one step or in two
calm_one : {end : Option Health} (old new : FaultCounts) (first : Bool) → first ≡ false → (end ≡ Some Failed → ⊥) → CountsFaultOf (first ≡ true) old new
    → CountsFaultOf (end ≡ Some Failed) old new
calm_one old new first one calm = counts_told _ _ old new (λ is. absurd (calm is)) (λ e. absurd (false≢true (sym one ∙ e)))

calm_both : {end : Option Health} (old mid new : FaultCounts) (first next : Bool) → first ≡ false → next ≡ false → (end ≡ Some Failed → ⊥)
    → CountsFaultOf (first ≡ true) old mid → CountsFaultOf (next ≡ true) mid new → CountsFaultOf (end ≡ Some Failed) old new
calm_both old mid new first next one two calm before behind =
    counts_behind _ _ old mid new (λ e. false≢true (sym one ∙ e)) before (calm_one mid new next two calm behind)

module _ {S : Type 0} (sight : Sight S) (old mid : S) (size bytes : ℕ) (look : Steps sight to_measure (measured size) old mid)
    (is_limit : bytes ≡ (sight.settings mid).cache_bytes) where
  limit : bytes ≡ (sight.settings old).cache_bytes
  limit = is_limit ∙ ap (λ s. s.cache_bytes) look.keeps.settings

  abbrev looked : Call
  looked = call_of sight to_measure (measured size) old mid look

  -- the cache is within its limit
  pub within : size ≤ bytes → MakesRound sight (Some Sound) old mid
  within low = record {
    calls = looked ∷ [];
    is = (
      refl,
      λ most. (
        size,
        refl,
        refl,
        subst (λ (above : Bool). if_above above (AreBatches (sight.settings old).cache_bytes most) []) (sym (le-ltb (sight.settings old).cache_bytes size (omega (arith, low, limit)))) refl,
      ),
    );
    steps = one_step sight to_measure (measured size) old mid look;
    faults = calm_one (sight.faults old) (sight.faults mid) (is_disk_fault (measured size)) refl (λ is. cc) look.keeps.faults;
  }

  module _ (above : bytes < size) (new : S) where
    is_above : nat_lt (sight.settings old).cache_bytes size ≡ true
    is_above = lt-ltb (sight.settings old).cache_bytes size (omega (arith, above, limit))

    module _ (answer : Answer) (batch : Steps sight to_sync answer mid new) where
      abbrev made : Call
      made = call_of sight to_sync answer mid new batch

      steps_both : AreMade sight (looked ∷ (made ∷ [])) old new
      steps_both = (mid, (look, refl), one_step sight to_sync answer mid new batch)

    -- a batch was made, and more may follow
    pub more : (through commits : ℕ) → Steps sight to_sync (flushed through commits) mid new → MakesRound sight None old new
    more through commits batch = record {
      calls = looked ∷ (made (flushed through commits) batch ∷ []);
      is = (
        refl,
        λ most rest are. (
          size,
          refl,
          refl,
          subst (λ (b : Bool). if_above b (AreBatches (sight.settings old).cache_bytes most) (made (flushed through commits) batch ∷ rest)) (sym is_above) (refl, are),
        ),
      );
      steps = steps_both (flushed through commits) batch;
      faults = calm_both (sight.faults old) (sight.faults mid) (sight.faults new) (is_disk_fault (measured size)) (is_disk_fault (flushed through commits)) refl refl (λ is. cc) look.keeps.faults batch.keeps.faults;
    }

    -- the last batch, which flushed nothing
    module _ (answer : Answer) (batch : Steps sight to_sync answer mid new) (met : Health) (is_met : health_of_answer answer ≡ met) where
      abbrev as_last : ((most : ℕ) → unless_refused answer (AreBatches (sight.settings old).cache_bytes most) [])
          → CountsFaultOf (◌≡◌ {A = Option Health} (Some met) (Some Failed)) (sight.faults old) (sight.faults new) → MakesRound sight (Some met) old new
      as_last ended counts = record {
        calls = looked ∷ (made answer batch ∷ []);
        is = (
          worse_sound (health_of_answer answer) ∙ is_met,
          λ most. (
            size,
            refl,
            refl,
            subst (λ (b : Bool). if_above b (AreBatches (sight.settings old).cache_bytes most) (made answer batch ∷ [])) (sym is_above) (refl, ended most),
          ),
        );
        steps = steps_both answer batch;
        faults = counts;
      }

      -- and met no fault
      last_calm : is_disk_fault answer ≡ false → (◌≡◌ {A = Option Health} (Some met) (Some Failed) → ⊥)
          → ((most : ℕ) → unless_refused answer (AreBatches (sight.settings old).cache_bytes most) []) → MakesRound sight (Some met) old new
      last_calm no_fault calm ended =
          as_last ended (calm_both (sight.faults old) (sight.faults mid) (sight.faults new) (is_disk_fault (measured size)) (is_disk_fault answer) refl no_fault calm look.keeps.faults batch.keeps.faults)

    -- all was flushed
    pub last_of_all : (commits : ℕ) → Steps sight to_sync (all_flushed commits) mid new → MakesRound sight (Some Sound) old new
    last_of_all commits batch = last_calm (all_flushed commits) batch Sound refl refl (λ is. cc) (λ most. refl)

    -- there was no memory for it
    pub starved : Steps sight to_sync no_memory mid new → MakesRound sight (Some Short) old new
    starved batch = last_calm no_memory batch Short refl refl (λ is. cc) (λ most. refl)

    -- the index log is full
    pub has_no_room : (end : ℕ) → Steps sight to_sync (full end) mid new → MakesRound sight (Some Sound) old new
    has_no_room end batch = last_calm (full end) batch Sound refl refl (λ is. cc) (λ most. refl)

    -- an earlier fault had stopped the engine
    pub refused : (faults : ℕ) → Steps sight to_sync (stopped faults) mid new → MakesRound sight (Some Sound) old new
    refused faults batch = last_calm (stopped faults) batch Sound refl refl (λ is. cc) (λ most. refl)

    -- the index device failed
    pub fails : (faults : ℕ) → Steps sight to_sync (disk_fault faults) mid new → MakesRound sight (Some Failed) old new
    fails faults batch = as_last (disk_fault faults) batch Failed refl (λ most. refl)
        (counts_behind _ _ (sight.faults old) (sight.faults mid) (sight.faults new) (λ e. false≢true e) look.keeps.faults
        (counts_told _ _ (sight.faults mid) (sight.faults new) (λ is. refl) (λ fault. refl) batch.keeps.faults))

-- ---- rounds one after another

pub health_both : (calls more : List Call) → health_of_steps (calls ++ more) ≡ worse (health_of_steps calls) (health_of_steps more)
health_both [] more = refl
health_both (call ∷ calls) more =
    ap (worse (health_of_answer call.answer)) (health_both calls more) ∙ sym (worse_more (health_of_answer call.answer) (health_of_steps calls) (health_of_steps more))

module _ {S : Type 0} (sight : Sight S) (most : ℕ) (old : S) where
  -- so far each round made a batch, and so many more may follow
  pub record AreRounds (left : ℕ) (now : S) : Type 0 where
    pub calls : List Call
    pub steps : AreMade sight calls old now
    pub sound : health_of_steps calls ≡ Sound
    pub calm : sight.faults now ≡ sight.faults old
    pub leads : (rest : List Call) → AreBatches (sight.settings old).cache_bytes left rest → AreBatches (sight.settings old).cache_bytes most (calls ++ rest)

  pub begun : AreRounds most old
  begun = record { calls = []; steps = refl; sound = refl; calm = refl; leads = λ rest are. are }

  module _ (left : ℕ) (now : S) (so_far : AreRounds (suc left) now) (new : S) where
    same_limit : (sight.settings now).cache_bytes ≡ (sight.settings old).cache_bytes
    same_limit = ap (λ s. s.cache_bytes) (made_keeps sight so_far.calls old now so_far.steps).settings

    met_both : (met : Health) (calls : List Call) → health_of_steps calls ≡ met → health_of_steps (so_far.calls ++ calls) ≡ met
    met_both met calls is = health_both so_far.calls calls ∙ ap (λ (h : Health). worse h (health_of_steps calls)) so_far.sound ∙ is

    -- one round more
    pub one_round_more : MakesRound sight None now new → AreRounds left new
    one_round_more round = record {
      calls = so_far.calls ++ round.calls;
      steps = made_append sight so_far.calls round.calls old now new so_far.steps round.steps;
      sound = met_both Sound round.calls round.is.0;
      calm = round.faults.calm (λ is. cc) ∙ so_far.calm;
      leads = λ rest are.
          subst (AreBatches (sight.settings old).cache_bytes most) (sym (append_assoc so_far.calls round.calls rest))
          (so_far.leads (round.calls ++ rest)
          (subst (λ (bytes : ℕ). AreBatches bytes (suc left) (round.calls ++ rest)) same_limit
          (round.is.1 left rest (subst (λ (bytes : ℕ). AreBatches bytes left rest) (sym same_limit) are))));
    }

    -- the last round
    pub the_last_round : (met : Health) → MakesRound sight (Some met) now new → MakesBatches sight most met old new
    the_last_round met round = record {
      calls = so_far.calls ++ round.calls;
      are = so_far.leads round.calls (subst (λ (bytes : ℕ). AreBatches bytes (suc left) round.calls) same_limit (round.is.1 left));
      steps = made_append sight so_far.calls round.calls old now new so_far.steps round.steps;
      met_is = met_both met round.calls round.is.0;
      faults = subst (λ (counts : FaultCounts). CountsFaultOf (met ≡ Failed) counts (sight.faults new)) so_far.calm
          (counts_told _ _ (sight.faults now) (sight.faults new) (ap Some) (λ is. let same : ◌≡◌ {A = Option Health} (Some met) (Some Failed) = is in cc) round.faults);
    }

  -- there may be no more
  pub no_more : (now : S) → AreRounds 0 now → MakesBatches sight most Sound old now
  no_more now so_far = record {
    calls = so_far.calls;
    are = subst (AreBatches (sight.settings old).cache_bytes most) (append-nil so_far.calls) (so_far.leads [] refl);
    steps = so_far.steps;
    met_is = so_far.sound;
    faults = counts_calm _ _ _ (λ is. cc) so_far.calm;
  }

  pub step_more : (left : ℕ) (now new : S) → 0 < left → AreRounds left now → MakesRound sight None now new → AreRounds (left - 1) new
  step_more zero now new less so_far round = absurd (omega (arith, less))
  step_more (suc left) now new less so_far round = subst (λ (n : ℕ). AreRounds n new) (omega arith) (one_round_more left now so_far new round)

  pub step_last : (left : ℕ) (now new : S) (met : Health) → 0 < left → AreRounds left now → MakesRound sight (Some met) now new → MakesBatches sight most met old new
  step_last zero now new met less so_far round = absurd (omega (arith, less))
  step_last (suc left) now new met less so_far round = the_last_round left now so_far new met round

  pub ends_at : (left : ℕ) (now : S) → left ≤ 0 → AreRounds left now → MakesBatches sight most Sound old now
  ends_at left now least so_far = no_more now (subst (λ (n : ℕ). AreRounds n now) (omega (arith, least)) so_far)
