-- A step under the turn.
use Rattle.std.proofs.Common.{◌≡◌, ◌≤◌, ◌==◌, ℕ, ◌+◌, Bool, true, false, List, [], ◌++◌, refl, sym, ap, ◌∙◌, subst, arith, inl}
use Rattle.std.proofs.lemmas.List.{append_assoc}
use Rattle.std.proofs.lemmas.Bool.{false≢true}
use Rattle.std.specs.Prelude.{IsTrue}
use Rattle.fts_disk.specs.declared.disk.Disk.{Ghosts}
use Rattle.fts_faults.specs.Count.{Rose}
use Rattle.fts_turn.specs.declared.turn.Turns.{Turns}
use Rattle.fts_turn.specs.declared.seat.Seat.{Seat}
use Rattle.fts_turn.specs.Histories.{Begins, entries_by}
use Rattle.fts_turn.specs.Promises.{opening_of, seat_number, seat_seen, seat_gave, seat_turns, IsSameSeat}
use Rattle.fts_types.specs.declared.limits.Limits.{Limits}
use Rattle.fts_steps.specs.FaultCounts.{together, CountsFaultOf}
use Rattle.fts_steps.specs.Running.{Running, Entry, What, grown}
use Rattle.fts_steps.specs.Step.{Ask, Answer, no_memory, is_disk_fault, changes_of, entries_of, MayAnswer, Steps, Keeps}
use Rattle.fts_engine.specs.declared.engine.Engine.{Engine}
use Rattle.fts_engine.specs.Stands.{engine_sight, engine_limits, engine_faults}
use Rattle.fts_shared.specs.declared.at_turn.AtTurn.{AtTurn}
use Rattle.fts_shared.specs.History.{noted, faults_in, StandsFor}
use Rattle.fts_shared.specs.Shared.{first_of, seat_sight, IsGivenBack}
use Rattle.fts_shared.proofs.Telling.{told_by, calm_told, fault_of, IsOfDevice, tells_as, faults_more}
use Rattle.fts_shared.proofs.Histories.{grown_more, same_growth, own_below, rose_from, rose_together}

-- a seat took the value with this engine, which made a step, and gave it back with what the step adds
module _ {D E : Type 0} {rows : Ghosts D} {index : Ghosts E} (turn : Turns (AtTurn D E rows index) Entry) (seat taken given : Seat (AtTurn D E rows index) Entry)
    (ask : Ask) (answer : Answer) (old : AtTurn D E rows index) (new : Engine D E rows index) where
  pub record InTurn : Type 0 where
    pub stood : StandsFor (opening_of turn) old (seat_seen taken)
    pub begins : Begins (seat_seen seat) (seat_seen taken)
    pub own : entries_by (λ (entry : Entry). entry.by) (seat_number taken) (seat_seen taken) ≡ seat_gave taken
    pub same : IsSameSeat seat taken
    pub gave : seat_gave taken ≡ seat_gave seat
    pub turns : seat_turns taken ≡ seat_turns seat + 1
    pub step : Steps engine_sight ask answer old.engine new
    pub of : IsOfDevice ask answer
    pub back : IsGivenBack turn (entries_of (seat_number taken) ask answer) taken given

  module _ (it : InTurn) where
    abbrev more : List Entry
    more = it.begins.0

    abbrev added : List Entry
    added = entries_of (seat_number taken) ask answer

    -- the engine that was taken is that of the seat, grown by what others added
    taken_is : (first running : Running) → running ≡ grown first (seat_seen seat) → grown first (seat_seen taken) ≡ grown running more
    taken_is first running is =
        ap (grown first) it.begins.1 ∙ grown_more first (seat_seen seat) more ∙ ap (λ (r : Running). grown r more) (sym is)

    -- the count of faults, as the seat knows it
    abbrev before : ℕ
    before = together (engine_faults (first_of turn))

    abbrev known : ℕ
    known = faults_in before (seat_gave seat)

    abbrev now_known : ℕ
    now_known = faults_in before (seat_gave given)

    now_is : now_known ≡ told_by answer known
    now_is = ap (faults_in before) it.back.gave ∙ faults_more before (seat_gave taken) added
        ∙ ap (λ (gave : List Entry). faults_in (faults_in before gave) added) it.gave
        ∙ (tells_as ask answer it.of).0 (seat_number taken) known

    below : known ≤ together (engine_faults old.engine)
    below =
        let less : faults_in before (entries_by (λ (entry : Entry). entry.by) (seat_number taken) (seat_seen taken)) ≤ faults_in before (seat_seen taken) =
        own_below (λ (entry : Entry). entry.by == seat_number taken) (seat_seen taken) before before (omega arith) it.stood.rising in
        let own = ap (faults_in before) (it.own ∙ it.gave) in
        let there = it.stood.faults in
        omega (arith, less, own, there)

    -- a fault is that of the devices
    fault_is : is_disk_fault answer ≡ true → now_known ≡ together (engine_faults new)
    fault_is fault =
        let told = fault_of answer fault in
        now_is ∙ ap (λ (a : Answer). told_by a known) told.1 ∙ it.step.keeps.sum told.0 told.1

    counts_by : (b : Bool) → is_disk_fault answer ≡ b → CountsFaultOf (IsTrue (is_disk_fault answer)) (known, 0) (now_known, 0)
    counts_by false calm =
        let same : now_known ≡ known = now_is ∙ calm_told answer known calm in
        record {
          rose = λ fault. absurd (false≢true (sym calm ∙ fault));
          calm = λ none. ap (λ (n : ℕ). (n, 0)) same;
          never_fall = (omega (arith, same), omega arith);
        }
    counts_by true fault =
        let is = fault_is fault in
        let fell = it.step.keeps.faults.never_fall in
        let rows_up = fell.0 in
        let index_up = fell.1 in
        let less = below in
        record {
          rose = λ told. inl (subst (λ (n : ℕ). Rose known n) (sym is)
              (rose_from known (together (engine_faults old.engine)) (together (engine_faults new)) below
              (rose_together (engine_faults old.engine) (engine_faults new) (it.step.keeps.faults.rose told) it.step.keeps.faults.never_fall)));
          calm = λ none. absurd (none fault);
          never_fall = (omega (arith, is, rows_up, index_up, less), omega arith);
        }

    kept : Keeps (seat_sight {rows = rows} {index = index}) answer (turn, seat) (turn, given)
    kept = record {
      settings = refl;
      limits = refl;
      faults = counts_by (is_disk_fault answer) refl;
      sum = λ n is. sym (ap (λ (k : ℕ). k + 0) (now_is ∙ ap (λ (a : Answer). told_by a known) is) ∙ plus_none n);
    }
      where
        plus_none : (n : ℕ) → n + 0 ≡ n
        plus_none n = omega arith

    pub in_turn : Steps (seat_sight {rows = rows} {index = index}) ask answer (turn, seat) (turn, given)
    in_turn = record {
      more = more;
      each = λ running s.
          let step = it.step.each (grown s.0 (seat_seen taken)) (it.stood.stands s.0 s.1) in
          record {
            alone = λ e. absurd (false≢true (sym e));
            may = subst (λ (limits : Limits). MayAnswer limits (grown running more) ask answer) it.stood.limits
                (subst (λ (r : Running). MayAnswer (engine_limits old.engine) r ask answer) (taken_is s.0 running s.2)
                (subst (λ (mores : List Entry). MayAnswer (engine_limits old.engine) (grown (grown s.0 (seat_seen taken)) mores) ask answer) (step.alone refl)
                step.may));
            stands = (
              s.0,
              s.1,
              (
                  ap (λ (r : Running). grown r (entries_of 0 ask answer)) (sym (taken_is s.0 running s.2))
                  ∙ same_growth (grown s.0 (seat_seen taken)) 0 (seat_number taken) (changes_of ask answer)
                  ∙ sym (grown_more s.0 (seat_seen taken) added)
                  ∙ ap (grown s.0) (sym it.back.seen)),
            );
            rows = λ e. absurd (false≢true (sym e));
            index = λ e. absurd (false≢true (sym e));
            keeps = kept;
          };
      tells = λ shared. record {
        number = it.back.same.number ∙ it.same.number;
        seen = it.back.seen ∙ ap (λ (seen : List Entry). seen ++ added) it.begins.1
            ∙ append_assoc (seat_seen seat) more added
            ∙ ap (λ (n : ℕ). seat_seen seat ++ (more ++ entries_of n ask answer)) it.same.number;
        gave = it.back.gave ∙ ap (λ (gave : List Entry). gave ++ added) it.gave
            ∙ ap (λ (n : ℕ). seat_gave seat ++ entries_of n ask answer) it.same.number;
        turns_are = it.back.turns ∙ it.turns;
        place = ap (λ (n : ℕ). (turn, n)) (it.back.same.makes ∙ it.same.makes);
      };
      keeps = kept;
    }

-- where memory is wanted before anything is asked of the engine, its step is none
module _ {D E : Type 0} {rows : Ghosts D} {index : Ghosts E} (engine : Engine D E rows index) (ask : Ask) (none : changes_of ask no_memory ≡ []) where
  abbrev keeps : Keeps engine_sight no_memory engine engine
  keeps = record {
    settings = refl;
    limits = refl;
    faults = record { rose = λ fault. absurd (false≢true fault); calm = λ none. refl; never_fall = (omega arith, omega arith) };
    sum = λ n is. absurd (false≢true (ap is_disk_fault is));
  }

  pub no_step : Steps engine_sight ask no_memory engine engine
  no_step = record {
    more = [];
    each = λ running stands. record {
      alone = λ e. refl;
      may = tt;
      stands = subst (λ (whats : List What). engine_sight.stands (grown running (noted 0 whats)) engine) (sym none) stands;
      rows = λ alone tells. inl refl;
      index = λ alone tells. inl refl;
      keeps = keeps;
    };
    tells = λ shared. absurd (false≢true shared);
    keeps = keeps;
  }
