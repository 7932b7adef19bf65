-- Sessions and workers that were done at their seats, and one history that tells them.
use Rattle.std.proofs.Common.{◌≡◌, ◌≤◌, ◌==◌, ℕ, suc, ◌+◌, inl, inr, ⊎_elim, List, [], ◌∷◌, ◌++◌, length, ap, ◌∙◌, subst, sym, refl, arith, length-append, append_assoc}
use Rattle.std.specs.Prelude.{Vec}
use Rattle.std.specs.Global.{Global}
use Rattle.fts_disk.specs.declared.disk.Disk.{Ghosts}
use Rattle.fts_io.specs.Text.{Line}
use Rattle.fts_faults.specs.Count.{Rose}
use Rattle.fts_steps.specs.FaultCounts.{OneRose, together}
use Rattle.fts_steps.specs.Running.{Running, Entry, grown}
use Rattle.fts_steps.specs.Step.{Call, AreMade, after_all}
use Rattle.fts_steps.proofs.Making.{made_traced, traced_stands}
use Rattle.fts_sessions.specs.declared.direct.Direct.{Direct}
use Rattle.fts_sessions.specs.Direct.{direct_sight}
use Rattle.fts_types.specs.declared.settings.Settings.{Settings}
use Rattle.fts_engine.specs.declared.engine.Engine.{Engine}
use Rattle.fts_engine.specs.Stands.{Holds, engine_settings, engine_limits, engine_faults}
use Rattle.fts_turn.specs.declared.turn.Turns.{Turns}
use Rattle.fts_turn.specs.declared.seat.Seat.{Seat}
use Rattle.fts_turn.specs.Histories.{Begins, NoneFrom}
use Rattle.fts_turn.specs.Promises.{seats_of, seat_number, seat_seen, seat_gave, IsSeat, IsUnused, IsToldBy, Numbered}
use Rattle.fts_turn.proofs.Seats.{same_place}
use Rattle.fts_shared.specs.declared.at_turn.AtTurn.{AtTurn}
use Rattle.fts_workers.specs.declared.health.Health.{Health}
use Rattle.fts_workers.specs.declared.health.Health.TheVariants.{Failed}
use Rattle.fts_workers.specs.Health.{worse, health_of_all}
use Rattle.fts_workers.proofs.Worse.{failed_in}
use Rattle.fts_workers.specs.Workers.{SyncRound, OptimizeRound, all_steps}
use Rattle.fts_shared.specs.declared.joined.Done.{Done}
use Rattle.fts_shared.specs.declared.served.Served.{Served}
use Rattle.fts_shared.specs.declared.work.Work.{Work}
use Rattle.fts_shared.specs.History.{faults_in, NoneTellsLess}
use Rattle.fts_shared.specs.Shared.{first_of, seat_sight}
use Rattle.fts_shared.specs.Talk.{history_of, own_of}
use Rattle.fts_shared.specs.Places.{IsDone, AreDone, HasWorked, AreAllDone}
use Rattle.fts_shared.specs.Served.{by_whom, by_number, AllCalls, AreStepsOf, AreSessions, AreServed, met_by, IsToldOf, IsWorker, EndsAlone, alone, behind_last}
use Rattle.fts_shared.specs.Work.{work_replies}
use Rattle.fts_shared.proofs.Accounts.{made_tells, made_follows}
use Rattle.fts_shared.proofs.Histories.{own_below}

-- ---- two more behind a list

module _ {A : Type 0} (P : ℕ → A → Type 0) where
  pub front_of : (k : ℕ) (xs ys : List A) → Numbered P k (xs ++ ys) → Numbered P k xs
  front_of k [] ys are = tt
  front_of k (x ∷ xs) ys are = (are.0, front_of (suc k) xs ys are.1)

  module _ (one other : A) where
    -- they have the next numbers
    abbrev AreNext : ℕ → Type 0
    AreNext n = P n one × P (suc n) other

    pub last_two : (k : ℕ) (xs : List A) → Numbered P k (xs ++ (one ∷ other ∷ [])) → AreNext (length xs + k)
    last_two k [] are = subst AreNext (let same : k ≡ length {A = A} [] + k = omega arith in same) (are.0, are.1.0)
    last_two k (x ∷ xs) are = subst AreNext (omega arith) (last_two (suc k) xs are.1)

    with_two : (k : ℕ) (xs : List A) → Numbered P k xs → AreNext (length xs + k) → Numbered P k (xs ++ (one ∷ other ∷ []))
    with_two k [] are next = let here = subst AreNext (let same : length {A = A} [] + k ≡ k = omega arith in same) next in (here.0, (here.1, tt))
    with_two k (x ∷ xs) are next = (are.0, with_two (suc k) xs are.1 (subst AreNext (omega arith) next))

pub two_longer : {A : Type 0} (xs : List A) (one other : A) → length (xs ++ (one ∷ other ∷ [])) ≡ length xs + 2
two_longer xs one other = let long = length-append xs (one ∷ other ∷ []) in omega (arith, long)

pub both_last : {A : Type 0} (all rest more : List A) (one other : A) → all ≡ rest ++ other ∷ [] → rest ≡ more ++ one ∷ [] → all ≡ more ++ (one ∷ other ∷ [])
both_last all rest more one other last before = last ∙ ap (λ (xs : List _). xs ++ other ∷ []) before ∙ append_assoc more (one ∷ []) (other ∷ [])

-- ---- sessions and workers at their seats

module _ {D E : Type 0} {rows : Ghosts D} {index : Ghosts E} (lines : List Line) (turn : Turns (AtTurn D E rows index) Entry) where
  abbrev At : Type 0
  At = Seat (AtTurn D E rows index) Entry

  module _ (running : Running) (holds : Holds running (first_of turn)) (history : List Entry) where
    abbrev Of : ℕ → List Call → Type 0
    Of = AreStepsOf (engine_limits (first_of turn)) running history

    -- the steps of a seat that was not used before
    steps_of : (number : ℕ) (seat seat' : At) (calls : List Call) → IsSeat turn number seat → IsUnused seat → IsToldBy by_whom history number seat'
        → AreMade (seat_sight {rows = rows} {index = index}) calls (turn, seat) (turn, seat') → Of number calls
    steps_of number seat seat' calls is unused told made =
        let tells = made_tells (seat_sight {rows = rows} {index = index}) refl calls (turn, seat) (turn, seat') made in
        let seen : seat_seen seat' ≡ history_of number calls =
        tells.seen ∙ ap (λ (seen : List Entry). seen ++ history_of (seat_number seat) calls) unused.seen ∙ ap (λ (n : ℕ). history_of n calls) is.number_is in
        let gave : seat_gave seat' ≡ own_of number calls =
        tells.gave ∙ ap (λ (gave : List Entry). gave ++ own_of (seat_number seat) calls) unused.gave ∙ ap (λ (n : ℕ). own_of n calls) is.number_is in
        record {
          follows = made_follows (seat_sight {rows = rows} {index = index}) calls running (turn, seat) (turn, seat')
              (running, holds, ap (grown running) (sym unused.seen)) made;
          saw = subst (λ (xs : List Entry). Begins xs history) seen told.seen;
          own = told.gave ∙ gave;
        }

  -- ---- a fault that was met

  abbrev known : ℕ
  known = together (engine_faults (first_of turn))

  rose_more : (own all : ℕ) → Rose known own → own ≤ all → Rose known all
  rose_more own all (inl rose) more = inl (omega (arith, rose, more))
  rose_more own all (inr full) more = inr (omega (arith, full, more))

  rose_alone : (own : ℕ) → OneRose (known, 0) (own, 0) → Rose known own
  rose_alone own (inl rose) = rose
  rose_alone own (inr (inl none)) = absurd (omega (arith, none))
  rose_alone own (inr (inr full)) = absurd (omega (arith, full))

  -- what a seat that was not used before counted is counted by the engine
  counted_at : (number : ℕ) (seat seat' : At) (history : List Entry) → IsUnused seat → IsToldBy by_whom history number seat' → NoneTellsLess known history
      → OneRose (faults_in known (seat_gave seat), 0) (faults_in known (seat_gave seat'), 0) → Rose known (faults_in known history)
  counted_at number seat seat' history unused told rising rose =
      let before : OneRose (known, 0) (faults_in known (seat_gave seat'), 0) =
      subst (λ (gave : List Entry). OneRose (faults_in known gave, 0) (faults_in known (seat_gave seat'), 0)) unused.gave rose in
      let own : faults_in known (seat_gave seat') ≤ faults_in known history =
      subst (λ (gave : List Entry). faults_in known gave ≤ faults_in known history) told.gave
      (own_below (λ (entry : Entry). by_whom entry == number) history known known (omega arith) rising) in
      rose_more (faults_in known (seat_gave seat')) (faults_in known history) (rose_alone (faults_in known (seat_gave seat')) before) own

  -- what sessions that were done at seats from this number on, not used before, say of these later
  pub record AllOf (k : ℕ) (seats seats' : List At) (works works' : List Work) : Type 0 where
    pub still : Numbered (IsSeat turn) k seats'
    pub many : length seats' ≡ length seats
    pub calls : List (List Call)
    pub as_many : length calls ≡ length seats
    pub sessions : AreSessions lines (engine_settings (first_of turn)) works works' calls
    pub steps : (running : Running) (holds : Holds running (first_of turn)) (history : List Entry) → Numbered (IsToldBy by_whom history) k seats'
        → Numbered (Of running holds history) k calls
    pub counted : (history : List Entry) → Numbered (IsToldBy by_whom history) k seats' → NoneTellsLess known history → met_by works' ≡ Failed
        → Rose known (faults_in known history)

  pub all_of : (k : ℕ) (seats seats' : List At) (works works' : List Work) → Numbered (IsSeat turn) k seats → Numbered (λ number seat. IsUnused seat) k seats
      → AreDone lines turn seats works seats' works' → AllOf k seats seats' works works'
  all_of k [] [] [] [] are unused done = record { still = tt; many = refl; calls = []; as_many = refl; sessions = tt; steps = λ running holds history told. tt; counted = λ history told rising failed. absurd cc }
  all_of k [] [] [] (w' ∷ works') are unused done = absurd done
  all_of k [] [] (w ∷ works) works' are unused done = absurd done
  all_of k [] (s' ∷ seats') [] [] are unused done = absurd done
  all_of k [] (s' ∷ seats') [] (w' ∷ works') are unused done = absurd done
  all_of k [] (s' ∷ seats') (w ∷ works) works' are unused done = absurd done
  all_of k (s ∷ seats) seats' [] works' are unused done = absurd done
  all_of k (s ∷ seats) [] (w ∷ works) works' are unused done = absurd done
  all_of k (s ∷ seats) (s' ∷ seats') (w ∷ works) [] are unused done = absurd done
  all_of k (s ∷ seats) (s' ∷ seats') (w ∷ works) (w' ∷ works') are unused done =
      let more = all_of (suc k) seats seats' works works' are.1 unused.1 done.1 in
      record {
        still = (same_place turn k s s' are.0 done.0.rest done.0.seat_is, more.still);
        many = ap suc more.many;
        calls = done.0.talks.calls ∷ more.calls;
        as_many = ap suc more.as_many;
        sessions = (record { same = done.0.work_is; left = done.0.left; talks = done.0.talks.talks }, more.sessions);
        steps = λ running holds history told.
            (steps_of running holds history k s s' done.0.talks.calls are.0 unused.0 told.0 done.0.talks.made, more.steps running holds history told.1);
        counted = λ history told rising failed.
            ⊎_elim (λ here. counted_at k s s' history unused.0 told.0 rising (done.0.talks.faults.rose here))
            (λ behind. more.counted history told.1 rising behind)
            (failed_in (health_of_all (work_replies w')) (met_by works') failed);
      }

  pub done_many : (seats seats' : List At) (works works' : List Work) → AreDone lines turn seats works seats' works' → length seats' ≡ length seats
  done_many [] [] [] [] done = refl
  done_many [] [] [] (w' ∷ works') done = absurd done
  done_many [] [] (w ∷ works) works' done = absurd done
  done_many [] (s' ∷ seats') [] [] done = absurd done
  done_many [] (s' ∷ seats') [] (w' ∷ works') done = absurd done
  done_many [] (s' ∷ seats') (w ∷ works) works' done = absurd done
  done_many (s ∷ seats) seats' [] works' done = absurd done
  done_many (s ∷ seats) [] (w ∷ works) works' done = absurd done
  done_many (s ∷ seats) (s' ∷ seats') (w ∷ works) [] done = absurd done
  done_many (s ∷ seats) (s' ∷ seats') (w ∷ works) (w' ∷ works') done = ap suc (done_many seats seats' works works' done.1)

  -- the steps of a worker
  abbrev worked : {Round : Settings → List Call → Type 0} {seat seat' : At} {met : Health} → HasWorked Round turn seat seat' met → List Call
  worked has = all_steps has.works.rounds ++ has.works.last

  is_worker : (Round : Settings → List Call → Type 0) (seat seat' : At) (met : Health) → (has : HasWorked Round turn seat seat' met)
      → IsWorker Round (engine_settings (first_of turn)) (worked has) met
  is_worker Round seat seat' met has = record {
    rounds = has.works.rounds;
    last = has.works.last;
    are = has.works.are;
    last_is = has.works.last_is;
    calls_are = refl;
    met_is = has.works.met_is;
  }

  -- all seats, of which the sessions and the workers used each
  module _ (seats : List At) (works : List Work) (done : Done D E rows index) (all : AreAllDone lines turn seats works done)
      (are : Numbered (IsSeat turn) 0 seats) (unused : Numbered (λ number seat. IsUnused seat) 0 seats) where
    abbrev IsNever : ℕ → At → Type 0
    IsNever number seat = IsUnused seat

    were : Numbered (IsSeat turn) 0 (all.first ++ (all.sync ∷ all.optimizer ∷ []))
    were = subst (Numbered (IsSeat turn) 0) all.were are

    never : Numbered IsNever 0 (all.first ++ (all.sync ∷ all.optimizer ∷ []))
    never = subst (Numbered IsNever 0) all.were unused

    sessions : AllOf 0 all.first all.first' works done.works.items
    sessions = all_of 0 all.first all.first' works done.works.items (front_of (IsSeat turn) 0 all.first (all.sync ∷ all.optimizer ∷ []) were)
        (front_of IsNever 0 all.first (all.sync ∷ all.optimizer ∷ []) never) all.sessions

    -- the number behind those of the sessions
    abbrev behind : ℕ
    behind = length all.first + 0

    now_behind : behind ≡ length all.first' + 0
    now_behind = ap (λ (n : ℕ). n + 0) (sym sessions.many)

    next : AreNext (IsSeat turn) all.sync all.optimizer behind
    next = last_two (IsSeat turn) all.sync all.optimizer 0 all.first were

    fresh : AreNext IsNever all.sync all.optimizer behind
    fresh = last_two IsNever all.sync all.optimizer 0 all.first never

    pub still_seats : Numbered (IsSeat turn) 0 done.seats.items
    still_seats =
        subst (Numbered (IsSeat turn) 0) (sym all.are)
        (with_two (IsSeat turn) all.sync' all.optimizer' 0 all.first' sessions.still
        (subst (AreNext (IsSeat turn) all.sync' all.optimizer') now_behind (
          same_place turn behind all.sync all.sync' next.0 all.syncs.rest all.syncs.seat_is,
          same_place turn (suc behind) all.optimizer all.optimizer' next.1 all.optimizes.rest all.optimizes.seat_is,
        )))

    pub as_many_seats : length done.seats.items ≡ length seats
    as_many_seats =
        let many = sessions.many in
        let long = ap length all.were ∙ two_longer all.first all.sync all.optimizer in
        let long' = ap length all.are ∙ two_longer all.first' all.sync' all.optimizer' in
        omega (arith, many, long, long')

    abbrev calls : AllCalls
    calls = record { sessions = sessions.calls; sync = worked all.syncs; optimizer = worked all.optimizes }

    as_many_calls : length (by_number calls) ≡ length seats
    as_many_calls =
        let many = sessions.as_many in
        let long = ap length all.were ∙ two_longer all.first all.sync all.optimizer in
        let long' = two_longer sessions.calls calls.sync calls.optimizer in
        omega (arith, many, long, long')

    module _ (running : Running) (holds : Holds running (first_of turn)) (history : List Entry) (told : Numbered (IsToldBy by_whom history) 0 done.seats.items) where
      told_them : Numbered (IsToldBy by_whom history) 0 (all.first' ++ (all.sync' ∷ all.optimizer' ∷ []))
      told_them = subst (Numbered (IsToldBy by_whom history) 0) all.are told

      told_next : AreNext (IsToldBy by_whom history) all.sync' all.optimizer' behind
      told_next = subst (AreNext (IsToldBy by_whom history) all.sync' all.optimizer') (sym now_behind)
          (last_two (IsToldBy by_whom history) all.sync' all.optimizer' 0 all.first' told_them)

      each_step : Numbered (Of running holds history) 0 (by_number calls)
      each_step =
          with_two (Of running holds history) calls.sync calls.optimizer 0 sessions.calls
          (sessions.steps running holds history (front_of (IsToldBy by_whom history) 0 all.first' (all.sync' ∷ all.optimizer' ∷ []) told_them))
          (subst (AreNext (Of running holds history) calls.sync calls.optimizer) (ap (λ (n : ℕ). n + 0) (sym sessions.as_many)) (
            steps_of running holds history behind all.sync all.sync' calls.sync next.0 fresh.0 told_next.0 all.syncs.works.made,
            steps_of running holds history (suc behind) all.optimizer all.optimizer' calls.optimizer next.1 fresh.1 told_next.1 all.optimizes.works.made,
          ))

    -- a fault that a session or a worker met
    met_counted : (history : List Entry) → Numbered (IsToldBy by_whom history) 0 done.seats.items → NoneTellsLess known history
        → worse (worse all.synced all.optimized) (met_by done.works.items) ≡ Failed → Rose known (faults_in known history)
    met_counted history told rising failed =
        let them = subst (Numbered (IsToldBy by_whom history) 0) all.are told in
        let next_told : AreNext (IsToldBy by_whom history) all.sync' all.optimizer' behind =
        subst (AreNext (IsToldBy by_whom history) all.sync' all.optimizer') (sym now_behind) (last_two (IsToldBy by_whom history) all.sync' all.optimizer' 0 all.first' them) in
        ⊎_elim
        (λ workers. ⊎_elim
        (λ synced. counted_at behind all.sync all.sync' history fresh.0 next_told.0 rising (all.syncs.works.faults.rose synced))
        (λ optimized. counted_at (suc behind) all.optimizer all.optimizer' history fresh.1 next_told.1 rising (all.optimizes.works.faults.rose optimized))
        (failed_in all.synced all.optimized workers))
        (λ lines_met. sessions.counted history (front_of (IsToldBy by_whom history) 0 all.first' (all.sync' ∷ all.optimizer' ∷ []) them) rising lines_met)
        (failed_in (worse all.synced all.optimized) (met_by done.works.items) failed)

    -- the engine that went under the turn, and came back; and the last rounds over it
    pub is_served : (engine closed : Engine D E rows index) (served : Served D E rows index) (last : Health) → first_of turn ≡ engine → length seats ≡ seats_of turn
        → IsToldOf turn done.seats.items closed → served.works ≡ done.works → EndsAlone closed served.engine last → served.met ≡ worse done.met last
        → AreServed lines engine works served
    is_served engine closed served last first count told same ends met =
        subst (λ (e : Engine D E rows index). AreServed lines e works served) first record {
          history = told.history;
          closed = closed;
          stands = told.stands;
          held = told.held;
          settings = told.settings;
          limits = told.limits;
          none_fell = told.none_fell;
          calls = calls;
          sessions = subst (λ (w : List Work). AreSessions lines (engine_settings (first_of turn)) works w sessions.calls)
              (sym (ap (λ (v : Vec Work Global). v.items) same)) sessions.sessions;
          told = λ running holds. record {
            each = each_step running holds told.history told.told;
            no_others = subst (λ (n : ℕ). NoneFrom by_whom n told.history) (sym (as_many_calls ∙ count)) told.no_others;
          };
          synced = all.synced;
          optimized = all.optimized;
          last = last;
          syncs = is_worker SyncRound all.sync all.sync' all.synced all.syncs;
          optimizes = is_worker OptimizeRound all.optimizer all.optimizer' all.optimized all.optimizes;
          ends = ends;
          counted = λ failed.
              subst (λ (n : ℕ). Rose known n) (sym told.faults)
              (met_counted told.history told.told told.rising
              (subst (λ (w : List Work). worse (worse all.synced all.optimized) (met_by w) ≡ Failed) (ap (λ (v : Vec Work Global). v.items) same) failed));
          met_is = met ∙ ap (λ (h : Health). worse h last) all.met_is;
        }

-- ---- what the last rounds leave

module _ {D E : Type 0} {rows : Ghosts D} {index : Ghosts E} where
  pub held_behind : (calls : List Call) (first now : Direct D E rows index) (running : Running) → Holds running first.engine → AreMade direct_sight calls first now
      → Holds (after_all running calls) now.engine
  held_behind calls first now running holds made =
      traced_stands direct_sight running calls first now holds (made_traced direct_sight calls running first now holds made)

  pub all_held : (lines : List Line) (first : Engine D E rows index) (works : List Work) (served : Served D E rows index) (are : AreServed lines first works served)
      → (running : Running) → Holds running first → Holds (behind_last (grown running are.history) are.ends) served.engine
  all_held lines first works served are running holds =
      let ends = are.ends in
      held_behind ends.optimizes.calls (alone ends.middle) (alone served.engine) (after_all (grown running are.history) ends.syncs.calls)
      (held_behind ends.syncs.calls (alone are.closed) (alone ends.middle) (grown running are.history) (are.stands running holds) ends.syncs.made)
      ends.optimizes.made
