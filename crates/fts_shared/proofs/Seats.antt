-- What a seat's steps say of its seat.
use Rattle.std.proofs.Common.{◌≡◌, ℕ, List, [], ◌∷◌, ◌++◌, ap, ◌∙◌, subst, sym, refl}
use Rattle.fts_io.specs.Text.{Line}
use Rattle.fts_disk.specs.declared.disk.Disk.{Ghosts}
use Rattle.fts_schema.specs.declared.reply.Reply.{Reply}
use Rattle.fts_types.specs.declared.settings.Settings.{Settings}
use Rattle.fts_workers.specs.declared.health.Health.{Health}
use Rattle.fts_workers.specs.Workers.{Works, all_steps}
use Rattle.fts_steps.specs.Running.{Entry}
use Rattle.fts_steps.specs.Step.{Ask, Answer, Call, Keeps, Steps, AreMade}
use Rattle.fts_sessions.specs.Transaction.{Transaction}
use Rattle.fts_turn.specs.declared.turn.Turns.{Turns}
use Rattle.fts_turn.specs.declared.seat.Seat.{Seat}
use Rattle.fts_turn.specs.Promises.{IsAtRest, IsSameSeat}
use Rattle.fts_shared.specs.declared.at_turn.AtTurn.{AtTurn}
use Rattle.fts_shared.specs.Shared.{Seated, sight_at, seat_sight}
use Rattle.fts_shared.specs.Talk.{TalksOn}
use Rattle.fts_shared.proofs.Accounts.{made_tells}

module _ {S D E : Type 0} {rows : Ghosts D} {index : Ghosts E} (at : S → Seated rows index) where
  seat_keeps : (answer : Answer) (old new : S) → Keeps (sight_at at) answer old new → Keeps (seat_sight {rows = rows} {index = index}) answer (at old) (at new)
  seat_keeps answer old new it = record { settings = it.settings; limits = it.limits; faults = it.faults; sum = it.sum }

  -- a step of who has a seat is one of the seat
  seat_steps : (ask : Ask) (answer : Answer) (old new : S) → (it : Steps (sight_at at) ask answer old new)
      → (step : Steps (seat_sight {rows = rows} {index = index}) ask answer (at old) (at new)) × (step.more ≡ it.more)
  seat_steps ask answer old new it = (
    record {
      more = it.more;
      each = λ running stands.
          let step = it.each running stands in
          record { alone = step.alone; may = step.may; stands = step.stands; rows = step.rows; index = step.index; keeps = seat_keeps answer old new step.keeps };
      tells = λ shared.
          let tells = it.tells shared in
          record { number = tells.number; seen = tells.seen; gave = tells.gave; turns_are = tells.turns_are; place = tells.place };
      keeps = seat_keeps answer old new it.keeps;
    },
    refl,
  )

  -- and so is one of the seat one of who has it
  pub from_seat : (ask : Ask) (answer : Answer) (old new : S) → Steps (seat_sight {rows = rows} {index = index}) ask answer (at old) (at new) → Steps (sight_at at) ask answer old new
  from_seat ask answer old new it = record {
    more = it.more;
    each = λ running stands.
        let step = it.each running stands in
        record { alone = step.alone; may = step.may; stands = step.stands; rows = step.rows; index = step.index; keeps = keeps_of step.keeps };
    tells = λ shared.
        let tells = it.tells shared in
        record { number = tells.number; seen = tells.seen; gave = tells.gave; turns_are = tells.turns_are; place = tells.place };
    keeps = keeps_of it.keeps;
  }
    where
      keeps_of : Keeps (seat_sight {rows = rows} {index = index}) answer (at old) (at new) → Keeps (sight_at at) answer old new
      keeps_of keeps = record { settings = keeps.settings; limits = keeps.limits; faults = keeps.faults; sum = keeps.sum }

  seat_made : (calls : List Call) (old new : S) → AreMade (sight_at at) calls old new → AreMade (seat_sight {rows = rows} {index = index}) calls (at old) (at new)
  seat_made [] old new is = ap at is
  seat_made (call ∷ calls) old new (mid, (step, same), made) =
      let here = seat_steps call.ask call.answer old mid step in
      (at mid, (here.0, here.1 ∙ same), seat_made calls mid new made)

  pub seat_talks : (old new : S) (transaction left : Transaction) (lines : List Line) (replies : List Reply) → TalksOn (sight_at at) transaction lines replies left old new
      → TalksOn (seat_sight {rows = rows} {index = index}) transaction lines replies left (at old) (at new)
  seat_talks old new transaction left lines replies talks = record { calls = talks.calls; talks = talks.talks; made = seat_made talks.calls old new talks.made; faults = talks.faults }

  pub seat_works : (Round : Settings → List Call → Type 0) (met : Health) (old new : S) → Works (sight_at at) Round met old new
      → Works (seat_sight {rows = rows} {index = index}) Round met (at old) (at new)
  seat_works Round met old new works = record {
    rounds = works.rounds;
    last = works.last;
    are = works.are;
    last_is = works.last_is;
    made = seat_made (all_steps works.rounds ++ works.last) old new works.made;
    met_is = works.met_is;
    faults = works.faults;
  }

  module _ (calls : List Call) (old new : S) (made : AreMade (sight_at at) calls old new) where
    pub same_turn : (at new).0 ≡ (at old).0
    same_turn = ap (λ (p : Turns (AtTurn D E rows index) Entry × ℕ). p.0) (made_tells (sight_at at) refl calls old new made).place

    pub same_seat : IsSameSeat (at old).1 (at new).1
    same_seat = record {
      number = (made_tells (sight_at at) refl calls old new made).number;
      makes = ap (λ (p : Turns (AtTurn D E rows index) Entry × ℕ). p.1) (made_tells (sight_at at) refl calls old new made).place;
    }

module _ {D E : Type 0} {rows : Ghosts D} {index : Ghosts E} (turn : Turns (AtTurn D E rows index) Entry) (seat result : Seat (AtTurn D E rows index) Entry) (old new : Seated rows index)
    (begun : old ≡ (turn, seat)) (stays : new.0 ≡ old.0) (is : result ≡ new.1) where
  pub rests_there : IsAtRest new.0 result → IsAtRest turn result
  rests_there rest = subst (λ (t : Turns (AtTurn D E rows index) Entry). IsAtRest t result) (stays ∙ ap (λ (p : Seated rows index). p.0) begun) rest

  pub same_there : IsSameSeat old.1 new.1 → IsSameSeat seat result
  same_there same =
      subst (λ (r : Seat (AtTurn D E rows index) Entry). IsSameSeat seat r) (sym is)
      (subst (λ (o : Seated rows index). IsSameSeat o.1 new.1) begun same)

  pub settled : (P : Seated rows index → Seated rows index → Type 0) → P old new → P (turn, seat) (turn, result)
  settled P is_so =
      subst (λ (r : Seat (AtTurn D E rows index) Entry). P (turn, seat) (turn, r)) (sym is)
      (subst (λ (t : Turns (AtTurn D E rows index) Entry). P (turn, seat) (t, new.1)) (stays ∙ ap (λ (p : Seated rows index). p.0) begun)
      (subst (λ (o : Seated rows index). P o new) begun is_so))
