-- Steps that are made one after another.
use Rattle.std.proofs.Common.{List, [], ◌∷◌, ◌++◌, refl, inl}
use Rattle.fts_steps.specs.Running.{Running}
use Rattle.fts_steps.specs.Step.{Ask, Answer, Call, Sight, Steps, AreMade, Runs, after_all}
use Rattle.fts_steps.proofs.Making.{made_traced, traced_append, traced_stands}

module _ {S : Type 0} (sight : Sight S) where
  -- the call that a step is
  abbrev pub call_of : (ask : Ask) (answer : Answer) (old new : S) → Steps sight ask answer old new → Call
  call_of ask answer old new made = record { more = made.more; ask = ask; answer = answer }

  pub one_step : (ask : Ask) (answer : Answer) (old new : S) (made : Steps sight ask answer old new) → AreMade sight (call_of ask answer old new made ∷ []) old new
  one_step ask answer old new made = (new, (made, refl), refl)

  -- a run of no steps
  pub no_run : (start : Running) (here : S) → sight.stands start here → Runs sight start [] here here
  no_run start here stands = record {
    began = here;
    looked = record { settings = refl; limits = refl; faults = refl; rows = λ told. inl refl; index = λ told. inl refl };
    stood = stands;
    steps = refl;
  }

  -- steps behind a run
  pub run_more : (start : Running) (calls more : List Call) (before mid after : S) → Runs sight start calls before mid → AreMade sight more mid after → Runs sight start (calls ++ more) before after
  run_more start calls more before mid after run made = record {
    began = run.began;
    looked = run.looked;
    stood = run.stood;
    steps = traced_append sight start calls more run.began mid after run.steps
        (made_traced sight more (after_all start calls) mid after (traced_stands sight start calls run.began mid run.stood run.steps) made);
  }

  -- what stands at its end
  pub run_stands : (start : Running) (calls : List Call) (before after : S) → Runs sight start calls before after → sight.stands (after_all start calls) after
  run_stands start calls before after run = traced_stands sight start calls run.began after run.stood run.steps
