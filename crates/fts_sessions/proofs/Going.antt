-- The steps of a request, one behind another.
use Rattle.std.proofs.Common.{◌≡◌, List, [], ◌∷◌, ◌++◌, refl, ap, ◌∙◌, sym}
use Rattle.std.proofs.lemmas.Bool.{false≢true}
use Rattle.std.specs.Prelude.{false}
use Rattle.fts_steps.specs.FaultCounts.{CountsFaultOf}
use Rattle.fts_steps.proofs.FaultCounts.{counts_behind, counts_calm}
use Rattle.fts_types.specs.declared.settings.Settings.{Settings}
use Rattle.fts_schema.specs.declared.reply.Reply.{Reply}
use Rattle.fts_schema.specs.declared.reply.Reply.TheVariants.{DiskFault}
use Rattle.fts_steps.specs.Step.{Ask, Answer, is_disk_fault, Sight, Steps, Call}
use Rattle.fts_sessions.specs.Request.{Request}
use Rattle.fts_sessions.specs.Transaction.{Transaction}
use Rattle.fts_sessions.specs.Conversation.{asks, ends, next, last_answer, reply_to}
use Rattle.fts_sessions.specs.Execute.{GoesOn}
use Rattle.fts_sessions.proofs.Executing.{told_fault}

module _ {S : Type 0} (sight : Sight S) (settings : Settings) (transaction : Transaction) (request : Request) (answers : List Answer) where
  -- it ends without one more
  pub ends_here : (here : S) (reply : Reply) → next settings transaction request answers ≡ ends reply → (reply ≡ DiskFault → ⊥) → GoesOn sight settings transaction request answers here reply here
  ends_here here reply is calm = record {
    calls = [];
    says = is;
    made = refl;
    faults = counts_calm _ _ _ calm refl;
  }

  module _ (ask : Ask) (old mid : S) (answer : Answer) (step : Steps sight ask answer old mid) (asked : next settings transaction request answers ≡ asks ask) where
    abbrev call : Call
    call = record { more = step.more; ask = ask; answer = answer }

    -- one step more, and what is behind it
    module _ (reply : Reply) (new : S) (rest : GoesOn sight settings transaction request (answers ++ answer ∷ []) mid reply new) where
      pub behind_step : is_disk_fault answer ≡ false → GoesOn sight settings transaction request answers old reply new
      behind_step calm = record {
        calls = call ∷ rest.calls;
        says = (asked, rest.says);
        made = (mid, (step, refl), rest.made);
        faults = counts_behind _ _ _ _ _ (λ fault. false≢true (sym calm ∙ fault)) step.keeps.faults rest.faults;
      }

    -- the last step, and what it tells
    pub one_last : (reply : Reply) → next settings transaction request (answers ++ answer ∷ []) ≡ ends reply → CountsFaultOf (reply ≡ DiskFault) (sight.faults old) (sight.faults mid)
        → GoesOn sight settings transaction request answers old reply mid
    one_last reply is counts = record {
      calls = call ∷ [];
      says = (asked, is);
      made = (mid, (step, refl), refl);
      faults = counts;
    }

    pub last_step : (reply : Reply) → reply_to answer ≡ reply → next settings transaction request (answers ++ answer ∷ []) ≡ ends (reply_to answer)
        → GoesOn sight settings transaction request answers old reply mid
    last_step reply told is = one_last reply (is ∙ ap ends told) (told_fault answer reply (sight.faults old) (sight.faults mid) told step.keeps.faults)

-- the last of some answers, where one more is given
pub last_behind : (answer : Answer) (answers : List Answer) (last : Answer) → last_answer answer (answers ++ last ∷ []) ≡ last
last_behind answer [] last = refl
last_behind answer (later ∷ answers) last = last_behind later answers last
