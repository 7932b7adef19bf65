-- Talks, one line after another.
use Rattle.std.proofs.Common.{◌≡◌, ℕ, Bool, true, List, [], ◌∷◌, ◌++◌, refl, ap, subst, sym, ◌∙◌, append_assoc}
use Rattle.std.proofs.lemmas.List.{append-nil}
use Rattle.fts_types.specs.declared.settings.Settings.{Settings}
use Rattle.fts_io.specs.Text.{Line}
use Rattle.fts_schema.specs.declared.reply.Reply.{Reply}
use Rattle.fts_schema.specs.Reply.{text_of}
use Rattle.fts_steps.specs.Step.{Call}
use Rattle.fts_workers.specs.declared.health.Health.{Health}
use Rattle.fts_workers.specs.declared.health.Health.TheVariants.{Sound}
use Rattle.fts_workers.specs.Health.{health_of, health_of_steps, worse}
use Rattle.fts_top.specs.Sessions.{Met, Speaks}
use Rattle.fts_workers.specs.Batches.{AreBatches, committed_by}
use Rattle.fts_top.specs.Talk.{Talks, most_behind, texts_of}
use Rattle.fts_workers.proofs.Worse.{worse_sound, worse_more}

pub texts_more : (replies : List Reply) (reply : Reply) → texts_of (replies ++ reply ∷ []) ≡ texts_of replies ++ text_of reply
texts_more [] reply = append-nil (text_of reply)
texts_more (first ∷ replies) reply = ap (λ (t : List ℕ). text_of first ++ t) (texts_more replies reply) ∙ sym (append_assoc (text_of first) (texts_of replies) (text_of reply))

most_same : (sent : Bool) (lines : List Line) (line : Line) (reply : Reply) → most_behind sent (lines ++ line ∷ []) reply ≡ committed_by reply
most_same sent [] line reply = refl
most_same sent (first ∷ lines) line reply = refl

most_sent : (lines : List Line) (reply : Reply) → most_behind true lines reply ≡ committed_by reply
most_sent [] reply = refl
most_sent (line ∷ lines) reply = refl

-- one line more at the end of a talk, with the batches behind it
pub talks_more : (settings : Settings) (sent : Bool) (sessions : List Met) (lines : List Line) (calls : List Call) (replies : List Reply) (met : Health) (last : List Met)
    (line : Line) (here batches : List Call) (reply : Reply) (left : List Met)
    → Talks settings true sessions lines calls replies met last → Speaks settings line last here reply left → AreBatches settings.cache_bytes (most_behind sent [] reply) batches
    → Talks settings sent sessions (lines ++ line ∷ []) (calls ++ (here ++ batches)) (replies ++ reply ∷ []) (worse met (worse (health_of reply) (health_of_steps batches))) left
talks_more settings sent sessions [] calls replies met last line here batches reply left talks says are = record {
  here = here;
  batches = batches;
  more = [];
  reply = reply;
  rest = [];
  later = Sound;
  behind = left;
  says = subst (λ (s : List Met). Speaks settings line s here reply left) talks.3 says;
  are = are;
  calls_are = ap (λ (c : List Call). c ++ (here ++ batches)) talks.0 ∙ ap (λ (c : List Call). here ++ c) (sym (append-nil batches));
  replies_are = ap (λ (r : List Reply). r ++ reply ∷ []) talks.1;
  met_is = ap (λ (h : Health). worse h (worse (health_of reply) (health_of_steps batches))) talks.2 ∙ sym (worse_sound (worse (health_of reply) (health_of_steps batches)));
  goes_on = (refl, refl, refl, refl);
}
talks_more settings sent sessions (first ∷ lines) calls replies met last line here batches reply left talks says are = record {
  here = talks.here;
  batches = talks.batches;
  more = talks.more ++ (here ++ batches);
  reply = talks.reply;
  rest = talks.rest ++ reply ∷ [];
  later = worse talks.later (worse (health_of reply) (health_of_steps batches));
  behind = talks.behind;
  says = talks.says;
  are = subst (λ (n : ℕ). AreBatches settings.cache_bytes n talks.batches) (most_sent lines talks.reply ∙ sym (most_same sent lines line talks.reply)) talks.are;
  calls_are = ap (λ (c : List Call). c ++ (here ++ batches)) talks.calls_are ∙ append_assoc talks.here (talks.batches ++ talks.more) (here ++ batches)
      ∙ ap (λ (c : List Call). talks.here ++ c) (append_assoc talks.batches talks.more (here ++ batches));
  replies_are = ap (λ (r : List Reply). r ++ reply ∷ []) talks.replies_are;
  met_is = ap (λ (h : Health). worse h (worse (health_of reply) (health_of_steps batches))) talks.met_is
      ∙ worse_more (worse (health_of talks.reply) (health_of_steps talks.batches)) talks.later (worse (health_of reply) (health_of_steps batches));
  goes_on = talks_more settings sent talks.behind lines talks.more talks.rest talks.later last line here batches reply left talks.goes_on says are;
}
