-- Replies that are written one after another, and what their lines met.
use Rattle.std.proofs.Common.{◌≡◌, ◌+◌, ℕ, false, List, [], ◌∷◌, ◌++◌, take, drop, refl, ap, sym, ◌∙◌, append_assoc, subst, Option, Some, None}
use Rattle.std.proofs.lemmas.List.{append-nil, take-append-drop}
use Rattle.std.specs.Prelude.{Result, Ok, Err}
use Rattle.fts_schema.specs.declared.reply.Reply.{Reply}
use Rattle.fts_schema.specs.Reply.{text_of, is_fixed}
use Rattle.fts_workers.specs.declared.health.Health.{Health}
use Rattle.fts_workers.specs.Health.{health_of, worse, health_of_all}
use Rattle.fts_workers.proofs.Worse.{worse_sound, worse_more}
use Rattle.fts_top.specs.declared.ends.Unsent.{Unsent}
use Rattle.fts_top.specs.declared.ends.Unsent.TheVariants as unsent
use Rattle.fts_top.specs.Answers.{told, IsCutAt, SendsAll, SendsOne}
use Rattle.fts_top.specs.Run.{Sends}
use Rattle.fts_top.specs.Talk.{texts_of}

-- ---- replies, and those behind them

told_more : (some more : List (Option Reply)) → told (some ++ more) ≡ told some ++ told more
told_more [] more = refl
told_more (None ∷ some) more = told_more some more
told_more (Some reply ∷ some) more = ap (λ (replies : List Reply). reply ∷ replies) (told_more some more)

texts_both : (some more : List Reply) → texts_of (some ++ more) ≡ texts_of some ++ texts_of more
texts_both [] more = refl
texts_both (reply ∷ some) more = ap (λ (t : List ℕ). text_of reply ++ t) (texts_both some more) ∙ sym (append_assoc (text_of reply) (texts_of some) (texts_of more))

-- one reply more was met
pub met_more : (some : List (Option Reply)) (one : Option Reply) → health_of_all (told (some ++ one ∷ [])) ≡ worse (health_of_all (told some)) (health_of_all (told (one ∷ [])))
met_more [] one = refl
met_more (None ∷ some) one = met_more some one
met_more (Some reply ∷ some) one =
    ap (λ (h : Health). worse (health_of reply) h) (met_more some one) ∙ sym (worse_more (health_of reply) (health_of_all (told some)) (health_of_all (told (one ∷ []))))

pub none_met : (met : Health) → worse met (health_of_all (told (None ∷ []))) ≡ met
none_met met = worse_sound met

pub one_met : (met : Health) (reply : Reply) → worse met (health_of_all (told (Some reply ∷ []))) ≡ worse met (health_of reply)
one_met met reply = ap (λ (h : Health). worse met h) (worse_sound (health_of reply))

-- ---- what was written

pub one_sent : (result : Result (Unit {0}) Unsent) (reply : Reply) (before now : List ℕ) → Sends result reply before now → (result ≡ Err unsent.NoMemory → is_fixed reply ≡ false)
    → SendsOne result (Some reply) before now
one_sent (Ok done) reply before now sends fixed = sends ∙ ap (λ (t : List ℕ). before ++ t) (sym (append-nil (text_of reply)))
one_sent (Err unsent.WriteFault) reply before now sends fixed = ([], reply, record { later = []; whole = refl }, sends.0, sends.1)
one_sent (Err unsent.NoMemory) reply before now sends fixed = ([], reply, record { later = []; whole = refl }, fixed refl, sends ∙ sym (append-nil before))

-- one reply more was written
pub sent_more : (some : List (Option Reply)) (one : Option Reply) (first before now : List ℕ) → before ≡ first ++ texts_of (told some) → SendsOne (Ok tt) one before now
    → now ≡ first ++ texts_of (told (some ++ one ∷ []))
sent_more some one first before now so_far sends =
    by_one one sends ∙ ap (λ (b : List ℕ). b ++ texts_of (told (one ∷ []))) so_far ∙ append_assoc first (texts_of (told some)) (texts_of (told (one ∷ [])))
    ∙ ap (λ (t : List ℕ). first ++ t) (sym (texts_both (told some) (told (one ∷ []))) ∙ ap texts_of (sym (told_more some (one ∷ []))))
  where
    by_one : (one : Option Reply) → SendsOne (Ok tt) one before now → now ≡ before ++ texts_of (told (one ∷ []))
    by_one None sends = sends
    by_one (Some reply) sends = sends

module _ (some here more : List Reply) (first before now : List ℕ) (so_far : before ≡ first ++ texts_of some) where
  cut_later : (earlier : List Reply) (next : Reply) → IsCutAt here earlier next → IsCutAt (some ++ (here ++ more)) (some ++ earlier) next
  cut_later earlier next cut = record {
    later = cut.later ++ more;
    whole = ap (λ (replies : List Reply). some ++ (replies ++ more)) cut.whole ∙ ap (λ (replies : List Reply). some ++ replies) (append_assoc earlier (next ∷ cut.later) more)
        ∙ sym (append_assoc some earlier (next ∷ (cut.later ++ more)));
  }

  text_later : (earlier : List Reply) → before ++ texts_of earlier ≡ first ++ texts_of (some ++ earlier)
  text_later earlier =
      ap (λ (b : List ℕ). b ++ texts_of earlier) so_far ∙ append_assoc first (texts_of some) (texts_of earlier)
      ∙ ap (λ (t : List ℕ). first ++ t) (sym (texts_both some earlier))

  part_later : (earlier : List Reply) (part : List ℕ) → before ++ (texts_of earlier ++ part) ≡ first ++ (texts_of (some ++ earlier) ++ part)
  part_later earlier part =
      sym (append_assoc before (texts_of earlier) part) ∙ ap (λ (t : List ℕ). t ++ part) (text_later earlier) ∙ append_assoc first (texts_of (some ++ earlier)) part

  -- one of those behind was not written whole
  pub cut_behind : (why : Unsent) → SendsAll (Err why) here before now → SendsAll (Err why) (some ++ (here ++ more)) first now
  cut_behind unsent.WriteFault sends = (
    some ++ sends.0,
    sends.1,
    cut_later sends.0 sends.1 sends.2,
    sends.3,
    sends.4 ∙ part_later sends.0 (take sends.3 (text_of sends.1)),
  )
  cut_behind unsent.NoMemory sends = (some ++ sends.0, sends.1, cut_later sends.0 sends.1 sends.2, sends.3, sends.4 ∙ text_later sends.0)

-- the reply at a place was not written whole, and those before it were
pub cut_at : (all : List (Option Reply)) (place : ℕ) (one : Option Reply) (first before now : List ℕ) (why : Unsent) → take (place + 1) all ≡ take place all ++ one ∷ []
    → before ≡ first ++ texts_of (told (take place all)) → SendsOne (Err why) one before now → SendsAll (Err why) (told all) first now
cut_at all place one first before now why more so_far sends =
    let whole : told all ≡ told (take place all) ++ (told (one ∷ []) ++ told (drop (place + 1) all)) =
    ap told (sym (take-append-drop (place + 1) all)) ∙ told_more (take (place + 1) all) (drop (place + 1) all)
    ∙ ap (λ (replies : List Reply). replies ++ told (drop (place + 1) all)) (ap told more ∙ told_more (take place all) (one ∷ []))
    ∙ append_assoc (told (take place all)) (told (one ∷ [])) (told (drop (place + 1) all)) in
    subst (λ (replies : List Reply). SendsAll (Err why) replies first now) (sym whole)
    (cut_behind (told (take place all)) (told (one ∷ [])) (told (drop (place + 1) all)) first before now so_far why (by_one one sends))
  where
    by_one : (one : Option Reply) → SendsOne (Err why) one before now → SendsAll (Err why) (told (one ∷ [])) before now
    by_one None sends = sends
    by_one (Some reply) sends = sends
