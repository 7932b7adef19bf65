-- Lines of a session, one behind another.
use Rattle.std.proofs.Math.Seq.{drop-cons}
use Rattle.std.proofs.Common.{◌≡◌, ◌<◌, ◌≤◌, ℕ, zero, suc, List, [], ◌∷◌, ◌++◌, length, drop, slice_index_or, refl, ap, ◌∙◌, sym, subst, inl, map, slice_get, arith, Some}
use Rattle.std.proofs.lemmas.List.{drop_all, get_or_default}
use Rattle.std.proofs.lemmas.Option.{slice_get-map, slice_get_past}
use Rattle.std.specs.Option.{option_map}
use Rattle.fts_io.specs.Text.{Line, too_long}
use Rattle.fts_types.specs.declared.settings.Settings.{Settings}
use Rattle.fts_schema.specs.declared.reply.Reply.{Reply}
use Rattle.fts_schema.specs.declared.reply.Reply.TheVariants.{LineTooLong}
use Rattle.fts_steps.specs.Step.{Sight}
use Rattle.fts_steps.proofs.FaultCounts.{counts_calm}
use Rattle.fts_steps.proofs.Making.{made_keeps, made_append}
use Rattle.fts_sessions.specs.Execute.{Executes}
use Rattle.fts_sessions.specs.Request.{unread}
use Rattle.fts_sessions.specs.Transaction.{Transaction}
use Rattle.fts_script.specs.Script.{line_of}
use Rattle.fts_script.specs.declared.lines.ScriptLine.{ScriptLine}
use Rattle.fts_workers.specs.Health.{health_of, health_of_all}
use Rattle.fts_workers.proofs.Worse.{counted_more, counted_reply}
use Rattle.fts_shared.specs.Talk.{Talks, TalksOn}
use Rattle.fts_shared.specs.Work.{or_none, lines_at}

-- an element, and what is behind it
pub drop_here : {A : Type 0} (xs : List A) (i : ℕ) (x : A) → i < length xs → x ≡ slice_index_or xs i x → drop i xs ≡ x ∷ drop (suc i) xs
drop_here {A = A} xs i x less is = drop-cons xs i x less ∙ ap (λ (y : A). y ∷ drop (suc i) xs) (sym is)

-- the line that is kept at a place
there : {A : Type 0} (xs : List A) (i : ℕ) (d : A) → i < length xs → slice_get xs i ≡ Some (slice_index_or xs i d)
there [] i d less = absurd (omega (arith, less))
there (x ∷ xs) zero d less = refl
there (x ∷ xs) (suc i) d less = there xs i d (omega (arith, less))

pub line_at : (lines : List ScriptLine) (all : List Line) (place : ℕ) (line : ScriptLine) → map line_of lines ≡ all → place < length lines → line ≡ slice_index_or lines place line
    → or_none (slice_get all place) ≡ line_of line
line_at lines all place line are less is =
    ap or_none (ap (λ (xs : List Line). slice_get xs place) (sym are) ∙ slice_get-map line_of lines place ∙ ap (option_map line_of) (there lines place line less))
    ∙ ap line_of (sym is)

pub no_line_at : (lines : List ScriptLine) (all : List Line) (place : ℕ) → map line_of lines ≡ all → length lines ≤ place → or_none (slice_get all place) ≡ too_long
no_line_at lines all place are more =
    ap or_none (ap (λ (xs : List Line). slice_get xs place) (sym are) ∙ slice_get-map line_of lines place ∙ ap (option_map line_of) (slice_get_past lines place more))

module _ {S : Type 0} (sight : Sight S) where
  pub talks_none : (transaction : Transaction) (here : S) → TalksOn sight transaction [] [] transaction here here
  talks_none transaction here = record { calls = []; talks = (refl, refl, refl); made = refl; faults = counts_calm _ _ _ (λ is. cc) refl }

  -- a line that was too long makes no step
  pub skips : (transaction : Transaction) (here : S) → Executes sight too_long transaction here LineTooLong transaction here
  skips transaction here = record {
    calls = [];
    says = inl (unread, tt, refl, refl);
    made = refl;
    faults = counts_calm _ _ _ (λ is. cc) refl;
  }

  -- a line before others
  pub talks_first : (line : Line) (lines : List Line) (transaction middle left : Transaction) (reply : Reply) (replies : List Reply) (old mid new : S)
      → Executes sight line transaction old reply middle mid → TalksOn sight middle lines replies left mid new
      → TalksOn sight transaction (line ∷ lines) (reply ∷ replies) left old new
  talks_first line lines transaction middle left reply replies old mid new first rest = record {
    calls = first.calls ++ rest.calls;
    talks = (
      first.calls,
      rest.calls,
      reply,
      replies,
      middle,
      first.says,
      refl,
      refl,
      subst (λ (settings : Settings). Talks settings middle lines rest.calls replies left) (made_keeps sight first.calls old mid first.made).settings rest.talks,
    );
    made = made_append sight first.calls rest.calls old mid new first.made rest.made;
    faults = counted_more (health_of reply) (health_of_all replies) (sight.faults old) (sight.faults mid) (sight.faults new)
        (counted_reply reply (sight.faults old) (sight.faults mid) first.faults) rest.faults;
  }

  -- the line at a place before those at others
  pub talks_at : (lines : List Line) (places : List ℕ) (i : ℕ) → i < length places → (transaction middle left : Transaction) (reply : Reply) (replies : List Reply) (old mid new : S)
      → Executes sight (or_none (slice_get lines (slice_index_or places i 0))) transaction old reply middle mid → TalksOn sight middle (lines_at lines (drop (suc i) places)) replies left mid new
      → TalksOn sight transaction (lines_at lines (drop i places)) (reply ∷ replies) left old new
  talks_at lines places i less transaction middle left reply replies old mid new first rest =
      subst (λ (ps : List ℕ). TalksOn sight transaction (lines_at lines ps) (reply ∷ replies) left old new)
      (sym (drop_here places i (slice_index_or places i 0) less (get_or_default places i 0 (slice_index_or places i 0) less)))
      (talks_first (or_none (slice_get lines (slice_index_or places i 0))) (lines_at lines (drop (suc i) places)) transaction middle left reply replies old mid new first rest)

pub none_behind : {A : Type 0} (xs : List A) (i : ℕ) → length xs ≤ i → drop i xs ≡ []
none_behind xs i more = drop_all i xs more
