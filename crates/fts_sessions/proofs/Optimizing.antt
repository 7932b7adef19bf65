-- The steps of an OPTIMIZE, one behind another.
use Rattle.std.proofs.Common.{◌≡◌, ℕ, ◌+◌, ◌<◌, ◌≤◌, List, [], ◌∷◌, ◌++◌, length, refl, ap, sym, ◌∙◌, arith}
use Rattle.std.proofs.lemmas.Bool.{false≢true}
use Rattle.std.proofs.lemmas.Bool.Decides.{nat_tests}
use Rattle.std.proofs.lemmas.List.{length-append}
use Rattle.std.proofs.lemmas.List.Elements.{filter-append}
use Rattle.std.specs.Prelude.{Bool, true, false, ◌&&◌, nat_lt, if◌then◌else◌, filter}
use Rattle.fts_types.specs.declared.settings.Settings.{Settings}
use Rattle.fts_schema.specs.declared.reply.Reply.{Reply}
use Rattle.fts_schema.specs.declared.reply.Reply.TheVariants.{Optimized, NothingToOptimize, DiskFault}
use Rattle.fts_steps.specs.Step.{to_optimize, Answer, passed, Sight, Steps}
use Rattle.fts_steps.specs.Answers.{error_answer_of}
use Rattle.fts_steps.specs.declared.optimize.OptimizeStep.{OptimizeStep}
use Rattle.fts_steps.specs.declared.optimize.OptimizeStep.TheVariants as did
use Rattle.fts_steps.specs.declared.index_error.IndexError.{IndexError}
use Rattle.fts_steps.specs.declared.index_error.IndexError.TheVariants as error
use Rattle.fts_sessions.specs.Request.{optimizes}
use Rattle.fts_sessions.specs.Transaction.{Transaction}
use Rattle.fts_sessions.specs.Conversation.{asks, ends, begins, next, optimize_next, optimized, leaves_open, is_word, words_in, reply_to}
use Rattle.fts_sessions.specs.Execute.{GoesOn}
use Rattle.fts_sessions.proofs.Going.{ends_here, behind_step, last_step, last_behind}

-- ---- the answers so far

-- behind one more answer it decides with the counts
pub next_behind : (settings : Settings) (transaction : Transaction) (table : List ℕ) (answers : List Answer) (answer : Answer)
    → next settings transaction (optimizes table) (answers ++ answer ∷ []) ≡ optimize_next settings.optimize_words (length answers + 1) (words_in (answers ++ answer ∷ [])) answer
next_behind settings transaction table [] answer = refl
next_behind settings transaction table (first ∷ answers) answer =
    ap (optimize_next settings.optimize_words (length (first ∷ (answers ++ answer ∷ []))) (words_in (first ∷ (answers ++ answer ∷ [])))) (last_behind first answers answer)
    ∙ ap (λ (n : ℕ). optimize_next settings.optimize_words n (words_in (first ∷ (answers ++ answer ∷ []))) answer)
    (let all = length-append answers (answer ∷ []) in omega (arith, all))

-- its words are counted one after another
pub words_more : (answers : List Answer) (answer : Answer) → words_in (answers ++ answer ∷ []) ≡ words_in answers + words_in (answer ∷ [])
words_more answers answer = ap length (filter-append is_word answers (answer ∷ [])) ∙ length-append (filter is_word answers) (filter is_word (answer ∷ []))

pub one_word : (step : OptimizeStep) → words_in (passed step ∷ []) ≤ 1
one_word did.Began = omega arith
one_word did.Word = omega arith
one_word did.Finished = omega arith
one_word did.Nothing = omega arith

-- a refusal ends it
pub refusal_ends : (why : IndexError) (most count words : ℕ) → optimize_next most count words (error_answer_of why) ≡ ends (reply_to (error_answer_of why))
refusal_ends error.NoMemory most count words = refl
refusal_ends (error.LogFull end_) most count words = refl
refusal_ends (error.DiskFault faults) most count words = refl
refusal_ends (error.Stopped faults) most count words = refl

-- an end behind a step that leaves a pass open tells so
told_open : (count words : ℕ) (step : OptimizeStep) → leaves_open step ≡ true → optimized count words step ≡ Optimized words false
told_open count words did.Began is = refl
told_open count words did.Word is = refl
told_open count words did.Finished is = absurd (false≢true is)
told_open count words did.Nothing is = absurd (false≢true is)

-- which is no fault
told_calm : (count words : ℕ) (step : OptimizeStep) → optimized count words step ≡ DiskFault → ⊥
told_calm count words did.Began is = cc
told_calm count words did.Word is = cc
told_calm count words did.Finished is = cc
told_calm count words did.Nothing is = last_calm (nat_lt 1 count) is
  where
    last_calm : (later : Bool) → (if later then Optimized words true else NothingToOptimize) ≡ DiskFault → ⊥
    last_calm true is = cc
    last_calm false is = cc

opens : (step : OptimizeStep) (few : Bool) → (leaves_open step && few) ≡ true → leaves_open step ≡ true
opens did.Began few is = refl
opens did.Word few is = refl
opens did.Finished few is = absurd (false≢true is)
opens did.Nothing few is = absurd (false≢true is)

below : (a b : ℕ) → a < b → nat_lt a b ≡ true
below a b less = grind (arith, nat_tests)

not_below : (a b : ℕ) → b ≤ a → nat_lt a b ≡ false
not_below a b more = grind (arith, nat_tests)

-- ---- the loop over the steps

module _ {S : Type 0} (sight : Sight S) (settings : Settings) (transaction : Transaction) (table : List ℕ) (most : ℕ) (is_most : settings.optimize_words ≡ most) (old : S) where
  -- so far no step was the last: so many were made, so many of them words, and whatever is still done is done behind them
  pub record IsWithin (count words : ℕ) (now : S) : Type 0 where
    pub answers : List Answer
    pub counted : length answers ≡ count
    pub worked : words_in answers ≡ words
    pub few : words ≤ count
    pub is_next : next settings transaction (optimizes table) answers ≡ (if nat_lt count (most + 2) then asks to_optimize else ends (Optimized words false))
    pub leads : (reply : Reply) (new : S) → GoesOn sight settings transaction (optimizes table) answers now reply new → GoesOn sight settings transaction (optimizes table) [] old reply new

  pub begun : begins settings transaction (optimizes table) ≡ asks to_optimize → IsWithin 0 0 old
  begun is = record {
    answers = [];
    counted = refl;
    worked = refl;
    few = omega arith;
    is_next = is ∙ ap (λ (b : Bool). if b then asks to_optimize else ends (Optimized 0 false)) (sym (below 0 (most + 2) (omega arith)));
    leads = λ reply new went. went;
  }

  module _ (count words : ℕ) (now : S) (within : IsWithin count words now) where
    asked : count < most + 2 → next settings transaction (optimizes table) within.answers ≡ asks to_optimize
    asked less = within.is_next ∙ ap (λ (b : Bool). if b then asks to_optimize else ends (Optimized words false)) (below count (most + 2) less)

    -- what comes behind one step more
    decided : (step : OptimizeStep) (more : ℕ) → more ≡ words_in (passed step ∷ [])
        → next settings transaction (optimizes table) (within.answers ++ passed step ∷ []) ≡ optimize_next most (count + 1) (words + more) (passed step)
    decided step more are =
        next_behind settings transaction table within.answers (passed step)
        ∙ ap (λ (n : ℕ). optimize_next n (length within.answers + 1) (words_in (within.answers ++ passed step ∷ [])) (passed step)) is_most
        ∙ ap (λ (n : ℕ). optimize_next most (n + 1) (words_in (within.answers ++ passed step ∷ [])) (passed step)) within.counted
        ∙ ap (λ (n : ℕ). optimize_next most (count + 1) n (passed step))
        (let all = words_more within.answers (passed step) in let worked = within.worked in omega (arith, all, worked, are))

    module _ (step : OptimizeStep) (more : ℕ) (are : more ≡ words_in (passed step ∷ [])) (less : count < most + 2) (here : S) (made : Steps sight to_optimize (passed step) now here) where
      -- it goes on
      pub one_more : (leaves_open step && nat_lt (words + more) most) ≡ true → IsWithin (count + 1) (words + more) here
      one_more goes = record {
        answers = within.answers ++ passed step ∷ [];
        counted = let all = length-append within.answers (passed step ∷ []) in let counted = within.counted in omega (arith, all, counted);
        worked = let all = words_more within.answers (passed step) in let worked = within.worked in omega (arith, all, worked, are);
        few = let few = within.few in let one = one_word step in omega (arith, few, one, are);
        is_next = decided step more are
            ∙ ap (λ (b : Bool). if b && nat_lt (count + 1) (most + 2) then asks to_optimize else ends (optimized (count + 1) (words + more) step)) goes
            ∙ ap (λ (told : Reply). if nat_lt (count + 1) (most + 2) then asks to_optimize else ends told) (told_open (count + 1) (words + more) step (opens step _ goes));
        leads = λ reply new went. within.leads reply new
            (behind_step sight settings transaction (optimizes table) within.answers to_optimize now here (passed step) made (asked less) reply new went refl);
      }

      -- or this was the last step
      pub the_last : (leaves_open step && nat_lt (words + more) most) ≡ false → GoesOn sight settings transaction (optimizes table) [] old (optimized (count + 1) (words + more) step) here
      the_last stops = within.leads (optimized (count + 1) (words + more) step) here
          (behind_step sight settings transaction (optimizes table) within.answers to_optimize now here (passed step) made (asked less) (optimized (count + 1) (words + more) step) here
          (ends_here sight settings transaction (optimizes table) (within.answers ++ passed step ∷ []) here (optimized (count + 1) (words + more) step)
          (decided step more are
          ∙ ap (λ (b : Bool). if b && nat_lt (count + 1) (most + 2) then asks to_optimize else ends (optimized (count + 1) (words + more) step)) stops)
          (told_calm (count + 1) (words + more) step)) refl)

    -- a step is refused
    pub refuses : (why : IndexError) (reply : Reply) (here : S) → count < most + 2 → Steps sight to_optimize (error_answer_of why) now here → reply_to (error_answer_of why) ≡ reply
        → GoesOn sight settings transaction (optimizes table) [] old reply here
    refuses why reply here less made told = within.leads reply here
        (last_step sight settings transaction (optimizes table) within.answers to_optimize now here (error_answer_of why) made (asked less) reply told
        (next_behind settings transaction table within.answers (error_answer_of why) ∙ refusal_ends why _ _ _))

    -- all steps were made that may be
    pub ran_out : most + 2 ≤ count → GoesOn sight settings transaction (optimizes table) [] old (Optimized words false) now
    ran_out more = within.leads (Optimized words false) now
        (ends_here sight settings transaction (optimizes table) within.answers now (Optimized words false)
        (within.is_next ∙ ap (λ (b : Bool). if b then asks to_optimize else ends (Optimized words false)) (not_below count (most + 2) more)) (λ is. cc))
