-- How many steps an OPTIMIZE makes, and how many words it is told.
use Rattle.std.proofs.Common.{◌≡◌, ◌⊎◌, inl, inr, ℕ, ◌+◌, ◌<◌, ◌≤◌, List, [], ◌∷◌, ◌++◌, append_assoc, length, Some, None, refl, ap, sym, subst, ◌∙◌, arith}
use Rattle.std.proofs.lemmas.Bool.Decides.{nat_tests}
use Rattle.std.proofs.lemmas.List.{append-nil, length-append}
use Rattle.std.specs.Prelude.{Bool, true, false, ◌&&◌, nat_lt, if◌then◌else◌}
use Rattle.std.specs.Str.{str_eq_ignore_ascii_case}
use Rattle.std.specs.Prelude.{codes}
use Rattle.fts_types.specs.declared.settings.Settings.{Settings}
use Rattle.fts_schema.specs.declared.reply.Reply.{Reply}
use Rattle.fts_schema.specs.declared.reply.Reply.TheVariants.{Optimized, NothingToOptimize, NoSuchTable}
use Rattle.fts_steps.specs.declared.optimize.OptimizeStep.{OptimizeStep}
use Rattle.fts_steps.specs.declared.optimize.OptimizeStep.TheVariants as did
use Rattle.fts_steps.specs.Step.{Ask, to_optimize, Call, Answer, committed, refused, full, flushed, all_flushed, passed, viewed, found, listed, measured, disk_fault, stopped, no_memory}
use Rattle.fts_sessions.specs.Request.{optimizes}
use Rattle.fts_sessions.specs.Transaction.{Transaction}
use Rattle.fts_sessions.specs.Conversation.{asks, ends, next, optimize_next, optimized, leaves_open, last_answer, words_in, unless_unknown, unknown_column, Converses}
use Rattle.fts_sessions.specs.Laws.{answers_of}
use Rattle.fts_sessions.proofs.Optimizing.{words_more, one_word}

above : (a b : ℕ) → nat_lt a b ≡ true → a < b
above a b less = grind (arith, nat_tests)

-- an answer is one word at most
one_of : (answer : Answer) → words_in (answer ∷ []) ≤ 1
one_of (passed step) = one_word step
one_of (committed number) = omega arith
one_of (refused why) = omega arith
one_of (full end_) = omega arith
one_of (flushed through commits) = omega arith
one_of (all_flushed commits) = omega arith
one_of (viewed view) = omega arith
one_of (found number docs) = omega arith
one_of (listed number listing) = omega arith
one_of (measured size) = omega arith
one_of (disk_fault faults) = omega arith
one_of (stopped faults) = omega arith
one_of no_memory = omega arith

-- one step more is asked for where fewer were made
few_by : (opened few short : Bool) (told : Reply) (ask : Ask) → (if (opened && few) && short then asks to_optimize else ends told) ≡ asks ask → (few ≡ true) × (short ≡ true)
few_by true true true told ask is = (refl, refl)
few_by true true false told ask is = absurd cc
few_by true false short told ask is = absurd cc
few_by false few short told ask is = absurd cc

few_next : (most count words : ℕ) (last : Answer) (ask : Ask) → optimize_next most count words last ≡ asks ask → (words < most) × (count < most + 2)
few_next most count words (passed step) ask is =
    let few = few_by (leaves_open step) (nat_lt words most) (nat_lt count (most + 2)) (optimized count words step) ask is in
    (above words most few.0, above count (most + 2) few.1)
few_next most count words (committed number) ask is = absurd cc
few_next most count words (refused why) ask is = absurd cc
few_next most count words (full end_) ask is = absurd cc
few_next most count words (flushed through commits) ask is = absurd cc
few_next most count words (all_flushed commits) ask is = absurd cc
few_next most count words (viewed view) ask is = absurd cc
few_next most count words (found number docs) ask is = absurd cc
few_next most count words (listed number listing) ask is = absurd cc
few_next most count words (measured size) ask is = absurd cc
few_next most count words (disk_fault faults) ask is = absurd cc
few_next most count words (stopped faults) ask is = absurd cc
few_next most count words no_memory ask is = absurd cc

asks_few : (settings : Settings) (transaction : Transaction) (table : List ℕ) (answers : List Answer) (ask : Ask) → next settings transaction (optimizes table) answers ≡ asks ask
    → (answers ≡ []) ⊎ ((words_in answers < settings.optimize_words) × (length answers < settings.optimize_words + 2))
asks_few settings transaction table [] ask is = inl refl
asks_few settings transaction table (first ∷ answers) ask is =
    inr (few_next settings.optimize_words (length (first ∷ answers)) (words_in (first ∷ answers)) (last_answer first answers) ask is)

-- so one more is within the bounds
within : (settings : Settings) (answers : List Answer) (answer : Answer) → 1 ≤ settings.optimize_words
    → (answers ≡ []) ⊎ ((words_in answers < settings.optimize_words) × (length answers < settings.optimize_words + 2))
    → (words_in (answers ++ answer ∷ []) ≤ settings.optimize_words) × (length (answers ++ answer ∷ []) ≤ settings.optimize_words + 2)
within settings answers answer some (inl none) =
    let one = one_of answer in
    subst (λ (before : List Answer). (words_in (before ++ answer ∷ []) ≤ settings.optimize_words) × (length (before ++ answer ∷ []) ≤ settings.optimize_words + 2)) (sym none)
    (omega (arith, some, one), omega (arith, some))
within settings answers answer some (inr few) =
    let one = one_of answer in
    let words = words_more answers answer in
    let steps = length-append answers (answer ∷ []) in
    let few_words = few.0 in
    let few_steps = few.1 in
    (omega (arith, one, words, few_words), omega (arith, steps, few_steps))

abbrev IsBounded : Settings → List Answer → Type 0
IsBounded settings answers = (words_in answers ≤ settings.optimize_words) × (length answers ≤ settings.optimize_words + 2)

bounded_from : (settings : Settings) (transaction : Transaction) (table : List ℕ) (answers : List Answer) (calls : List Call) (reply : Reply) → 1 ≤ settings.optimize_words → IsBounded settings answers
    → Converses settings transaction (optimizes table) answers calls reply → IsBounded settings (answers ++ answers_of calls)
bounded_from settings transaction table answers [] reply some bounded says = subst (IsBounded settings) (sym (append-nil answers)) bounded
bounded_from settings transaction table answers (call ∷ calls) reply some bounded says =
    subst (IsBounded settings) (append_assoc answers (call.answer ∷ []) (answers_of calls))
    (bounded_from settings transaction table (answers ++ call.answer ∷ []) calls reply some
    (within settings answers call.answer some (asks_few settings transaction table answers call.ask says.0)) says.1)

count_of : (calls : List Call) → length (answers_of calls) ≡ length calls
count_of [] = refl
count_of (call ∷ calls) = let more = count_of calls in omega (arith, more)

pub bounded : (settings : Settings) (transaction : Transaction) (table : List ℕ) (calls : List Call) (reply : Reply) → 1 ≤ settings.optimize_words
    → Converses settings transaction (optimizes table) [] calls reply
    → (words_in (answers_of calls) ≤ settings.optimize_words) × (length calls ≤ settings.optimize_words + 2)
bounded settings transaction table calls reply some says =
    let all = bounded_from settings transaction table [] calls reply some (omega arith, omega arith) says in
    let steps = all.1 in
    let count = count_of calls in
    (all.0, omega (arith, steps, count))

-- ---- what it is told

-- a reply that tells words counts those of the steps
told_step : (count words : ℕ) (step : OptimizeStep) (told : ℕ) (finished : Bool) → optimized count words step ≡ Optimized told finished → told ≡ words
told_step count words did.Began told finished is = sym cc
told_step count words did.Word told finished is = sym cc
told_step count words did.Finished told finished is = sym cc
told_step count words did.Nothing told finished is = told_last (nat_lt 1 count) is
  where
    told_last : (later : Bool) → (if later then Optimized words true else NothingToOptimize) ≡ Optimized told finished → told ≡ words
    told_last true is = sym cc
    told_last false is = absurd cc

told_by : (goes : Bool) (count words : ℕ) (step : OptimizeStep) (told : ℕ) (finished : Bool)
    → (if goes then asks to_optimize else ends (optimized count words step)) ≡ ends (Optimized told finished) → told ≡ words
told_by true count words step told finished is = absurd cc
told_by false count words step told finished is = told_step count words step told finished cc

told_next : (most count words : ℕ) (last : Answer) (told : ℕ) (finished : Bool) → optimize_next most count words last ≡ ends (Optimized told finished) → told ≡ words
told_next most count words (passed step) told finished is =
    told_by ((leaves_open step && nat_lt words most) && nat_lt count (most + 2)) count words step told finished is
told_next most count words (committed number) told finished is = absurd cc
told_next most count words (refused why) told finished is = absurd cc
told_next most count words (full end_) told finished is = absurd cc
told_next most count words (flushed through commits) told finished is = absurd cc
told_next most count words (all_flushed commits) told finished is = absurd cc
told_next most count words (viewed view) told finished is = absurd cc
told_next most count words (found number docs) told finished is = absurd cc
told_next most count words (listed number listing) told finished is = absurd cc
told_next most count words (measured size) told finished is = absurd cc
told_next most count words (disk_fault faults) told finished is = absurd cc
told_next most count words (stopped faults) told finished is = absurd cc
told_next most count words no_memory told finished is = absurd cc

-- without a step it tells no words
untold : (table : List ℕ) (columns : List (List ℕ)) (here : Bool) (told : ℕ) (finished : Bool)
    → unless_unknown (if here then unknown_column None else Some (NoSuchTable table)) (asks to_optimize) ≡ ends (Optimized told finished) → ⊥
untold table columns true told finished is = cc
untold table columns false told finished is = cc

told_at : (settings : Settings) (transaction : Transaction) (table : List ℕ) (answers : List Answer) (told : ℕ) (finished : Bool) → next settings transaction (optimizes table) answers ≡ ends (Optimized told finished)
    → told ≡ words_in answers
told_at settings transaction table [] told finished is = absurd (untold table settings.columns (str_eq_ignore_ascii_case table (codes "docs")) told finished is)
told_at settings transaction table (first ∷ answers) told finished is =
    told_next settings.optimize_words (length (first ∷ answers)) (words_in (first ∷ answers)) (last_answer first answers) told finished is

told_from : (settings : Settings) (transaction : Transaction) (table : List ℕ) (answers : List Answer) (calls : List Call) (told : ℕ) (finished : Bool)
    → Converses settings transaction (optimizes table) answers calls (Optimized told finished) → told ≡ words_in (answers ++ answers_of calls)
told_from settings transaction table answers [] told finished says = told_at settings transaction table answers told finished says ∙ ap words_in (sym (append-nil answers))
told_from settings transaction table answers (call ∷ calls) told finished says =
    told_from settings transaction table (answers ++ call.answer ∷ []) calls told finished says.1 ∙ ap words_in (append_assoc answers (call.answer ∷ []) (answers_of calls))

pub counted : (settings : Settings) (transaction : Transaction) (table : List ℕ) (calls : List Call) (words : ℕ) (finished : Bool)
    → Converses settings transaction (optimizes table) [] calls (Optimized words finished) → words ≡ words_in (answers_of calls)
counted settings transaction table calls words finished says = told_from settings transaction table [] calls words finished says
