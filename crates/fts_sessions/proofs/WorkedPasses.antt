-- Small OPTIMIZEs, worked out by hand: what comes behind some answers.
use Rattle.std.proofs.Common.{◌≡◌, ℕ, List, [], ◌∷◌, ap}
use Rattle.std.specs.Prelude.{true, false}
use Rattle.fts_types.specs.declared.settings.Settings.{Settings}
use Rattle.fts_schema.specs.declared.reply.Reply.TheVariants.{LogFull, NothingToOptimize, Optimized}
use Rattle.fts_steps.specs.declared.optimize.OptimizeStep.TheVariants.{Began, Word, Finished, Nothing}
use Rattle.fts_steps.specs.Step.{to_optimize, Answer, passed, full}
use Rattle.fts_sessions.specs.Request.{optimizes}
use Rattle.fts_sessions.specs.Transaction.{Transaction}
use Rattle.fts_sessions.specs.Conversation.{Next, asks, ends, next, optimize_next}

-- by which number of words an OPTIMIZE goes on or ends behind these answers
abbrev Goes : ℕ → List Answer → Next → Type 0
Goes most answers behind = (settings : Settings) (transaction : Transaction) (table : List ℕ) → settings.optimize_words ≡ most → next settings transaction (optimizes table) answers ≡ behind

-- there is nothing to do
idle : Goes 1 (passed Nothing ∷ []) (ends NothingToOptimize)
idle settings transaction table is = ap (λ (most : ℕ). optimize_next most 1 0 (passed Nothing)) is

-- a pass is begun and its one word made
begun : Goes 1 (passed Began ∷ []) (asks to_optimize)
begun settings transaction table is = ap (λ (most : ℕ). optimize_next most 1 0 (passed Began)) is

last_word : Goes 1 (passed Began ∷ passed Word ∷ []) (ends (Optimized 1 false))
last_word settings transaction table is = ap (λ (most : ℕ). optimize_next most 2 1 (passed Word)) is

-- two words may be made, and there is one
one_of_two : Goes 2 (passed Began ∷ passed Word ∷ []) (asks to_optimize)
one_of_two settings transaction table is = ap (λ (most : ℕ). optimize_next most 2 1 (passed Word)) is

finished : Goes 2 (passed Began ∷ passed Word ∷ passed Finished ∷ []) (ends (Optimized 1 true))
finished settings transaction table is = ap (λ (most : ℕ). optimize_next most 3 1 (passed Finished)) is

-- a pass that was open has no word left
no_word : Goes 1 (passed Finished ∷ []) (ends (Optimized 0 true))
no_word settings transaction table is = ap (λ (most : ℕ). optimize_next most 1 0 (passed Finished)) is

-- another one finishes it meanwhile, or begins the next pass again and again
finished_by_another : Goes 2 (passed Word ∷ passed Nothing ∷ []) (ends (Optimized 1 true))
finished_by_another settings transaction table is = ap (λ (most : ℕ). optimize_next most 2 1 (passed Nothing)) is

begun_by_all : Goes 1 (passed Began ∷ passed Began ∷ passed Began ∷ []) (ends (Optimized 0 false))
begun_by_all settings transaction table is = ap (λ (most : ℕ). optimize_next most 3 0 (passed Began)) is

-- a later step is refused
refused : Goes 2 (passed Began ∷ full 99 ∷ []) (ends (LogFull 99))
refused settings transaction table is = ap (λ (most : ℕ). optimize_next most 2 0 (full 99)) is
