-- The batches of a SYNC, one behind another.
use Rattle.std.proofs.Common.{◌≡◌, ℕ, ◌+◌, ◌<◌, ◌≤◌, List, [], ◌∷◌, ◌++◌, length, refl, ap, ◌∙◌, arith}
use Rattle.std.proofs.lemmas.Bool.Decides.{nat_tests}
use Rattle.std.proofs.lemmas.List.{length-append}
use Rattle.std.specs.Prelude.{Bool, true, false, ◌&&◌, nat_lt, if◌then◌else◌}
use Rattle.fts_types.specs.declared.settings.Settings.{Settings}
use Rattle.fts_schema.specs.declared.reply.Reply.{Reply}
use Rattle.fts_schema.specs.declared.reply.Reply.TheVariants.{Synced}
use Rattle.fts_steps.specs.Step.{to_sync, Answer, flushed, Sight, Steps}
use Rattle.fts_steps.specs.Answers.{error_answer_of}
use Rattle.fts_steps.specs.declared.index_error.IndexError.{IndexError}
use Rattle.fts_steps.specs.declared.index_error.IndexError.TheVariants as sync
use Rattle.fts_sessions.specs.Request.{syncs}
use Rattle.fts_sessions.specs.Transaction.{Transaction}
use Rattle.fts_sessions.specs.Conversation.{asks, ends, next, sync_next, last_answer, reply_to}
use Rattle.fts_sessions.specs.Execute.{GoesOn}
use Rattle.fts_sessions.proofs.Going.{ends_here, behind_step, last_step, last_behind}
use Rattle.fts_sessions.proofs.Naming.{and_false}

-- ---- the answers so far

-- an answer that makes an end
ended : (settings : Settings) (transaction : Transaction) (first target : ℕ) (rest : List Answer) (answer : Answer) → ((goal count : ℕ) → sync_next goal count answer ≡ ends (reply_to answer))
    → next settings transaction syncs ((flushed first target ∷ rest) ++ answer ∷ []) ≡ ends (reply_to answer)
ended settings transaction first target rest answer is =
    ap (sync_next target (length (flushed first target ∷ (rest ++ answer ∷ [])))) (last_behind (flushed first target) rest answer) ∙ is target _

pub refusal_ends : (error : IndexError) (goal count : ℕ) → sync_next goal count (error_answer_of error) ≡ ends (reply_to (error_answer_of error))
refusal_ends sync.NoMemory goal count = refl
refusal_ends (sync.LogFull end_) goal count = refl
refusal_ends (sync.DiskFault faults) goal count = refl
refusal_ends (sync.Stopped faults) goal count = refl

-- behind the first batch so many answers were given together, the last of which flushed through so many commits
pub record IsFlushing (first target count through : ℕ) (rest : List Answer) : Type 0 where
  pub counted : length rest + 1 ≡ count
  pub commits : ℕ
  pub last : last_answer (flushed first target) rest ≡ flushed through commits

module _ (settings : Settings) (transaction : Transaction) (first target count through : ℕ) (rest : List Answer) (is : IsFlushing first target count through rest) where
  follows_last : next settings transaction syncs (flushed first target ∷ rest) ≡ sync_next target count (flushed through is.commits)
  follows_last =
      ap (sync_next target (length (flushed first target ∷ rest))) is.last
      ∙ ap (λ (n : ℕ). sync_next target n (flushed through is.commits)) (let counted = is.counted in omega (arith, counted))

  -- it goes on below the target
  pub goes : nat_lt through target ≡ true → nat_lt count target ≡ true → next settings transaction syncs (flushed first target ∷ rest) ≡ asks to_sync
  goes below few =
      follows_last ∙ ap (λ (b : Bool). if b && nat_lt count target then asks to_sync else ends (Synced through)) below
      ∙ ap (λ (b : Bool). if b then asks to_sync else ends (Synced through)) few

  -- and ends at the target, or behind as many batches
  pub arrives : nat_lt through target ≡ false → next settings transaction syncs (flushed first target ∷ rest) ≡ ends (Synced through)
  arrives at = follows_last ∙ ap (λ (b : Bool). if b && nat_lt count target then asks to_sync else ends (Synced through)) at

  pub runs_out : nat_lt count target ≡ false → next settings transaction syncs (flushed first target ∷ rest) ≡ ends (Synced through)
  runs_out many =
      follows_last ∙ ap (λ (b : Bool). if nat_lt through target && b then asks to_sync else ends (Synced through)) many
      ∙ ap (λ (b : Bool). if b then asks to_sync else ends (Synced through)) (and_false (nat_lt through target))

  pub flushes_more : (now commits : ℕ) → IsFlushing first target (count + 1) now (rest ++ flushed now commits ∷ [])
  flushes_more now commits = record {
    counted = let counted = is.counted in let all_of = length-append rest (flushed now commits ∷ []) in omega (arith, counted, all_of);
    commits = commits;
    last = last_behind (flushed first target) rest (flushed now commits);
  }

-- ---- the loop over the batches behind the first

module _ {S : Type 0} (sight : Sight S) (settings : Settings) (transaction : Transaction) (first target : ℕ) (old : S) where
  -- whatever is still done, it is done behind what was done
  abbrev pub LeadsTo : List Answer → S → Type 0
  LeadsTo rest now = (reply : Reply) (new : S) → GoesOn sight settings transaction syncs (flushed first target ∷ rest) now reply new
      → GoesOn sight settings transaction syncs (flushed first target ∷ []) old reply new

  -- so far no batch was the last
  pub record IsWithin (count through : ℕ) (now : S) : Type 0 where
    pub rest : List Answer
    pub flushing : IsFlushing first target count through rest
    pub leads : LeadsTo rest now

  pub begun : IsWithin 1 first old
  begun = record { rest = []; flushing = record { counted = refl; commits = target; last = refl }; leads = λ reply new went. went }

  module _ (count through : ℕ) (now : S) (within : IsWithin count through now) where
    pub one_more : (later commits : ℕ) (next_one : S) → nat_lt through target ≡ true → nat_lt count target ≡ true → Steps sight to_sync (flushed later commits) now next_one
        → IsWithin (count + 1) later next_one
    one_more later commits next_one below few step = record {
      rest = within.rest ++ flushed later commits ∷ [];
      flushing = flushes_more settings transaction first target count through within.rest within.flushing later commits;
      leads = λ reply new went. within.leads reply new
          (behind_step sight settings transaction syncs (flushed first target ∷ within.rest) to_sync now next_one (flushed later commits) step
          (goes settings transaction first target count through within.rest within.flushing below few) reply new went refl);
    }

    pub the_last : (answer : Answer) (reply : Reply) (new : S) → nat_lt through target ≡ true → nat_lt count target ≡ true → Steps sight to_sync answer now new → reply_to answer ≡ reply
        → ((goal seen : ℕ) → sync_next goal seen answer ≡ ends (reply_to answer)) → GoesOn sight settings transaction syncs (flushed first target ∷ []) old reply new
    the_last answer reply new below few step told is = within.leads reply new
        (last_step sight settings transaction syncs (flushed first target ∷ within.rest) to_sync now new answer step (goes settings transaction first target count through within.rest within.flushing below few) reply told
        (ended settings transaction first target within.rest answer is))

    pub arrived : nat_lt through target ≡ false → GoesOn sight settings transaction syncs (flushed first target ∷ []) old (Synced through) now
    arrived at = within.leads (Synced through) now
        (ends_here sight settings transaction syncs (flushed first target ∷ within.rest) now (Synced through) (arrives settings transaction first target count through within.rest within.flushing at) (λ is. cc))

    pub ran_out : nat_lt count target ≡ false → GoesOn sight settings transaction syncs (flushed first target ∷ []) old (Synced through) now
    ran_out many = within.leads (Synced through) now
        (ends_here sight settings transaction syncs (flushed first target ∷ within.rest) now (Synced through) (runs_out settings transaction first target count through within.rest within.flushing many) (λ is. cc))

-- tests of numbers
pub below : (a b : ℕ) → a < b → nat_lt a b ≡ true
below a b less = grind (arith, nat_tests)

pub not_below : (a b : ℕ) → b ≤ a → nat_lt a b ≡ false
not_below a b more = grind (arith, nat_tests)
