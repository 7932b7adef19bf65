-- What met no fault.
use Rattle.std.proofs.Common.{◌≡◌, ℕ, List, [], ◌∷◌, ◌++◌, refl, ap, sym, ◌∙◌, length, inl, inr, ⊎_elim}
use Rattle.fts_types.specs.declared.settings.Settings.{Settings}
use Rattle.fts_io.specs.Text.{Line}
use Rattle.fts_schema.specs.declared.reply.Reply.{Reply}
use Rattle.fts_schema.specs.declared.reply.Reply.TheVariants.{DiskFault}
use Rattle.fts_steps.specs.Running.{Running, Entry, grown}
use Rattle.fts_steps.specs.Step.{Ask, to_commit, to_sync, to_optimize, to_view, to_find, to_list, to_measure, Answer, committed, refused, full, flushed, all_flushed, passed, viewed, found, listed, measured}
use Rattle.fts_steps.specs.Step.{disk_fault, stopped, no_memory}
use Rattle.fts_steps.specs.declared.optimize.OptimizeStep.TheVariants as did
use Rattle.fts_steps.specs.Step.{Call, after, after_call, after_all, AreAlone}
use Rattle.fts_steps.proofs.Adding.{read_still}
use Rattle.fts_sessions.specs.Transaction.{Transaction}
use Rattle.fts_sessions.specs.Request.{Request, opens, closes, rolls_back, changes, searches, syncs, optimizes, lists, blank, unknown, unread}
use Rattle.fts_sessions.specs.Conversation.{Converses, next, sync_next, target_of, asks, ends}
use Rattle.fts_sessions.specs.Execute.{Says}
use Rattle.fts_sessions.proofs.Going.{last_behind}
use Rattle.fts_sessions.proofs.Optimizing.{next_behind}
use Rattle.fts_workers.specs.declared.health.Health.{Health}
use Rattle.fts_workers.specs.declared.health.Health.TheVariants.{Sound, Failed}
use Rattle.fts_workers.specs.Health.{health_of_answer, health_of_steps}
use Rattle.fts_workers.proofs.Worse.{failed_before, failed_now, failed_in}

-- a step that met no fault stops nothing
pub answer_still : (running : Running) (ask : Ask) (answer : Answer) → (health_of_answer answer ≡ Failed → ⊥) → (after running ask answer).stopped ≡ running.stopped
answer_still running (to_commit commit) (committed number) calm = refl
answer_still running (to_commit commit) (refused why) calm = refl
answer_still running (to_commit commit) (full end_) calm = refl
answer_still running (to_commit commit) (flushed through commits) calm = refl
answer_still running (to_commit commit) (all_flushed commits) calm = refl
answer_still running (to_commit commit) (passed step) calm = refl
answer_still running (to_commit commit) (viewed view) calm = refl
answer_still running (to_commit commit) (found number docs) calm = refl
answer_still running (to_commit commit) (listed number listing) calm = refl
answer_still running (to_commit commit) (measured size) calm = refl
answer_still running (to_commit commit) (disk_fault faults) calm = absurd (calm refl)
answer_still running (to_commit commit) (stopped faults) calm = refl
answer_still running (to_commit commit) no_memory calm = refl
answer_still running to_sync (committed number) calm = refl
answer_still running to_sync (refused why) calm = refl
answer_still running to_sync (full end_) calm = refl
answer_still running to_sync (flushed through commits) calm = refl
answer_still running to_sync (all_flushed commits) calm = refl
answer_still running to_sync (passed step) calm = refl
answer_still running to_sync (viewed view) calm = refl
answer_still running to_sync (found number docs) calm = refl
answer_still running to_sync (listed number listing) calm = refl
answer_still running to_sync (measured size) calm = refl
answer_still running to_sync (disk_fault faults) calm = absurd (calm refl)
answer_still running to_sync (stopped faults) calm = refl
answer_still running to_sync no_memory calm = refl
answer_still running to_optimize (committed number) calm = refl
answer_still running to_optimize (refused why) calm = refl
answer_still running to_optimize (full end_) calm = refl
answer_still running to_optimize (flushed through commits) calm = refl
answer_still running to_optimize (all_flushed commits) calm = refl
answer_still running to_optimize (passed did.Began) calm = refl
answer_still running to_optimize (passed did.Word) calm = refl
answer_still running to_optimize (passed did.Finished) calm = refl
answer_still running to_optimize (passed did.Nothing) calm = refl
answer_still running to_optimize (viewed view) calm = refl
answer_still running to_optimize (found number docs) calm = refl
answer_still running to_optimize (listed number listing) calm = refl
answer_still running to_optimize (measured size) calm = refl
answer_still running to_optimize (disk_fault faults) calm = absurd (calm refl)
answer_still running to_optimize (stopped faults) calm = refl
answer_still running to_optimize no_memory calm = refl
answer_still running (to_view leaves) answer calm = ap (λ (r : Running). r.stopped) (read_still running 0 answer)
answer_still running (to_find terms) answer calm = ap (λ (r : Running). r.stopped) (read_still running 0 answer)
answer_still running (to_list kind) answer calm = ap (λ (r : Running). r.stopped) (read_still running 0 answer)
answer_still running to_measure answer calm = refl

-- steps that met no fault stop nothing
pub steps_still : (running : Running) (calls : List Call) → AreAlone calls → (health_of_steps calls ≡ Failed → ⊥) → (after_all running calls).stopped ≡ running.stopped
steps_still running [] alone calm = refl
steps_still running (call ∷ calls) alone calm =
    steps_still (after_call running call) calls alone.1 (λ is. calm (failed_now (health_of_answer call.answer) (health_of_steps calls) is))
    ∙ answer_still (grown running call.more) call.ask call.answer (λ is. calm (failed_before (health_of_answer call.answer) (health_of_steps calls) is))
    ∙ ap (λ (more : List Entry). (grown running more).stopped) alone.0

-- ---- a line that met no fault

fault_next : (settings : Settings) (transaction : Transaction) (request : Request) (answers : List Answer) (faults : ℕ) (ask : Ask) → next settings transaction request answers ≡ asks ask
    → next settings transaction request (answers ++ disk_fault faults ∷ []) ≡ ends DiskFault
fault_next settings transaction syncs [] faults ask is = refl
fault_next settings transaction syncs (answer ∷ answers) faults ask is =
    ap (sync_next (target_of answer) (length (answer ∷ (answers ++ disk_fault faults ∷ [])))) (last_behind answer answers (disk_fault faults))
fault_next settings transaction (optimizes table) [] faults ask is = refl
fault_next settings transaction (optimizes table) (answer ∷ answers) faults ask is = next_behind settings transaction table (answer ∷ answers) (disk_fault faults)
fault_next settings transaction opens [] faults ask is = refl
fault_next settings transaction opens (answer ∷ answers) faults ask is = absurd cc
fault_next settings transaction closes [] faults ask is = refl
fault_next settings transaction closes (answer ∷ answers) faults ask is = absurd cc
fault_next settings transaction rolls_back [] faults ask is = refl
fault_next settings transaction rolls_back (answer ∷ answers) faults ask is = absurd cc
fault_next settings transaction (changes statement) [] faults ask is = refl
fault_next settings transaction (changes statement) (answer ∷ answers) faults ask is = absurd cc
fault_next settings transaction (searches table names search) [] faults ask is = refl
fault_next settings transaction (searches table names search) (answer ∷ answers) faults ask is = absurd cc
fault_next settings transaction (lists schema view) [] faults ask is = refl
fault_next settings transaction (lists schema view) (answer ∷ answers) faults ask is = absurd cc
fault_next settings transaction blank [] faults ask is = refl
fault_next settings transaction blank (answer ∷ answers) faults ask is = absurd cc
fault_next settings transaction (unknown place) [] faults ask is = refl
fault_next settings transaction (unknown place) (answer ∷ answers) faults ask is = absurd cc
fault_next settings transaction unread [] faults ask is = refl
fault_next settings transaction unread (answer ∷ answers) faults ask is = absurd cc

is_fault : (answer : Answer) → health_of_answer answer ≡ Failed → (faults : ℕ) × (answer ≡ disk_fault faults)
is_fault (disk_fault faults) is = (faults, refl)
is_fault (committed number) is = absurd cc
is_fault (refused why) is = absurd cc
is_fault (full end_) is = absurd cc
is_fault (flushed through commits) is = absurd cc
is_fault (all_flushed commits) is = absurd cc
is_fault (passed step) is = absurd cc
is_fault (viewed view) is = absurd cc
is_fault (found number docs) is = absurd cc
is_fault (listed number listing) is = absurd cc
is_fault (measured size) is = absurd cc
is_fault (stopped faults) is = absurd cc
is_fault no_memory is = absurd cc

-- the steps behind one that failed: there are none, and the reply tells the fault
fault_told : (settings : Settings) (transaction : Transaction) (request : Request) (answers : List Answer) (calls : List Call) (reply : Reply) → next settings transaction request answers ≡ ends DiskFault
    → Converses settings transaction request answers calls reply → reply ≡ DiskFault
fault_told settings transaction request answers [] reply ended says = (let same : ends reply ≡ ends DiskFault = sym says ∙ ended in cc)
fault_told settings transaction request answers (call ∷ calls) reply ended says = absurd (let no : asks call.ask ≡ ends DiskFault = sym says.0 ∙ ended in cc)

pub converses_calm : (settings : Settings) (transaction : Transaction) (request : Request) (answers : List Answer) (calls : List Call) (reply : Reply) → Converses settings transaction request answers calls reply
    → (reply ≡ DiskFault → ⊥) → health_of_steps calls ≡ Failed → ⊥
converses_calm settings transaction request answers [] reply says calm is = (let no : ◌≡◌ {A = Health} Sound Failed = is in cc)
converses_calm settings transaction request answers (call ∷ calls) reply says calm is = ⊎_elim
    (λ here.
    let fault = is_fault call.answer here in
    calm (fault_told settings transaction request (answers ++ call.answer ∷ []) calls reply
    (ap (λ (answer : Answer). next settings transaction request (answers ++ answer ∷ [])) fault.1 ∙ fault_next settings transaction request answers fault.0 call.ask says.0) says.1))
    (λ behind. converses_calm settings transaction request (answers ++ call.answer ∷ []) calls reply says.1 calm behind)
    (failed_in (health_of_answer call.answer) (health_of_steps calls) is)

-- a line whose reply tells no fault makes no step that met one
pub said_calm : (settings : Settings) (line : Line) (transaction left : Transaction) (calls : List Call) (reply : Reply)
    → Says settings line transaction calls reply left → (reply ≡ DiskFault → ⊥) → health_of_steps calls ≡ Failed → ⊥
said_calm settings line transaction left calls reply (inl (request, is, converses, leaves)) calm failed = converses_calm settings transaction request [] calls reply converses calm failed
said_calm settings line transaction left calls reply (inr (none, want, stays)) calm failed =
    (let no : ◌≡◌ {A = Health} Sound Failed = sym (ap health_of_steps none) ∙ failed in cc)
