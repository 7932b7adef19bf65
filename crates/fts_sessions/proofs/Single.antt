use Rattle.std.proofs.Common.{◌≡◌, ◌⊎◌, ℕ, List, [], ◌∷◌, ◌++◌, length, refl, ap, subst, sym, ◌∙◌, inl, inr}
use Rattle.std.specs.Prelude.{Option, Some, None}
use Rattle.fts_types.specs.declared.limits.Limits.{Limits}
use Rattle.fts_types.specs.declared.settings.Settings.{Settings}
use Rattle.fts_io.specs.Text.{Line, whole, too_long}
use Rattle.fts_schema.specs.declared.reply.Reply.{Reply}
use Rattle.fts_schema.specs.declared.reply.Reply.TheVariants.{NoMemory, DiskFault}
use Rattle.fts_sql.specs.Line.{IsBlank}
use Rattle.fts_sql.specs.Fault.{IsFaultAt}
use Rattle.fts_sql.specs.Statement.{IsStatement}
use Rattle.fts_sql.specs.declared.statement.Statement.{Statement}
use Rattle.fts_sql.specs.declared.statement.Statement.TheVariants.{Begin, Commit, Rollback, Insert, Update, Delete, Match, Sync, Optimize, List as ListView}
use Rattle.fts_sql.proofs.Laws.{one_statement}
use Rattle.fts_sql.proofs.Single.{one_fault, statement_or_fault, blank_or_statement}
use Rattle.fts_listing.specs.declared.listing.Listing.{Listing}
use Rattle.fts_listing.proofs.One.{listed_one}
use Rattle.fts_types.specs.Rules.{rules_of}
use Rattle.fts_commits.specs.Commit.{replay}
use Rattle.fts_meaning.specs.Scan.{scan}
use Rattle.fts_meaning.specs.View.{View}
use Rattle.fts_steps.specs.State.{IsRight, turns_of}
use Rattle.fts_steps.proofs.Adding.{one_answer as some_answer}
use Rattle.fts_steps.specs.Running.{Running, Entry, grown}
use Rattle.fts_steps.specs.Step.{Ask, to_commit, to_sync, to_optimize, to_view, to_find, to_list, to_measure, Answer, Call, MayAnswer, Views, Finds, Lists, FollowsRight, AreAlone, plain_answer, state_view, after_call}
use Rattle.fts_steps.specs.Step.{committed, refused, full, flushed, all_flushed, passed, viewed, found, listed, measured, disk_fault, stopped, no_memory}
use Rattle.fts_sessions.specs.Query.{Search, IsSearch}
use Rattle.fts_sessions.specs.Table.{IsChange}
use Rattle.fts_sessions.specs.Transaction.{Transaction}
use Rattle.fts_sessions.specs.Request.{Request, IsRequest, opens, closes, rolls_back, changes, searches, syncs, optimizes, lists, blank, unknown, unread}
use Rattle.fts_sessions.specs.Conversation.{Converses, begun_by, reply_to, asks, ends, next, sync_next, optimize_next}
use Rattle.fts_sessions.specs.Calm.{IsCalm}
use Rattle.fts_sessions.proofs.OneSearch.{one_search}
use Rattle.fts_sessions.proofs.Going.{last_behind}
use Rattle.fts_sessions.proofs.Optimizing.{next_behind}

-- ---- one request

-- the request that a statement is
abbrev Of : Statement → Request → Type 0
Of Begin request = request ≡ opens
Of Commit request = request ≡ closes
Of Rollback request = request ≡ rolls_back
Of (Insert table names values) request = request ≡ changes (Insert table names values)
Of (Update table names texts key) request = request ≡ changes (Update table names texts key)
Of (Delete table key) request = request ≡ changes (Delete table key)
Of (Match table names query) request = (search : Search) × IsSearch query search × (request ≡ searches table names search)
Of Sync request = request ≡ syncs
Of (Optimize table) request = request ≡ optimizes table
Of (ListView schema view) request = request ≡ lists schema view

-- a search is one request, since a query is one search
one_of : (statement : Statement) (r s : Request) → Of statement r → Of statement s → r ≡ s
one_of Begin r s h k = h ∙ sym k
one_of Commit r s h k = h ∙ sym k
one_of Rollback r s h k = h ∙ sym k
one_of (Insert table names values) r s h k = h ∙ sym k
one_of (Update table names texts key) r s h k = h ∙ sym k
one_of (Delete table key) r s h k = h ∙ sym k
one_of (Match table names query) r s (search, is, h) (search', is', k) = h ∙ ap (searches table names) (one_search query search search' is is') ∙ sym k
one_of Sync r s h k = h ∙ sym k
one_of (Optimize table) r s h k = h ∙ sym k
one_of (ListView schema view) r s h k = h ∙ sym k

-- a line is blank, or faulty, or says a statement
abbrev IsSaid : List ℕ → Request → Type 0
IsSaid bytes request = (statement : Statement) × IsStatement bytes statement × Of statement request

abbrev Kinds : List ℕ → Request → Type 0
Kinds bytes request =
    (IsBlank bytes × (request ≡ blank))
    ⊎ (((at : ℕ) × IsFaultAt bytes at × (request ≡ unknown at))
    ⊎ IsSaid bytes request)

said : (bytes : List ℕ) (request : Request) (statement : Statement) → IsStatement bytes statement → Of statement request → Kinds bytes request
said bytes request statement is of = inr (inr (statement, is, of))

changes_of : (statement : Statement) → IsChange statement → Of statement (changes statement)
changes_of (Insert table names values) is = refl
changes_of (Update table names texts key) is = refl
changes_of (Delete table key) is = refl
changes_of Begin is = absurd is
changes_of Commit is = absurd is
changes_of Rollback is = absurd is
changes_of (Match table names query) is = absurd is
changes_of Sync is = absurd is
changes_of (Optimize table) is = absurd is
changes_of (ListView schema view) is = absurd is

kind : (bytes : List ℕ) (request : Request) → IsRequest (whole bytes) request → Kinds bytes request
kind bytes opens is = said bytes opens Begin is refl
kind bytes closes is = said bytes closes Commit is refl
kind bytes rolls_back is = said bytes rolls_back Rollback is refl
kind bytes (changes statement) is = said bytes (changes statement) statement is.0 (changes_of statement is.1)
kind bytes (searches table names search) (query, is, of) = said bytes (searches table names search) (Match table names query) is (search, of, refl)
kind bytes syncs is = said bytes syncs Sync is refl
kind bytes (optimizes table) is = said bytes (optimizes table) (Optimize table) is refl
kind bytes (lists schema view) is = said bytes (lists schema view) (ListView schema view) is refl
kind bytes blank is = inl (is, refl)
kind bytes (unknown place) is = inr (inl (place, is, refl))
kind bytes unread is = absurd is

one_kind : (bytes : List ℕ) (r s : Request) → Kinds bytes r → Kinds bytes s → r ≡ s
one_kind bytes r s (inl h) (inl k) = h.1 ∙ sym k.1
one_kind bytes r s (inl h) (inr (inl k)) = absurd (k.1.not_blank h.0)
one_kind bytes r s (inl h) (inr (inr k)) = absurd (blank_or_statement bytes k.0 h.0 k.1)
one_kind bytes r s (inr (inl h)) (inl k) = absurd (h.1.not_blank k.0)
one_kind bytes r s (inr (inl h)) (inr (inl k)) = h.2 ∙ ap unknown (one_fault bytes h.0 k.0 h.1 k.1) ∙ sym k.2
one_kind bytes r s (inr (inl h)) (inr (inr k)) = absurd (statement_or_fault bytes k.0 h.0 k.1 h.1)
one_kind bytes r s (inr (inr h)) (inl k) = absurd (blank_or_statement bytes h.0 k.0 h.1)
one_kind bytes r s (inr (inr h)) (inr (inl k)) = absurd (statement_or_fault bytes h.0 k.0 h.1 k.1)
one_kind bytes r s (inr (inr h)) (inr (inr k)) = one_of k.0 r s (subst (λ (statement : Statement). Of statement r) (one_statement bytes h.0 k.0 h.1 k.1) h.2) k.2

unread_alone : (request : Request) → IsRequest too_long request → request ≡ unread
unread_alone opens is = absurd is
unread_alone closes is = absurd is
unread_alone rolls_back is = absurd is
unread_alone (changes statement) is = absurd is
unread_alone (searches table names search) is = absurd is
unread_alone syncs is = absurd is
unread_alone (optimizes table) is = absurd is
unread_alone (lists schema view) is = absurd is
unread_alone blank is = absurd is
unread_alone (unknown place) is = absurd is
unread_alone unread is = refl

-- a line is one request
pub one_request : (line : Line) (r s : Request) → IsRequest line r → IsRequest line s → r ≡ s
one_request (whole bytes) r s h k = one_kind bytes r s (kind bytes r h) (kind bytes s k)
one_request too_long r s h k = unread_alone r h ∙ sym (unread_alone s k)

-- the end of one conversation is its reply
one_ending : (a b : Reply) → ends a ≡ ends b → a ≡ b
one_ending a b same = cc

one_ask : (a b : Ask) → asks a ≡ asks b → a ≡ b
one_ask a b same = cc

-- ---- one answer

-- what an answer is whose reply is no fault and no want of memory, where the index is right
abbrev IsSure : Limits → Running → Ask → Answer → Type 0
IsSure limits running (to_view asked) answer = answer ≡ viewed (state_view running.state asked)
IsSure limits running (to_find terms) answer =
    answer ≡ found (length running.state.commits) (scan (rules_of running.state.settings) (replay running.state.commits).list terms)
IsSure limits running (to_list kind) answer = (number : ℕ) × (listing : Listing) × (answer ≡ listed number listing) × Lists running (to_list kind) number listing
IsSure limits running (to_commit commit) answer = plain_answer limits running (to_commit commit) ≡ Some answer
IsSure limits running to_sync answer = plain_answer limits running to_sync ≡ Some answer
IsSure limits running to_optimize answer = plain_answer limits running to_optimize ≡ Some answer
IsSure limits running to_measure answer = plain_answer limits running to_measure ≡ Some answer

no_some : (answer : Answer) → ◌≡◌ {A = Option Answer} None (Some answer) → ⊥
no_some answer is = let no = is in cc

sure_plain : (limits : Limits) (running : Running) (ask : Ask) (answer : Answer) → plain_answer limits running ask ≡ Some answer → IsSure limits running ask answer
sure_plain limits running (to_view asked) answer is = absurd (no_some answer is)
sure_plain limits running (to_find terms) answer is = absurd (no_some answer is)
sure_plain limits running (to_list kind) answer is = absurd (no_some answer is)
sure_plain limits running (to_commit commit) answer is = is
sure_plain limits running to_sync answer is = is
sure_plain limits running to_optimize answer is = is
sure_plain limits running to_measure answer is = is

sure_view : (limits : Limits) (running : Running) (ask : Ask) (view : View) → IsRight running.state → Views running ask view → IsSure limits running ask (viewed view)
sure_view limits running (to_view asked) view right is = ap viewed (is.1 right)
sure_view limits running (to_find terms) view right is = absurd is
sure_view limits running (to_list kind) view right is = absurd is
sure_view limits running (to_commit commit) view right is = absurd is
sure_view limits running to_sync view right is = absurd is
sure_view limits running to_optimize view right is = absurd is
sure_view limits running to_measure view right is = absurd is

sure_found : (limits : Limits) (running : Running) (ask : Ask) (number : ℕ) (docs : List ℕ) → IsRight running.state → Finds running ask number docs
    → IsSure limits running ask (found number docs)
sure_found limits running (to_find terms) number docs right is = ap (λ (n : ℕ). found n docs) is.0 ∙ ap (found (length running.state.commits)) (is.1 right)
sure_found limits running (to_view asked) number docs right is = absurd is
sure_found limits running (to_list kind) number docs right is = absurd is
sure_found limits running (to_commit commit) number docs right is = absurd is
sure_found limits running to_sync number docs right is = absurd is
sure_found limits running to_optimize number docs right is = absurd is
sure_found limits running to_measure number docs right is = absurd is

sure_listed : (limits : Limits) (running : Running) (ask : Ask) (number : ℕ) (listing : Listing) → Lists running ask number listing → IsSure limits running ask (listed number listing)
sure_listed limits running (to_list kind) number listing is = (number, listing, refl, is)
sure_listed limits running (to_view asked) number listing is = absurd is
sure_listed limits running (to_find terms) number listing is = absurd is
sure_listed limits running (to_commit commit) number listing is = absurd is
sure_listed limits running to_sync number listing is = absurd is
sure_listed limits running to_optimize number listing is = absurd is
sure_listed limits running to_measure number listing is = absurd is

sure_answer : (limits : Limits) (running : Running) (ask : Ask) (answer : Answer) → IsRight running.state → MayAnswer limits running ask answer → IsCalm (reply_to answer)
    → IsSure limits running ask answer
sure_answer limits running ask (committed number) right may calm = sure_plain limits running ask (committed number) may
sure_answer limits running ask (refused why) right may calm = sure_plain limits running ask (refused why) may
sure_answer limits running ask (full end_) right may calm = sure_plain limits running ask (full end_) may
sure_answer limits running ask (flushed through commits) right may calm = sure_plain limits running ask (flushed through commits) may
sure_answer limits running ask (all_flushed commits) right may calm = sure_plain limits running ask (all_flushed commits) may
sure_answer limits running ask (passed step) right may calm = sure_plain limits running ask (passed step) may
sure_answer limits running ask (viewed view) right may calm = sure_view limits running ask view right may
sure_answer limits running ask (found number docs) right may calm = sure_found limits running ask number docs right may
sure_answer limits running ask (listed number listing) right may calm = sure_listed limits running ask number listing may
sure_answer limits running ask (measured size) right may calm = sure_plain limits running ask (measured size) may
sure_answer limits running ask (stopped faults) right may calm = sure_plain limits running ask (stopped faults) may
sure_answer limits running ask (disk_fault faults) right may calm = absurd (calm.no_fault refl)
sure_answer limits running ask no_memory right may calm = absurd (calm.no_want refl)

one_sure : (limits : Limits) (running : Running) (ask : Ask) (a b : Answer) → IsSure limits running ask a → IsSure limits running ask b → a ≡ b
one_sure limits running (to_view asked) a b h k = h ∙ sym k
one_sure limits running (to_find terms) a b h k = h ∙ sym k
one_sure limits running (to_list kind) a b (number, listing, is, h) (number', listing', is', k) =
    is ∙ ap (λ (n : ℕ). listed n listing) (h.0 ∙ sym k.0)
    ∙ ap (listed number') (listed_one running.state.settings (turns_of running.state) running.index kind listing listing' h.1 k.1) ∙ sym is'
one_sure limits running (to_commit commit) a b h k = some_answer a b (sym h ∙ k)
one_sure limits running to_sync a b h k = some_answer a b (sym h ∙ k)
one_sure limits running to_optimize a b h k = some_answer a b (sym h ∙ k)
one_sure limits running to_measure a b h k = some_answer a b (sym h ∙ k)

same_answer : (limits : Limits) (running : Running) (ask : Ask) (a b : Answer) → IsRight running.state → MayAnswer limits running ask a → MayAnswer limits running ask b
    → IsCalm (reply_to a) → IsCalm (reply_to b) → a ≡ b
same_answer limits running ask a b right may may' calm calm' =
    one_sure limits running ask a b (sure_answer limits running ask a right may calm) (sure_answer limits running ask b right may' calm')

-- the answers to one step, with nothing in between
one_answer : (limits : Limits) (running : Running) (call call' : Call) → call.ask ≡ call'.ask → call.more ≡ [] → call'.more ≡ []
    → IsRight (grown running call.more).state
    → MayAnswer limits (grown running call.more) call.ask call.answer → MayAnswer limits (grown running call'.more) call'.ask call'.answer
    → IsCalm (reply_to call.answer) → IsCalm (reply_to call'.answer) → call.answer ≡ call'.answer
one_answer limits running call call' same alone alone' right may may' calm calm' =
    same_answer limits running call'.ask call.answer call'.answer
    (subst (λ (more : List Entry). IsRight (grown running more).state) alone right)
    (subst (λ (ask : Ask). MayAnswer limits running ask call.answer) same
    (subst (λ (more : List Entry). MayAnswer limits (grown running more) call.ask call.answer) alone may))
    (subst (λ (more : List Entry). MayAnswer limits (grown running more) call'.ask call'.answer) alone' may') calm calm'

-- a step is what came before it, its ask and its answer
one_step : (call call' : Call) → call.more ≡ call'.more → call.ask ≡ call'.ask → call.answer ≡ call'.answer → call ≡ call'
one_step call call' before asked answered =
    ap (λ (more : List Entry). record { more = more; ask = call.ask; answer = call.answer }) before
    ∙ ap (λ (ask : Ask). record { more = call'.more; ask = ask; answer = call.answer }) asked
    ∙ ap (λ (answer : Answer). record { more = call'.more; ask = call'.ask; answer = answer }) answered

-- ---- a fault or want of memory ends a request

record IsEnd (answer : Answer) : Type 0 where
  of_begin : begun_by answer ≡ reply_to answer
  of_sync : (goal count : ℕ) → sync_next goal count answer ≡ ends (reply_to answer)
  of_optimize : (most count words : ℕ) → optimize_next most count words answer ≡ ends (reply_to answer)

ends_behind : (settings : Settings) (transaction : Transaction) (request : Request) (answers : List Answer) (ask : Ask) (answer : Answer) → IsEnd answer → next settings transaction request answers ≡ asks ask
    → next settings transaction request (answers ++ answer ∷ []) ≡ ends (reply_to answer)
ends_behind settings transaction syncs [] ask answer is asked = is.of_sync _ _
ends_behind settings transaction syncs (first ∷ answers) ask answer is asked = ap (sync_next _ _) (last_behind first answers answer) ∙ is.of_sync _ _
ends_behind settings transaction (optimizes table) [] ask answer is asked = is.of_optimize _ _ _
ends_behind settings transaction (optimizes table) (first ∷ answers) ask answer is asked = next_behind settings transaction table (first ∷ answers) answer ∙ is.of_optimize _ _ _
ends_behind settings transaction opens [] ask answer is asked = ap ends is.of_begin
ends_behind settings transaction closes [] ask answer is asked = refl
ends_behind settings transaction rolls_back [] ask answer is asked = refl
ends_behind settings transaction (changes a) [] ask answer is asked = refl
ends_behind settings transaction (searches t n s) [] ask answer is asked = refl
ends_behind settings transaction (lists a b) [] ask answer is asked = refl
ends_behind settings transaction blank [] ask answer is asked = refl
ends_behind settings transaction (unknown place) [] ask answer is asked = refl
ends_behind settings transaction unread [] ask answer is asked = refl
ends_behind settings transaction opens (first ∷ answers) ask answer is asked = absurd cc
ends_behind settings transaction closes (first ∷ answers) ask answer is asked = absurd cc
ends_behind settings transaction rolls_back (first ∷ answers) ask answer is asked = absurd cc
ends_behind settings transaction (changes a) (first ∷ answers) ask answer is asked = absurd cc
ends_behind settings transaction (searches t n s) (first ∷ answers) ask answer is asked = absurd cc
ends_behind settings transaction (lists a b) (first ∷ answers) ask answer is asked = absurd cc
ends_behind settings transaction blank (first ∷ answers) ask answer is asked = absurd cc
ends_behind settings transaction (unknown place) (first ∷ answers) ask answer is asked = absurd cc
ends_behind settings transaction unread (first ∷ answers) ask answer is asked = absurd cc

-- what is at its end has one reply
ended_so : (settings : Settings) (transaction : Transaction) (request : Request) (answers : List Answer) (calls : List Call) (end reply : Reply) → next settings transaction request answers ≡ ends end
    → Converses settings transaction request answers calls reply → reply ≡ end
ended_so settings transaction request answers [] end reply is says = one_ending reply end (sym says ∙ is)
ended_so settings transaction request answers (call ∷ calls) end reply is says = absurd (let e = sym is ∙ says.0 in cc)

-- so the answers within a conversation with a calm reply are calm
calm_answer : (settings : Settings) (transaction : Transaction) (request : Request) (answers : List Answer) (ask : Ask) (answer : Answer) (calls : List Call) (reply : Reply)
    → next settings transaction request answers ≡ asks ask → Converses settings transaction request (answers ++ answer ∷ []) calls reply → IsCalm reply → IsCalm (reply_to answer)
calm_answer settings transaction request answers ask no_memory calls reply asked says calm =
    subst IsCalm (ended_so settings transaction request (answers ++ no_memory ∷ []) calls NoMemory reply (ends_behind settings transaction request answers ask no_memory (record { of_begin = refl; of_sync = λ goal count. refl; of_optimize = λ most count words. refl }) asked) says) calm
calm_answer settings transaction request answers ask (disk_fault faults) calls reply asked says calm =
    subst IsCalm (ended_so settings transaction request (answers ++ disk_fault faults ∷ []) calls DiskFault reply
    (ends_behind settings transaction request answers ask (disk_fault faults) (record { of_begin = refl; of_sync = λ goal count. refl; of_optimize = λ most count words. refl }) asked) says) calm
calm_answer settings transaction request answers ask (committed number) calls reply asked says calm = record { no_want = λ is. cc; no_fault = λ is. cc }
calm_answer settings transaction request answers ask (refused why) calls reply asked says calm = record { no_want = λ is. cc; no_fault = λ is. cc }
calm_answer settings transaction request answers ask (full end_) calls reply asked says calm = record { no_want = λ is. cc; no_fault = λ is. cc }
calm_answer settings transaction request answers ask (flushed through commits) calls reply asked says calm = record { no_want = λ is. cc; no_fault = λ is. cc }
calm_answer settings transaction request answers ask (all_flushed commits) calls reply asked says calm = record { no_want = λ is. cc; no_fault = λ is. cc }
calm_answer settings transaction request answers ask (passed step) calls reply asked says calm = record { no_want = λ is. cc; no_fault = λ is. cc }
calm_answer settings transaction request answers ask (viewed view) calls reply asked says calm = record { no_want = λ is. cc; no_fault = λ is. cc }
calm_answer settings transaction request answers ask (found number docs) calls reply asked says calm = record { no_want = λ is. cc; no_fault = λ is. cc }
calm_answer settings transaction request answers ask (listed number listing) calls reply asked says calm = record { no_want = λ is. cc; no_fault = λ is. cc }
calm_answer settings transaction request answers ask (measured size) calls reply asked says calm = record { no_want = λ is. cc; no_fault = λ is. cc }
calm_answer settings transaction request answers ask (stopped faults) calls reply asked says calm = record { no_want = λ is. cc; no_fault = λ is. cc }

-- ---- one conversation

-- what two conversations have in common
abbrev Same : List Call → List Call → Reply → Reply → Type 0
Same here here' reply reply' = (here ≡ here') × (reply ≡ reply')

-- behind the same answers a request, on one engine, makes the same steps and has the same reply
one_from : (limits : Limits) (running : Running) (settings : Settings) (transaction : Transaction) (request : Request) (answers : List Answer) (here here' more more' : List Call) (reply reply' : Reply)
    → Converses settings transaction request answers here reply → Converses settings transaction request answers here' reply'
    → FollowsRight limits running (here ++ more) → FollowsRight limits running (here' ++ more') → AreAlone (here ++ more) → AreAlone (here' ++ more')
    → IsCalm reply → IsCalm reply' → Same here here' reply reply'
one_from limits running settings transaction request answers [] [] more more' reply reply' c d f g alone alone' calm calm' = (refl, one_ending reply reply' (sym c ∙ d))
one_from limits running settings transaction request answers [] (call ∷ calls) more more' reply reply' c d f g alone alone' calm calm' = absurd (let e = sym c ∙ d.0 in cc)
one_from limits running settings transaction request answers (call ∷ calls) [] more more' reply reply' c d f g alone alone' calm calm' = absurd (let e = sym d ∙ c.0 in cc)
one_from limits running settings transaction request answers (call ∷ calls) (call' ∷ calls') more more' reply reply' c d f g alone alone' calm calm' =
    let asked : call.ask ≡ call'.ask = one_ask call.ask call'.ask (sym c.0 ∙ d.0) in
    let answered : call.answer ≡ call'.answer = one_answer limits running call call' asked alone.0 alone'.0 f.0.1 f.0.0 g.0.0
    (calm_answer settings transaction request answers call.ask call.answer calls reply c.0 c.1 calm)
    (calm_answer settings transaction request answers call'.ask call'.answer calls' reply' d.0 d.1 calm') in
    let same : call ≡ call' = one_step call call' (alone.0 ∙ sym alone'.0) asked answered in
    let rest = one_from limits (after_call running call) settings transaction request (answers ++ call.answer ∷ []) calls calls' more more' reply reply' c.1
    (subst (λ (answer : Answer). Converses settings transaction request (answers ++ answer ∷ []) calls' reply') (sym answered) d.1) f.1
    (subst (λ (one : Call). FollowsRight limits (after_call running one) (calls' ++ more')) (sym same) g.1) alone.1 alone'.1 calm calm' in
    (ap (λ (one : Call). one ∷ calls) same ∙ ap (λ (all : List Call). call' ∷ all) rest.0, rest.1)

-- a request, on one engine, makes the same steps and has the same reply, where this is no fault and no want of memory
pub one_conversation : (limits : Limits) (running : Running) (settings : Settings) (transaction : Transaction) (request : Request) (here here' more more' : List Call) (reply reply' : Reply)
    → Converses settings transaction request [] here reply → Converses settings transaction request [] here' reply'
    → FollowsRight limits running (here ++ more) → FollowsRight limits running (here' ++ more') → AreAlone (here ++ more) → AreAlone (here' ++ more')
    → IsCalm reply → IsCalm reply' → Same here here' reply reply'
one_conversation limits running settings transaction request here here' more more' reply reply' c d f g alone alone' calm calm' =
    one_from limits running settings transaction request [] here here' more more' reply reply' c d f g alone alone' calm calm'
