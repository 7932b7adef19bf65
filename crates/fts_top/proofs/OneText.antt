use Rattle.std.proofs.Common.{◌≡◌, ℕ, zero, suc, Bool, true, false, nat_lt, List, [], ◌∷◌, ◌++◌, refl, ap, subst, sym, ◌∙◌, inl, inr, Option, Some, None}
use Rattle.fts_types.specs.declared.limits.Limits.{Limits}
use Rattle.fts_types.specs.declared.settings.Settings.{Settings}
use Rattle.fts_io.specs.Text.{Line}
use Rattle.fts_listing.specs.declared.listing.Listing.{Listing}
use Rattle.fts_schema.specs.declared.reply.Reply.{Reply}
use Rattle.fts_schema.specs.Reply.{text_of}
use Rattle.fts_meaning.specs.View.{View}
use Rattle.fts_steps.specs.Running.{Running, Entry, grown}
use Rattle.fts_steps.proofs.Adding.{one_answer}
use Rattle.fts_steps.specs.Step.{Ask, to_sync, to_measure, Answer, committed, refused, full, flushed, all_flushed, passed, viewed, found, listed, measured, disk_fault, stopped, no_memory}
use Rattle.fts_steps.specs.Step.{Call, MayAnswer, Views, Finds, Lists, plain_answer, Follows, FollowsRight, AreAlone, after_call, after_all}
use Rattle.fts_sessions.specs.Request.{Request}
use Rattle.fts_sessions.specs.Transaction.{Transaction}
use Rattle.fts_sessions.specs.Conversation.{Converses, behind}
use Rattle.fts_sessions.specs.Execute.{Says}
use Rattle.fts_sessions.specs.Calm.{IsCalm}
use Rattle.fts_sessions.proofs.Single.{one_request, one_conversation}
use Rattle.fts_workers.specs.declared.health.Health.{Health}
use Rattle.fts_workers.specs.declared.health.Health.TheVariants.{Sound, Short, Failed}
use Rattle.fts_workers.specs.Health.{health_of, health_of_answer, health_of_steps, worse}
use Rattle.fts_top.specs.Sessions.{Met, open_in, leaving, SaysOf, Speaks}
use Rattle.fts_workers.specs.Batches.{AreBatches, if_above, unless_refused}
use Rattle.fts_top.specs.Talk.{Talks, most_behind, texts_of}
use Rattle.fts_top.specs.Laws.{Converse}
use Rattle.fts_script.proofs.Counting.{whose}
use Rattle.fts_workers.proofs.Worse.{sound_before, sound_behind, sound_calm}

-- the steps behind the first ones
pub follows_behind : (limits : Limits) (running : Running) (here more : List Call) → Follows limits running (here ++ more) → Follows limits (after_all running here) more
follows_behind limits running [] more follows = follows
follows_behind limits running (call ∷ here) more follows = follows_behind limits (after_call running call) here more follows.1

right_behind : (limits : Limits) (running : Running) (here more : List Call) → FollowsRight limits running (here ++ more) → FollowsRight limits (after_all running here) more
right_behind limits running [] more follows = follows
right_behind limits running (call ∷ here) more follows = right_behind limits (after_call running call) here more follows.1

pub alone_behind : (here more : List Call) → AreAlone (here ++ more) → AreAlone more
alone_behind [] more alone = alone
alone_behind (call ∷ here) more alone = alone_behind here more alone.1

-- a calm line says one thing, and leaves one transaction
abbrev OneSaid : List Call → List Call → Reply → Reply → Transaction → Transaction → Type 0
OneSaid here here' reply reply' left left' = (here ≡ here') × (reply ≡ reply') × (left ≡ left')

one_said : (limits : Limits) (running : Running) (settings : Settings) (line : Line) (transaction left left' : Transaction) (here here' more more' : List Call) (reply reply' : Reply)
    → Says settings line transaction here reply left → Says settings line transaction here' reply' left'
    → FollowsRight limits running (here ++ more) → FollowsRight limits running (here' ++ more') → AreAlone (here ++ more) → AreAlone (here' ++ more')
    → IsCalm reply → IsCalm reply' → OneSaid here here' reply reply' left left'
one_said limits running settings line transaction left left' here here' more more' reply reply' (inl (request, is, converses, leaves)) (inl (request', is', converses', leaves')) f g alone alone' calm calm' =
    let requests = one_request line request' request is' is in
    let same = one_conversation limits running settings transaction request here here' more more' reply reply' converses
    (subst (λ (r : Request). Converses settings transaction r [] here' reply') requests converses') f g alone alone' calm calm' in
    (same.0, same.1, leaves ∙ ap (behind settings transaction request) same.1 ∙ ap (λ (r : Request). behind settings transaction r reply') (sym requests) ∙ sym leaves')
one_said limits running settings line transaction left left' here here' more more' reply reply' (inl says) (inr (none, want, stays)) f g alone alone' calm calm' = absurd (calm'.no_want want)
one_said limits running settings line transaction left left' here here' more more' reply reply' (inr (none, want, stays)) says f g alone alone' calm calm' = absurd (calm.no_want want)

-- so in its session it says one thing, and leaves one list of sessions
abbrev OneSpoken : List Call → List Call → Reply → Reply → List Met → List Met → Type 0
OneSpoken here here' reply reply' left left' = (here ≡ here') × (reply ≡ reply') × (left ≡ left')

of_one : (limits : Limits) (running : Running) (settings : Settings) (line : Line) (session : Option ℕ) (sessions left left' : List Met) (here here' more more' : List Call) (reply reply' : Reply)
    → SaysOf settings line session sessions here reply left → SaysOf settings line session sessions here' reply' left'
    → FollowsRight limits running (here ++ more) → FollowsRight limits running (here' ++ more') → AreAlone (here ++ more) → AreAlone (here' ++ more')
    → IsCalm reply → IsCalm reply' → OneSpoken here here' reply reply' left left'
of_one limits running settings line None sessions left left' here here' more more' reply reply' says says' f g alone alone' calm calm' =
    let same = one_said limits running settings line None None None here here' more more' reply reply' says.0 says'.0 f g alone alone' calm calm' in
    (same.0, same.1, says.1 ∙ sym says'.1)
of_one limits running settings line (Some number) sessions left left' here here' more more' reply reply' says says' f g alone alone' calm calm' =
    let same = one_said limits running settings line (open_in sessions number) says.0 says'.0 here here' more more' reply reply' says.1 says'.1 f g alone alone' calm calm' in
    (same.0, same.1, says.2 ∙ ap (leaving sessions number) same.2 ∙ sym says'.2)

one_line : (limits : Limits) (running : Running) (settings : Settings) (line : Line) (sessions left left' : List Met) (here here' more more' : List Call) (reply reply' : Reply)
    → Speaks settings line sessions here reply left → Speaks settings line sessions here' reply' left'
    → FollowsRight limits running (here ++ more) → FollowsRight limits running (here' ++ more') → AreAlone (here ++ more) → AreAlone (here' ++ more')
    → IsCalm reply → IsCalm reply' → OneSpoken here here' reply reply' left left'
one_line limits running settings line sessions left left' here here' more more' reply reply' (session, of, says) (session', of', says') f g alone alone' calm calm' =
    of_one limits running settings line session sessions left left' here here' more more' reply reply' says
    (subst (λ (s : Option ℕ). SaysOf settings line s sessions here' reply' left') (whose line session' session of' of) says') f g alone alone' calm calm'

-- ---- batches

-- what is asked determines the answer
abbrev IsDetermined : Running → Ask → Type 0
IsDetermined running ask = ((view : View) → Views running ask view → ⊥) × ((number : ℕ) (docs : List ℕ) → Finds running ask number docs → ⊥)
    × ((number : ℕ) (listing : Listing) → Lists running ask number listing → ⊥)

-- then that of a step that met nothing is the plain one
sound_plain : (limits : Limits) (running : Running) (ask : Ask) (answer : Answer) → IsDetermined running ask
    → MayAnswer limits running ask answer → health_of_answer answer ≡ Sound → plain_answer limits running ask ≡ Some answer
sound_plain limits running ask (committed number) others may sound = may
sound_plain limits running ask (refused why) others may sound = may
sound_plain limits running ask (full end_) others may sound = may
sound_plain limits running ask (flushed through commits) others may sound = may
sound_plain limits running ask (all_flushed commits) others may sound = may
sound_plain limits running ask (passed step) others may sound = may
sound_plain limits running ask (viewed view) others may sound = absurd (others.0 view may)
sound_plain limits running ask (found number docs) others may sound = absurd (others.1 number docs may)
sound_plain limits running ask (listed number listing) others may sound = absurd (others.2 number listing may)
sound_plain limits running ask (measured size) others may sound = may
sound_plain limits running ask (stopped faults) others may sound = may
sound_plain limits running ask (disk_fault faults) others may sound = absurd (let e : ◌≡◌ {A = Health} Failed Sound = sound in cc)
sound_plain limits running ask no_memory others may sound = absurd (let e : ◌≡◌ {A = Health} Short Sound = sound in cc)

one_call : (call call' : Call) → call.more ≡ call'.more → call.ask ≡ call'.ask → call.answer ≡ call'.answer → call ≡ call'
one_call call call' before asked answered =
    ap (λ (more : List Entry). record { more = more; ask = call.ask; answer = call.answer }) before
    ∙ ap (λ (ask : Ask). record { more = call'.more; ask = ask; answer = call.answer }) asked
    ∙ ap (λ (answer : Answer). record { more = call'.more; ask = call'.ask; answer = answer }) answered

module _ (limits : Limits) where
  -- a step that is asked the same and met nothing is the same
  same_call : (running : Running) (ask : Ask) (call call' : Call) → call.ask ≡ ask → call'.ask ≡ ask
      → IsDetermined running ask → call.more ≡ [] → call'.more ≡ []
      → MayAnswer limits (grown running call.more) call.ask call.answer → MayAnswer limits (grown running call'.more) call'.ask call'.answer
      → health_of_answer call.answer ≡ Sound → health_of_answer call'.answer ≡ Sound → call ≡ call'
  same_call running ask call call' asks asks' others alone alone' may may' sound sound' =
      one_call call call' (alone ∙ sym alone') (asks ∙ sym asks')
      (one_answer call.answer call'.answer (sym (plain call asks alone may sound) ∙ plain call' asks' alone' may' sound'))
    where
      plain : (call : Call) → call.ask ≡ ask → call.more ≡ [] → MayAnswer limits (grown running call.more) call.ask call.answer → health_of_answer call.answer ≡ Sound
          → plain_answer limits running ask ≡ Some call.answer
      plain call asks alone may sound = sound_plain limits running ask call.answer others
          (subst (λ (a : Ask). MayAnswer limits running a call.answer) asks
          (subst (λ (more : List Entry). MayAnswer limits (grown running more) call.ask call.answer) alone may)) sound

  abbrev Unique : ℕ → ℕ → Type 0
  Unique bytes most = (running : Running) (batches others more more' : List Call) → AreBatches bytes most batches → AreBatches bytes most others
      → FollowsRight limits running (batches ++ more) → FollowsRight limits running (others ++ more') → AreAlone (batches ++ more) → AreAlone (others ++ more')
      → health_of_steps batches ≡ Sound → health_of_steps others ≡ Sound → batches ≡ others

  behind_batch : (bytes most : ℕ) → Unique bytes most → (running : Running) (answer : Answer) (calls others more more' : List Call)
      → unless_refused answer (AreBatches bytes most) calls → unless_refused answer (AreBatches bytes most) others
      → FollowsRight limits running (calls ++ more) → FollowsRight limits running (others ++ more') → AreAlone (calls ++ more) → AreAlone (others ++ more')
      → health_of_steps calls ≡ Sound → health_of_steps others ≡ Sound → calls ≡ others
  behind_batch bytes most one running (flushed through commits) calls others more more' are are' f g alone alone' sound sound' =
      one running calls others more more' are are' f g alone alone' sound sound'
  behind_batch bytes most one running (all_flushed commits) calls others more more' are are' f g alone alone' sound sound' = are ∙ sym are'
  behind_batch bytes most one running (committed number) calls others more more' are are' f g alone alone' sound sound' = are ∙ sym are'
  behind_batch bytes most one running (refused why) calls others more more' are are' f g alone alone' sound sound' = are ∙ sym are'
  behind_batch bytes most one running (full end_) calls others more more' are are' f g alone alone' sound sound' = are ∙ sym are'
  behind_batch bytes most one running (passed step) calls others more more' are are' f g alone alone' sound sound' = are ∙ sym are'
  behind_batch bytes most one running (viewed view) calls others more more' are are' f g alone alone' sound sound' = are ∙ sym are'
  behind_batch bytes most one running (found number docs) calls others more more' are are' f g alone alone' sound sound' = are ∙ sym are'
  behind_batch bytes most one running (listed number listing) calls others more more' are are' f g alone alone' sound sound' = are ∙ sym are'
  behind_batch bytes most one running (measured size) calls others more more' are are' f g alone alone' sound sound' = are ∙ sym are'
  behind_batch bytes most one running (disk_fault faults) calls others more more' are are' f g alone alone' sound sound' = are ∙ sym are'
  behind_batch bytes most one running (stopped faults) calls others more more' are are' f g alone alone' sound sound' = are ∙ sym are'
  behind_batch bytes most one running no_memory calls others more more' are are' f g alone alone' sound sound' = are ∙ sym are'

  behind_size : (bytes most : ℕ) → Unique bytes most → (running : Running) (above : Bool) (calls others more more' : List Call)
      → if_above above (AreBatches bytes most) calls → if_above above (AreBatches bytes most) others
      → FollowsRight limits running (calls ++ more) → FollowsRight limits running (others ++ more') → AreAlone (calls ++ more) → AreAlone (others ++ more')
      → health_of_steps calls ≡ Sound → health_of_steps others ≡ Sound → calls ≡ others
  behind_size bytes most one running false calls others more more' are are' f g alone alone' sound sound' = are ∙ sym are'
  behind_size bytes most one running true [] others more more' are are' f g alone alone' sound sound' = absurd are
  behind_size bytes most one running true (call ∷ calls) [] more more' are are' f g alone alone' sound sound' = absurd are'
  behind_size bytes most one running true (call ∷ calls) (call' ∷ others) more more' are are' f g alone alone' sound sound' =
      let same = same_call running to_sync call call' are.0 are'.0 ((λ view is. is), (λ number docs is. is), (λ number listing is. is)) alone.0 alone'.0 f.0.0 g.0.0
      (sound_before (health_of_answer call.answer) (health_of_steps calls) sound) (sound_before (health_of_answer call'.answer) (health_of_steps others) sound') in
      let behind = behind_batch bytes most one (after_call running call) call.answer calls others more more' are.1
      (subst (λ (c : Call). unless_refused c.answer (AreBatches bytes most) others) (sym same) are'.1)
      f.1 (subst (λ (c : Call). FollowsRight limits (after_call running c) (others ++ more')) (sym same) g.1) alone.1 alone'.1
      (sound_behind (health_of_answer call.answer) (health_of_steps calls) sound) (sound_behind (health_of_answer call'.answer) (health_of_steps others) sound') in
      ap (λ (c : Call). c ∷ calls) same ∙ ap (λ (cs : List Call). call' ∷ cs) behind

  -- batches behind one reply, that met nothing, are the same
  one_batches : (bytes most : ℕ) → Unique bytes most
  one_batches bytes zero running batches others more more' are are' f g alone alone' sound sound' = are ∙ sym are'
  one_batches bytes (suc most) running [] others more more' are are' f g alone alone' sound sound' = absurd are
  one_batches bytes (suc most) running (call ∷ calls) [] more more' are are' f g alone alone' sound sound' = absurd are'
  one_batches bytes (suc most) running (call ∷ calls) (call' ∷ others) more more' (size, asks, told, are) (size', asks', told', are') f g alone alone' sound sound' =
      let same = same_call running to_measure call call' asks asks' ((λ view is. is), (λ number docs is. is), (λ number listing is. is)) alone.0 alone'.0 f.0.0 g.0.0
      (sound_before (health_of_answer call.answer) (health_of_steps calls) sound) (sound_before (health_of_answer call'.answer) (health_of_steps others) sound') in
      let sizes : size ≡ size' = (let e : measured size ≡ measured size' = sym told ∙ ap (λ (c : Call). c.answer) same ∙ told' in cc) in
      let behind = behind_size bytes most (one_batches bytes most) (after_call running call) (nat_lt bytes size) calls others more more' are
      (subst (λ (n : ℕ). if_above (nat_lt bytes n) (AreBatches bytes most) others) (sym sizes) are')
      f.1 (subst (λ (c : Call). FollowsRight limits (after_call running c) (others ++ more')) (sym same) g.1) alone.1 alone'.1
      (sound_behind (health_of_answer call.answer) (health_of_steps calls) sound) (sound_behind (health_of_answer call'.answer) (health_of_steps others) sound') in
      ap (λ (c : Call). c ∷ calls) same ∙ ap (λ (cs : List Call). call' ∷ cs) behind

  module _ (settings : Settings) where
    talk : (lines : List Line) (sessions last last' : List Met) (running : Running) (calls others : List Call) (replies told : List Reply) (met met' : Health)
        → Talks settings true sessions lines calls replies met last → Talks settings true sessions lines others told met' last'
        → AreAlone calls → AreAlone others → FollowsRight limits running calls → FollowsRight limits running others → met ≡ Sound → met' ≡ Sound
        → (calls ≡ others) × (texts_of replies ≡ texts_of told)
    talk [] sessions last last' running calls others replies told met met' talks talks' alone alone' follows follows' sound sound' =
        (talks.0 ∙ sym talks'.0, ap texts_of (talks.1 ∙ sym talks'.1))
    talk (line ∷ lines) sessions last last' running calls others replies told met met' talks talks' alone alone' follows follows' sound sound' =
        let follow = subst (λ (c : List Call). FollowsRight limits running c) talks.calls_are follows in
        let follow' = subst (λ (c : List Call). FollowsRight limits running c) talks'.calls_are follows' in
        let single = subst AreAlone talks.calls_are alone in
        let single' = subst AreAlone talks'.calls_are alone' in
        let well = sym talks.met_is ∙ sound in
        let well' = sym talks'.met_is ∙ sound' in
        let here_well = sound_before (worse (health_of talks.reply) (health_of_steps talks.batches)) talks.later well in
        let here_well' = sound_before (worse (health_of talks'.reply) (health_of_steps talks'.batches)) talks'.later well' in
        let same = one_line limits running settings line sessions talks.behind talks'.behind talks.here talks'.here (talks.batches ++ talks.more) (talks'.batches ++ talks'.more) talks.reply talks'.reply
        talks.says talks'.says follow follow' single single'
        (sound_calm talks.reply (sound_before (health_of talks.reply) (health_of_steps talks.batches) here_well))
        (sound_calm talks'.reply (sound_before (health_of talks'.reply) (health_of_steps talks'.batches) here_well')) in
        let mid = after_all running talks.here in
        let behind_line = right_behind limits running talks.here (talks.batches ++ talks.more) follow in
        let behind_line' = subst (λ (c : List Call). FollowsRight limits (after_all running c) (talks'.batches ++ talks'.more)) (sym same.0)
        (right_behind limits running talks'.here (talks'.batches ++ talks'.more) follow') in
        let alone_line = alone_behind talks.here (talks.batches ++ talks.more) single in
        let alone_line' = alone_behind talks'.here (talks'.batches ++ talks'.more) single' in
        let same_batches = one_batches settings.cache_bytes (most_behind true lines talks.reply) mid talks.batches talks'.batches talks.more talks'.more talks.are
        (subst (λ (r : Reply). AreBatches settings.cache_bytes (most_behind true lines r) talks'.batches) (sym same.1) talks'.are)
        behind_line behind_line' alone_line alone_line'
        (sound_behind (health_of talks.reply) (health_of_steps talks.batches) here_well)
        (sound_behind (health_of talks'.reply) (health_of_steps talks'.batches) here_well') in
        let behind = talk lines talks.behind last last' (after_all mid talks.batches) talks.more talks'.more talks.rest talks'.rest talks.later talks'.later talks.goes_on
        (subst (λ (s : List Met). Talks settings true s lines talks'.more talks'.rest talks'.later last') (sym same.2) talks'.goes_on)
        (alone_behind talks.batches talks.more alone_line) (alone_behind talks'.batches talks'.more alone_line')
        (right_behind limits mid talks.batches talks.more behind_line)
        (subst (λ (c : List Call). FollowsRight limits (after_all mid c) talks'.more) (sym same_batches) (right_behind limits mid talks'.batches talks'.more behind_line'))
        (sound_behind (worse (health_of talks.reply) (health_of_steps talks.batches)) talks.later well)
        (sound_behind (worse (health_of talks'.reply) (health_of_steps talks'.batches)) talks'.later well') in (
          talks.calls_are ∙ ap (λ (c : List Call). c ++ (talks.batches ++ talks.more)) same.0
              ∙ ap (λ (c : List Call). talks'.here ++ (c ++ talks.more)) same_batches ∙ ap (λ (c : List Call). talks'.here ++ (talks'.batches ++ c)) behind.0
              ∙ sym talks'.calls_are,
          ap texts_of talks.replies_are ∙ ap (λ (r : Reply). texts_of (r ∷ talks.rest)) same.1 ∙ ap (λ (t : List ℕ). text_of talks'.reply ++ t) behind.1
              ∙ ap texts_of (sym talks'.replies_are),
        )

-- lines, on one engine, make the same steps and have the same text
pub one_text : (limits : Limits) (start : Running) (lines : List Line) (calls others : List Call) (replies told : List Reply)
    → Converse limits start lines calls replies → Converse limits start lines others told → (calls ≡ others) × (texts_of replies ≡ texts_of told)
one_text limits start lines calls others replies told one other =
    talk limits start.state.settings lines [] one.sessions other.sessions start calls others replies told Sound Sound one.talks other.talks one.alone other.alone one.follows other.follows refl refl
