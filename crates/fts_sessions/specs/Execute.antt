use Rattle.std.specs.Prelude.{◌≡◌, ◌⊎◌, ℕ, List, [], None, codes}
use Rattle.fts_io.specs.Text.{Line}
use Rattle.fts_types.specs.declared.settings.Settings.{Settings}
use Rattle.fts_schema.specs.declared.reply.Reply.{Reply}
use Rattle.fts_schema.specs.declared.reply.Reply.TheVariants.{NoMemory, DiskFault}
use Rattle.fts_steps.specs.FaultCounts.{CountsFaultOf}
use Rattle.fts_steps.specs.Step.{Ask, Answer, Call, Sight, Steps, AreMade}
use Rattle.fts_sessions.specs.Query.{Search, IsSearch}
use Rattle.fts_sessions.specs.Request.{Request, IsRequest, optimizes}
use Rattle.fts_sessions.specs.Transaction.{Transaction}
use Rattle.fts_sessions.specs.Conversation.{Next, asks, ends, Converses, reply_to, match_begins, search_begins, behind}

-- the line's steps, its reply and the transaction that it leaves are those of the request that it is; or memory ran out
-- before the first step, and the transaction is as it was
abbrev pub Says : Settings → Line → Transaction → List Call → Reply → Transaction → Type 0
Says settings line transaction calls reply left =
    ((request : Request) × IsRequest line request × Converses settings transaction request [] calls reply
    × (left ≡ behind settings transaction request reply))
    ⊎ ((calls ≡ []) × (reply ≡ NoMemory) × (left ≡ transaction))

-- steps are made, one after another, and then a reply is given, of which `Told` says what they are. A fault is counted
-- exactly where the reply tells it
pub record Proceeds {S : Type 0} (sight : Sight S) (Told : List Call → Reply → Type 0) (old : S) (reply : Reply)
    (new : S) : Type 0 where
  pub calls : List Call
  pub says : Told calls reply
  pub made : AreMade sight calls old new
  pub faults : CountsFaultOf (reply ≡ DiskFault) (sight.faults old) (sight.faults new)

-- a line is executed in a session in which this transaction is open: its steps are made, its reply is given, and that
-- transaction is left
abbrev pub Executes : {S : Type 0} → Sight S → Line → Transaction → S → Reply → Transaction → S → Type 0
Executes sight line transaction old reply left new =
    Proceeds sight (λ calls told. Says (sight.settings old) line transaction calls told left) old reply new

-- a request goes on behind these answers: the steps that are left are made, and its reply is given
abbrev pub GoesOn : {S : Type 0} → Sight S → Settings → Transaction → Request → List Answer → S → Reply → S → Type 0
GoesOn sight settings transaction request answers old reply new =
    Proceeds sight (Converses settings transaction request answers) old reply new

-- an OPTIMIZE of the documents is done, where no transaction is open
abbrev pub Optimizes : {S : Type 0} → Sight S → S → Reply → S → Type 0
Optimizes sight old reply new = GoesOn sight (sight.settings old) None (optimizes (codes "docs")) [] old reply new

-- one step is made: its answer, and the reply that tells it
pub record Makes {S : Type 0} (sight : Sight S) (ask : Ask) (old : S) (reply : Reply) (new : S) : Type 0 where
  pub answer : Answer
  pub made : Steps sight ask answer old new
  pub told : reply_to answer ≡ reply

-- a request of one step at most is done: it makes its step, or ends without one; or memory ran out before
abbrev pub Does : {S : Type 0} → Sight S → Next → S → Reply → S → Type 0
Does sight (asks ask) old reply new = Makes sight ask old reply new ⊎ ((reply ≡ NoMemory) × (new ≡ old))
Does sight (ends told) old reply new = ((reply ≡ told) ⊎ (reply ≡ NoMemory)) × (new ≡ old)

-- a search is done: it is done as what its query's text asks for; or memory ran out before
abbrev pub Searches : {S : Type 0} → Sight S → List ℕ → List (List ℕ) → List ℕ → S → Reply → S → Type 0
Searches sight table names query old reply new =
    ((search : Search) × IsSearch query search
    × Does sight (match_begins (sight.settings old) table names (search_begins search)) old reply new)
    ⊎ ((reply ≡ NoMemory) × (new ≡ old))
