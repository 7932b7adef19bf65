-- How many sessions were met.
use Rattle.std.proofs.Common.{◌≡◌, ℕ, ◌+◌, Bool, true, false, List, [], ◌∷◌, length, refl, ap, sym, ◌∙◌, arith, Option, Some, None}
use Rattle.std.proofs.lemmas.Bool.{eqb-true, or_parts}
use Rattle.std.proofs.lemmas.List.{length-map}
use Rattle.std.specs.Prelude.{◌==◌, if◌then◌else◌}
use Rattle.fts_io.specs.Text.{Line}
use Rattle.fts_types.specs.declared.settings.Settings.{Settings}
use Rattle.fts_schema.specs.declared.reply.Reply.{Reply}
use Rattle.fts_steps.specs.Step.{Call}
use Rattle.fts_sessions.specs.Transaction.{Transaction}
use Rattle.fts_script.specs.Sessions.{IsOf, among, joined_by}
use Rattle.fts_top.specs.Sessions.{Met, met, is_met, leaving, SaysOf, Speaks, numbers_of}
use Rattle.fts_top.specs.Kept.{IsOneMore}

-- the sessions that a line leaves
numbers_leaving : (sessions : List Met) (number : ℕ) (transaction : Transaction) → numbers_of (leaving sessions number transaction) ≡ among (numbers_of sessions) number
numbers_leaving [] number transaction = refl
numbers_leaving (one ∷ sessions) number transaction = by_test (numbers_leaving sessions number transaction) (one.number == number) refl
  where
    by_test : numbers_of (leaving sessions number transaction) ≡ among (numbers_of sessions) number → (same : Bool) → (one.number == number) ≡ same
        → numbers_of (if same then met number transaction ∷ sessions else one ∷ leaving sessions number transaction)
        ≡ (if same then one.number ∷ numbers_of sessions else one.number ∷ among (numbers_of sessions) number)
    by_test more true is = ap (λ (n : ℕ). n ∷ numbers_of sessions) (sym (eqb-true one.number number is))
    by_test more false is = ap (λ (numbers : List ℕ). one.number ∷ numbers) more

said_of : (settings : Settings) (line : Line) (session : Option ℕ) (sessions left : List Met) (calls : List Call) (reply : Reply)
    → SaysOf settings line session sessions calls reply left → numbers_of left ≡ joined_by (numbers_of sessions) session
said_of settings line None sessions left calls reply says = ap numbers_of says.1
said_of settings line (Some number) sessions left calls reply says = ap numbers_of says.2 ∙ numbers_leaving sessions number says.0

-- a line that was executed is of one of the sessions behind it
pub spoken_of : (settings : Settings) (line : Line) (sessions left : List Met) (calls : List Call) (reply : Reply) → Speaks settings line sessions calls reply left
    → (session : Option ℕ) × IsOf line session × (numbers_of left ≡ joined_by (numbers_of sessions) session)
spoken_of settings line sessions left calls reply (session, of, says) = (session, of, said_of settings line session sessions left calls reply says)

-- a session that was not met is one more
one_more : (sessions : List Met) (number : ℕ) → is_met sessions number ≡ false → length (among (numbers_of sessions) number) ≡ length sessions + 1
one_more [] number none = refl
one_more (one ∷ sessions) number none =
    let parts = or_parts (one.number == number) (is_met sessions number) none in
    ap (λ (b : Bool). length (if b then one.number ∷ numbers_of sessions else one.number ∷ among (numbers_of sessions) number)) parts.0
    ∙ (let more = one_more sessions number parts.1 in omega (arith, more))

pub one_more_is : (sessions : List Met) (number : ℕ) → IsOneMore sessions number → length (among (numbers_of sessions) number) ≡ 17
one_more_is sessions number is = let count = one_more sessions number is.unmet in let many = is.many in omega (arith, count, many)

pub numbers_count : (sessions : List Met) → length (numbers_of sessions) ≡ length sessions
numbers_count sessions = length-map sessions (λ (one : Met). one.number)
