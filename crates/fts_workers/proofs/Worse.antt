-- What was met, and what replies tell of it.
use Rattle.std.proofs.Common.{◌≡◌, ◌⊎◌, refl, ap, sym, ◌∙◌, inl, inr}
use Rattle.fts_steps.specs.FaultCounts.{FaultCounts, CountsFaultOf}
use Rattle.fts_steps.proofs.FaultCounts.{counts_both, counts_told}
use Rattle.fts_schema.specs.declared.reply.Reply.{Reply}
use Rattle.fts_schema.specs.declared.reply.Reply.TheVariants as reply
use Rattle.fts_sessions.specs.Calm.{IsCalm}
use Rattle.fts_workers.specs.declared.health.Health.{Health}
use Rattle.fts_workers.specs.declared.health.Health.TheVariants.{Sound, Short, Failed}
use Rattle.fts_workers.specs.Health.{health_of, worse}

pub worse_sound : (a : Health) → worse a Sound ≡ a
worse_sound Sound = refl
worse_sound Short = refl
worse_sound Failed = refl

pub worse_more : (a b c : Health) → worse (worse a b) c ≡ worse a (worse b c)
worse_more Failed b c = refl
worse_more Sound b c = refl
worse_more Short Failed c = refl
worse_more Short Sound c = refl
worse_more Short Short Failed = refl
worse_more Short Short Short = refl
worse_more Short Short Sound = refl

-- the worse of two is a fault where one is
pub failed_before : (a b : Health) → a ≡ Failed → worse a b ≡ Failed
failed_before Sound b is = absurd cc
failed_before Short b is = absurd cc
failed_before Failed b is = refl

pub failed_now : (a b : Health) → b ≡ Failed → worse a b ≡ Failed
failed_now Sound b is = is
failed_now Short Sound is = absurd cc
failed_now Short Short is = absurd cc
failed_now Short Failed is = refl
failed_now Failed b is = refl

pub failed_in : (a b : Health) → worse a b ≡ Failed → (a ≡ Failed) ⊎ (b ≡ Failed)
failed_in Sound b is = inr is
failed_in Short Sound is = absurd cc
failed_in Short Short is = absurd cc
failed_in Short Failed is = inr refl
failed_in Failed b is = inl refl

-- the worse of two is sound where both are
pub sound_before : (a b : Health) → worse a b ≡ Sound → a ≡ Sound
sound_before Sound b is = refl
sound_before Short Sound is = absurd cc
sound_before Short Short is = absurd cc
sound_before Short Failed is = absurd cc
sound_before Failed b is = absurd cc

pub sound_behind : (a b : Health) → worse a b ≡ Sound → b ≡ Sound
sound_behind Sound b is = is
sound_behind Short Sound is = refl
sound_behind Short Short is = absurd cc
sound_behind Short Failed is = absurd cc
sound_behind Failed b is = absurd cc

-- the reply of a sound line is calm
pub sound_calm : (reply : Reply) → health_of reply ≡ Sound → IsCalm reply
sound_calm reply is = record {
  no_want = λ e. let no : ◌≡◌ {A = Health} Short Sound = sym (ap health_of e) ∙ is in cc;
  no_fault = λ e. let no : ◌≡◌ {A = Health} Failed Sound = sym (ap health_of e) ∙ is in cc;
}

-- the counts over two parts of a run
pub counted_more : (first next : Health) (old mid new : FaultCounts) → CountsFaultOf (first ≡ Failed) old mid → CountsFaultOf (next ≡ Failed) mid new
    → CountsFaultOf (worse first next ≡ Failed) old new
counted_more first next old mid new = counts_both _ _ _ old mid new (failed_in first next) (failed_before first next) (failed_now first next)

-- a reply is a fault's where its line met one
fault_met : (told : Reply) → health_of told ≡ Failed → told ≡ reply.DiskFault
fault_met reply.DiskFault is = refl
fault_met reply.NoMemory is = absurd cc
fault_met (reply.Committed number) is = absurd cc
fault_met (reply.CommittedAndBegun number) is = absurd cc
fault_met reply.Begun is = absurd cc
fault_met (reply.Buffered changes) is = absurd cc
fault_met reply.NothingToCommit is = absurd cc
fault_met (reply.RolledBack changes) is = absurd cc
fault_met (reply.TooManyChanges changes) is = absurd cc
fault_met (reply.Found number docs) is = absurd cc
fault_met (reply.Refused refusal) is = absurd cc
fault_met (reply.LogFull end_) is = absurd cc
fault_met reply.Nothing is = absurd cc
fault_met (reply.Syntax at_) is = absurd cc
fault_met (reply.NoSuchTable name) is = absurd cc
fault_met (reply.NoSuchColumn name) is = absurd cc
fault_met reply.WrongColumns is = absurd cc
fault_met (reply.QuerySyntax at_) is = absurd cc
fault_met (reply.QueryTooLong size) is = absurd cc
fault_met (reply.QueryTooDeep at_) is = absurd cc
fault_met reply.LineTooLong is = absurd cc
fault_met (reply.Stopped faults) is = absurd cc
fault_met (reply.Synced through) is = absurd cc
fault_met reply.NothingToOptimize is = absurd cc
fault_met (reply.Optimized words finished) is = absurd cc
fault_met (reply.Listed number listing) is = absurd cc

-- the counts of a line, by its reply
pub counted_reply : (told : Reply) (old new : FaultCounts) → CountsFaultOf (told ≡ reply.DiskFault) old new → CountsFaultOf (health_of told ≡ Failed) old new
counted_reply told old new = counts_told _ _ old new (fault_met told) (ap health_of)
