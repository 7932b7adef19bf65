-- The entry that a planned batch is, and a planned step of OPTIMIZE.
use Rattle.std.specs.Prelude.{◌≡◌, ◌<◌, ◌^◌, ℕ, List}
use Rattle.fts_entries.specs.Entry.{IndexEntry, sealed}
use Rattle.fts_index.specs.declared.sync.SyncPlan.{SyncPlan}
use Rattle.fts_index.specs.declared.passing.PassPlan.{PassPlan}
use Rattle.fts_index.specs.Passing.{step_entry}
use Rattle.fts_ixcodec.specs.Payload.{entry_payload, FitsRecord}

abbrev pub batch_of : SyncPlan → IndexEntry
batch_of plan = sealed plan.through plan.synced plan.nodes.items

-- the payload is that of the batch, which a record of the log can hold
pub record IsFramed (plan : SyncPlan) (payload : List ℕ) : Type 0 where
  pub same : payload ≡ entry_payload (batch_of plan)
  pub fits : FitsRecord (batch_of plan)
  pub through : plan.through < 2 ^ 64
  pub synced : plan.synced < 2 ^ 64

-- the payload is that of the step, which a record of the log can hold
pub record IsFramedStep (plan : PassPlan) (payload : List ℕ) : Type 0 where
  pub same : payload ≡ entry_payload (step_entry plan)
  pub fits : FitsRecord (step_entry plan)
