-- The steps of OPTIMIZE in an index.
use Rattle.std.specs.Prelude.{◌≡◌, ◌≢◌, ◌≤◌, true, [], length, Option, Some, None}
use Rattle.fts_aux.specs.Tables as tables
use Rattle.fts_ilist.specs.Node.{NodesAfter}
use Rattle.fts_lists.specs.State.{ids_of, room_of}
use Rattle.fts_lists.specs.declared.lists.DeleteList.TheVariants.{Deleted, BeingDeleted}
use Rattle.fts_entries.specs.Entry.{IndexEntry, IndexState, begun, worked, finished}
use Rattle.std.specs.List.{AllByRecursion}
use Rattle.fts_entries.specs.Pass.{IsPackedNode, IsStep, IsIdle}
use Rattle.fts_index.specs.declared.index.Index.{Index}
use Rattle.fts_index.specs.declared.passing.PassPlan.{PassPlan}
use Rattle.fts_index.specs.declared.passing.PassPlan.TheVariants.{Begin, Word, Finish}

-- a step of OPTIMIZE as an entry
abbrev pub step_entry : PassPlan → IndexEntry
step_entry Begin = begun
step_entry (Word word nodes) = worked word nodes.nodes
step_entry Finish = finished

-- the step can be installed without memory
abbrev pub FitsStep : Index → PassPlan → Type 0
FitsStep index Begin = length (ids_of Deleted index.lists) ≤ room_of BeingDeleted index.lists
FitsStep index (Word word nodes) = (index.lists.is_open ≡ true)
    × (tables.nodes index.tables word ≢ []) × NodesAfter 0 nodes.nodes
FitsStep index Finish = Unit {0}

abbrev pub FitsPlanned : Index → Option PassPlan → Type 0
FitsPlanned index None = Unit {0}
FitsPlanned index (Some plan) = FitsStep index plan

-- its nodes are such as packing makes
abbrev pub HasPackedNodes : PassPlan → Type 0
HasPackedNodes Begin = Unit {0}
HasPackedNodes (Word word nodes) = AllByRecursion IsPackedNode nodes.nodes
HasPackedNodes Finish = Unit {0}

abbrev pub ArePacked : Option PassPlan → Type 0
ArePacked None = Unit {0}
ArePacked (Some plan) = HasPackedNodes plan

-- the plan is the next step of OPTIMIZE; where there is none, it has nothing to do
abbrev pub PlansStep : IndexState → Option PassPlan → Type 0
PlansStep s None = IsIdle s
PlansStep s (Some plan) = IsStep s (step_entry plan)
