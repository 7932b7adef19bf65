use Rattle.std.proofs.Common.{length}
use Rattle.fts_types.specs.Rules.{rules_of}
use Rattle.fts_types.specs.Row.{row_of}
use Rattle.fts_index.proofs.Runs.{IsBuilding}
use Rattle.fts_index.proofs.document.document_words.Given as goal

abbrev pub invariant-loop-first : goal.invariant-loop-first
invariant-loop-first l = IsBuilding (rules_of l.settings) (row_of l.row) l.document l.rest

abbrev pub decreases-loop-first : goal.decreases-loop-first
decreases-loop-first l = length l.rest
