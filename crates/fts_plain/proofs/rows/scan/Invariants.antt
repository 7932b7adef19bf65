use Rattle.std.proofs.Common.{◌≡◌, ◌++◌, map, drop}
use Rattle.fts_types.specs.Rules.{rules_of}
use Rattle.fts_query.specs.View.{tree_of}
use Rattle.fts_meaning.specs.Scan.{scan}
use Rattle.fts_types.specs.Row.{row_of}
use Rattle.fts_plain.proofs.rows.scan.Given as goal

abbrev pub invariant-loop-row : goal.invariant-loop-row
invariant-loop-row l = l.ids.items ++ scan (rules_of l.settings) (map row_of (drop l.row-index l.rows)) (tree_of l.query) ≡ scan (rules_of l.settings) (map row_of l.rows) (tree_of l.query)
