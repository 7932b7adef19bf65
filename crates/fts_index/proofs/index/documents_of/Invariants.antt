use Rattle.std.proofs.Common.{map, take}
use Rattle.fts_types.specs.Rules.{rules_of}
use Rattle.fts_types.specs.Row.{row_of}
use Rattle.fts_index.specs.Document.{HaveWordsOf}
use Rattle.fts_index.proofs.index.documents_of.Given as goal

abbrev pub invariant-loop-birth : goal.invariant-loop-birth
invariant-loop-birth l = HaveWordsOf (rules_of l.settings) (map row_of (take l.birth-index l.births)) l.documents.items
