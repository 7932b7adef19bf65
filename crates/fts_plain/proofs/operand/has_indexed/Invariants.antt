use Rattle.std.proofs.Common.{length}
use Rattle.fts_types.specs.Rules.{rules_of}
use Rattle.fts_token.specs.Left.{indexed_words_left}
use Rattle.fts_plain.proofs.Indexing.{IsSought}
use Rattle.fts_plain.proofs.operand.has_indexed.Given as goal

abbrev pub invariant-loop-found : goal.invariant-loop-found
invariant-loop-found l = IsSought (rules_of l.settings) l.columns l.is_prefix l.word (indexed_words_left l.rest)

abbrev pub decreases-loop-found : goal.decreases-loop-found
decreases-loop-found l = length (indexed_words_left l.rest)
