use Rattle.fts_commits.specs.Fits.{IsText}
use Rattle.fts_engine_tests.proofs.tests.pears.Given as goal

abbrev pub invariant-loop-word : goal.invariant-loop-word
invariant-loop-word l = IsText l.text.items
