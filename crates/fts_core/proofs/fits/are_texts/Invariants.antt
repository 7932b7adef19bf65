use Rattle.std.proofs.Common.{ℕ, ◌<◌, [], slice_index_or}
use Rattle.fts_commits.specs.Fits.{IsText}
use Rattle.fts_core.proofs.fits.are_texts.Given as goal

abbrev pub invariant-loop-place : goal.invariant-loop-place
invariant-loop-place l = (k : ℕ) → k < l.place → IsText (slice_index_or l.texts k [])
