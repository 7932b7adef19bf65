use Rattle.std.proofs.Common.{ℕ, ◌<◌, None, slice_index_or}
use Rattle.fts_commits.specs.Fits.{IsNewText}
use Rattle.fts_core.proofs.fits.are_new_texts.Given as goal

abbrev pub invariant-loop-place : goal.invariant-loop-place
invariant-loop-place l = (k : ℕ) → k < l.place → IsNewText (slice_index_or l.texts k None)
