use Rattle.std.proofs.Common.{ℕ, subst, arith}
use Rattle.fts_rowcodec.proofs.Sizes.{commit_size}
use Rattle.fts_engine.specs.Unframed.{IsUnframed}
use Rattle.fts_engine.proofs.Framing.{front_within}
use Rattle.fts_engine.proofs.engine.framed_commit.Goals as goal

pub commit_size-requires : goal.commit_size-requires
commit_size-requires g c = commit_size c.requires.0 c.args.changes.now c.requires.1 c.requires.2

pub around-requires-clause-fits : goal.around-requires-clause-fits
around-requires-clause-fits g c =
    front_within c.in-Ok.bytes.len _ _ (omega (arith, c.in-Ok.ensures.fits, c.in-Ok.ensures.room))

pub returns-in-Err-clause-unframed : goal.returns-in-Err-clause-unframed
returns-in-Err-clause-unframed g c =
    subst (λ (size : ℕ). IsUnframed c.args.log.now size c.in-Err.error) c.commit_size.ensures c.in-Err.ensures.unframed
