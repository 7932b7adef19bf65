use Rattle.fts_shared.proofs.Finding.{added_by}
use Rattle.fts_shared.proofs.laws.entries_have_their_steps.Goals as goal

pub returns : goal.returns
returns c = added_by
