use Rattle.fts_shared.proofs.Histories.{stands_first}
use Rattle.fts_shared.proofs.ends.seated.Goals as goal

pub make-requires-clause-begins : goal.make-requires-clause-begins
make-requires-clause-begins g c = stands_first _
