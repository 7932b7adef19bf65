use Rattle.fts_meaning.proofs.Candidates.{candidate, no_texts}
use Rattle.fts_meaning.proofs.laws.candidates_are_enough.Goals as goal

pub returns-clause-candidates : goal.returns-clause-candidates
returns-clause-candidates c = candidate

pub returns-clause-texts : goal.returns-clause-texts
returns-clause-texts c = no_texts
