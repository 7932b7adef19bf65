use Rattle.fts_shared.proofs.Standing.{told_once}
use Rattle.fts_shared.proofs.laws.no_number_is_told_twice.Goals as goal

pub returns : goal.returns
returns c = told_once
