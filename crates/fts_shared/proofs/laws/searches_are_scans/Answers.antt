use Rattle.fts_shared.proofs.Standing.{is_scan}
use Rattle.fts_shared.proofs.laws.searches_are_scans.Goals as goal

pub returns : goal.returns
returns c = is_scan
