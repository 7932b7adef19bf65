use Rattle.fts_listing.proofs.Born.{listed_born}
use Rattle.fts_listing.proofs.laws.tables_list_what_was_born.Goals as goal

pub returns : goal.returns
returns c = listed_born
