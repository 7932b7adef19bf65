use Rattle.fts_listing.proofs.One.{listed_one}
use Rattle.fts_listing.proofs.laws.a_view_lists_one_thing.Goals as goal

pub returns : goal.returns
returns c = listed_one
