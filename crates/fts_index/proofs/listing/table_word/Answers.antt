use Rattle.fts_index.proofs.Listings.{nodes_filled}
use Rattle.fts_index.proofs.listing.table_word.Goals as goal

pub copied_nodes-requires : goal.copied_nodes-requires
copied_nodes-requires c = nodes_filled 0 c.nodes_of.result c.nodes_of.ensures.ascending
