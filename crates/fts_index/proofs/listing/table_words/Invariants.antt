use Rattle.std.proofs.Common.{◌≡◌, map, take}
use Rattle.fts_aux.specs.Tables.{nodes}
use Rattle.fts_index.proofs.Listings.{listed_of}
use Rattle.fts_index.proofs.listing.table_words.Given as goal

abbrev pub invariant-loop-entry : goal.invariant-loop-entry
invariant-loop-entry l = l.words.items ≡ listed_of (nodes l.fn.tables) (map (λ e. e.0.now) (take l.entry-index l.entry-items))
