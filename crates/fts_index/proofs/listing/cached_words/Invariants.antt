use Rattle.std.proofs.Common.{◌≡◌, map, take}
use Rattle.fts_cache.specs.Cache.{postings_of}
use Rattle.fts_listing.specs.Listing.{one_group}
use Rattle.fts_index.proofs.Listings.{listed_of}
use Rattle.fts_index.proofs.listing.cached_words.Given as goal

abbrev pub invariant-loop-word : goal.invariant-loop-word
invariant-loop-word l = l.words.items ≡ listed_of (λ w. one_group (postings_of l.fn.cache w)) (map (λ w. w.now) (take l.word-index l.word-items))
