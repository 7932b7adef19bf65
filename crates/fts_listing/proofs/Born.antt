-- What the tables list was born.
use Rattle.std.proofs.Common.{ℕ, List, take, sym, subst}
use Rattle.std.specs.List.{All, Contains}
use Rattle.fts_types.specs.declared.settings.Settings.{Settings}
use Rattle.fts_types.specs.Row.{Row}
use Rattle.fts_types.specs.Rules.{rules_of}
use Rattle.fts_commits.specs.Turn.{Turn, births_of}
use Rattle.fts_ilist.specs.Node.{Docs}
use Rattle.fts_ilist.specs.Packing.{joined}
use Rattle.fts_aux.specs.Words.{nodes_at}
use Rattle.fts_entries.specs.Entry.{IndexState}
use Rattle.fts_entries.specs.Exact.{IsExact}
use Rattle.fts_entries.specs.Words.{rows_postings}
use Rattle.fts_listing.specs.Listing.{IsListed}
use Rattle.fts_listing.specs.declared.kind.ListingKind.TheVariants.{IndexTable}
use Rattle.fts_listing.specs.declared.listing.Listing.TheVariants.{Words}

pub listed_born : (settings : Settings) (rows : List Row) (turns : List Turn) (s : IndexState) (words : List (List ℕ × List Docs)) → IsExact (rules_of settings) rows turns s
    → IsListed settings turns s IndexTable (Words words) → (word : List ℕ)
    → All (Contains (rows_postings (rules_of settings) word (births_of (take s.flushed turns)))) (joined (nodes_at word words))
listed_born settings rows turns s words exact listed word =
    subst (λ (nodes : List Docs). All (Contains (rows_postings (rules_of settings) word (births_of (take s.flushed turns)))) (joined nodes)) (sym (listed.exact word)) (exact.tables word)
