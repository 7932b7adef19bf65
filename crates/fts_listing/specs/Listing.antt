-- What the views of an index list.
use Rattle.std.specs.Prelude.{◌≡◌, ℕ, List, [], ◌∷◌}
use Rattle.fts_ids.specs.Ids.{has, Ascend}
use Rattle.fts_types.specs.declared.settings.Settings.{Settings}
use Rattle.fts_types.specs.Rules.{rules_of}
use Rattle.fts_commits.specs.Turn.{Turn, births_of}
use Rattle.fts_ilist.specs.Spelling.{Posting}
use Rattle.fts_ilist.specs.Node.{Docs}
use Rattle.fts_aux.specs.Words.{IsListing}
use Rattle.fts_entries.specs.Entry.{IndexState, unflushed}
use Rattle.fts_entries.specs.Exact.{is_deleted}
use Rattle.fts_entries.specs.Words.{rows_postings}
use Rattle.fts_listing.specs.declared.kind.ListingKind.{ListingKind}
use Rattle.fts_listing.specs.declared.kind.ListingKind.TheVariants as kind
use Rattle.fts_listing.specs.declared.listing.Config.{Config}
use Rattle.fts_listing.specs.declared.listing.Listing.{Listing}
use Rattle.fts_listing.specs.declared.listing.Listing.TheVariants as listing

-- the documents of a word as one group, none where there is no document
abbrev pub one_group : List Posting → List Docs
one_group [] = []
one_group (p ∷ ps) = (p ∷ ps) ∷ []

-- what the cache has of a word: the documents born in the commits that are not flushed
abbrev pub cached_group : Settings → List Turn → IndexState → List ℕ → List Docs
cached_group settings turns s word = one_group (rows_postings (rules_of settings) word (births_of (unflushed turns s)))

-- the settings and numbers of an index that INNODB_FT_CONFIG tells
abbrev pub config_of : Settings → IndexState → Config
config_of settings s = record {
  min = settings.min;
  max = settings.max;
  stopword = settings.stopword;
  flushed = s.flushed;
  synced = s.synced;
  checkpoint = s.checkpoint;
}

-- the ids that are in DELETED or died in a commit that is not flushed, ascending
pub record AreDeleted (turns : List Turn) (s : IndexState) (ids : List ℕ) : Type 0 where
  pub ascend : Ascend ids
  pub each : (id : ℕ) → has ids id ≡ is_deleted turns s id

-- what a view lists: of tables or cache each word once, in byte order, with its documents; the dead that the index has
-- still; the ids of the open pass; the numbers of an index; or the default stopwords
abbrev pub IsListed : Settings → List Turn → IndexState → ListingKind → Listing → Type 0
IsListed settings turns s kind.IndexTable (listing.Words words) = IsListing s.nodes [] words
IsListed settings turns s kind.IndexCache (listing.Words words) = IsListing (cached_group settings turns s) [] words
IsListed settings turns s kind.Deleted (listing.Ids ids) = AreDeleted turns s ids
IsListed settings turns s kind.BeingDeleted (listing.Ids ids) = ids ≡ s.being_deleted
IsListed settings turns s kind.Config (listing.Config config) = config ≡ config_of settings s
IsListed settings turns s kind.DefaultStopword listing.Stopwords = Unit {0}
IsListed settings turns s view other = ⊥
