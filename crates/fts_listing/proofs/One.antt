-- A view lists one thing.
use Rattle.std.proofs.Common.{◌≡◌, ℕ, List, [], refl, sym, ap, ◌∙◌}
use Rattle.fts_types.specs.declared.settings.Settings.{Settings}
use Rattle.fts_ids.proofs.Ascending.{same_ids}
use Rattle.fts_commits.specs.Turn.{Turn}
use Rattle.fts_ilist.specs.Node.{Docs}
use Rattle.fts_aux.specs.Words.{IsListing}
use Rattle.fts_entries.specs.Entry.{IndexState}
use Rattle.fts_entries.proofs.One.{Word, words_one}
use Rattle.fts_listing.specs.Listing.{IsListed}
use Rattle.fts_listing.specs.declared.kind.ListingKind.{ListingKind}
use Rattle.fts_listing.specs.declared.kind.ListingKind.TheVariants as kind
use Rattle.fts_listing.specs.declared.listing.Listing.{Listing}
use Rattle.fts_listing.specs.declared.listing.Listing.TheVariants as listing

-- a listing of all words is one list
pub listing_one : (nodes : List ℕ → List Docs) (prefix : List ℕ) (es fs : List Word) → IsListing nodes prefix es → IsListing nodes prefix fs → es ≡ fs
listing_one nodes prefix es fs is is' =
    words_one es fs (record { ascend = is.ascending; filled = is.filled })
    (record { ascend = is'.ascending; filled = is'.filled }) (λ q. is.exact q ∙ sym (is'.exact q))

module _ (settings : Settings) (turns : List Turn) (s : IndexState) where
  pub listed_one : (view : ListingKind) (a b : Listing) → IsListed settings turns s view a → IsListed settings turns s view b → a ≡ b
  listed_one kind.IndexTable (listing.Words a) (listing.Words b) h k = ap listing.Words (listing_one _ [] a b h k)
  listed_one kind.IndexTable (listing.Words a) (listing.Ids b) h k = absurd k
  listed_one kind.IndexTable (listing.Words a) (listing.Config b) h k = absurd k
  listed_one kind.IndexTable (listing.Words a) listing.Stopwords h k = absurd k
  listed_one kind.IndexTable (listing.Ids a) b h k = absurd h
  listed_one kind.IndexTable (listing.Config a) b h k = absurd h
  listed_one kind.IndexTable listing.Stopwords b h k = absurd h
  listed_one kind.IndexCache (listing.Words a) (listing.Words b) h k = ap listing.Words (listing_one _ [] a b h k)
  listed_one kind.IndexCache (listing.Words a) (listing.Ids b) h k = absurd k
  listed_one kind.IndexCache (listing.Words a) (listing.Config b) h k = absurd k
  listed_one kind.IndexCache (listing.Words a) listing.Stopwords h k = absurd k
  listed_one kind.IndexCache (listing.Ids a) b h k = absurd h
  listed_one kind.IndexCache (listing.Config a) b h k = absurd h
  listed_one kind.IndexCache listing.Stopwords b h k = absurd h
  listed_one kind.Deleted (listing.Ids a) (listing.Ids b) h k = ap listing.Ids (same_ids 0 0 a b h.ascend k.ascend (λ id. h.each id ∙ sym (k.each id)))
  listed_one kind.Deleted (listing.Ids a) (listing.Words b) h k = absurd k
  listed_one kind.Deleted (listing.Ids a) (listing.Config b) h k = absurd k
  listed_one kind.Deleted (listing.Ids a) listing.Stopwords h k = absurd k
  listed_one kind.Deleted (listing.Words a) b h k = absurd h
  listed_one kind.Deleted (listing.Config a) b h k = absurd h
  listed_one kind.Deleted listing.Stopwords b h k = absurd h
  listed_one kind.BeingDeleted (listing.Ids a) (listing.Ids b) h k = ap listing.Ids (h ∙ sym k)
  listed_one kind.BeingDeleted (listing.Ids a) (listing.Words b) h k = absurd k
  listed_one kind.BeingDeleted (listing.Ids a) (listing.Config b) h k = absurd k
  listed_one kind.BeingDeleted (listing.Ids a) listing.Stopwords h k = absurd k
  listed_one kind.BeingDeleted (listing.Words a) b h k = absurd h
  listed_one kind.BeingDeleted (listing.Config a) b h k = absurd h
  listed_one kind.BeingDeleted listing.Stopwords b h k = absurd h
  listed_one kind.Config (listing.Config a) (listing.Config b) h k = ap listing.Config (h ∙ sym k)
  listed_one kind.Config (listing.Config a) (listing.Words b) h k = absurd k
  listed_one kind.Config (listing.Config a) (listing.Ids b) h k = absurd k
  listed_one kind.Config (listing.Config a) listing.Stopwords h k = absurd k
  listed_one kind.Config (listing.Words a) b h k = absurd h
  listed_one kind.Config (listing.Ids a) b h k = absurd h
  listed_one kind.Config listing.Stopwords b h k = absurd h
  listed_one kind.DefaultStopword listing.Stopwords listing.Stopwords h k = refl
  listed_one kind.DefaultStopword listing.Stopwords (listing.Words b) h k = absurd k
  listed_one kind.DefaultStopword listing.Stopwords (listing.Ids b) h k = absurd k
  listed_one kind.DefaultStopword listing.Stopwords (listing.Config b) h k = absurd k
  listed_one kind.DefaultStopword (listing.Words a) b h k = absurd h
  listed_one kind.DefaultStopword (listing.Ids a) b h k = absurd h
  listed_one kind.DefaultStopword (listing.Config a) b h k = absurd h
