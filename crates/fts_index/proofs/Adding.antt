-- Documents that are added to a cache one after another.
use Rattle.std.proofs.Common.{◌≡◌, ℕ, List, [], ◌++◌, map, sym, ap, ◌∙◌}
use Rattle.std.specs.List.{flat_map}
use Rattle.std.proofs.lemmas.List.{append-nil}
use Rattle.fts_cache.specs.Document.{Document, document_postings}
use Rattle.fts_cache.specs.Cache.{CacheState, cached, postings_of, HasRoom}
use Rattle.fts_index.specs.Index.{IdsAscendFrom}
use Rattle.fts_index.specs.Parts.{last_after, AddsDocuments}

-- from a cache some documents were added, and these are left
pub record IsAdding (old : CacheState) (all : List Document) (now : CacheState) (left : List Document) : Type 0 where
  pub ids : IdsAscendFrom now.last left
  pub room : HasRoom now left
  pub documents : now.documents ++ map cached left ≡ old.documents ++ map cached all
  pub postings : (w : List ℕ) → postings_of now w ++ flat_map (document_postings w) left ≡ postings_of old w ++ flat_map (document_postings w) all
  pub last : last_after now.last left ≡ last_after old.last all

-- where none is left, all were
pub all_added : (old new : CacheState) (all left : List Document) → left ≡ [] → IsAdding old all new left → AddsDocuments old all new
all_added old new all left none h = record {
  documents = sym (append-nil new.documents) ∙ ap (λ (ds : List Document). new.documents ++ map cached ds) (sym none) ∙ h.documents;
  postings = λ w. sym (append-nil (postings_of new w)) ∙ ap (λ (ds : List Document). postings_of new w ++ flat_map (document_postings w) ds) (sym none) ∙ h.postings w;
  last = ap (last_after new.last) (sym none) ∙ h.last;
}
