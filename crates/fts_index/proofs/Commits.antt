-- What an index stands for where nothing changes but room, and behind a commit.
use Rattle.std.proofs.Common.{◌≡◌, ℕ, Bool, ◌||◌, List, [], ◌∷◌, ◌++◌, map, append-nil, sym, ap, ap₂, ◌∙◌, arith, nat_eq}
use Rattle.std.proofs.lemmas.Grind.{flat_map-append}
use Rattle.std.proofs.lemmas.List.{map-append, drop-append-le, length-append}
use Rattle.std.proofs.lemmas.List.Folds.{list_any-append}
use Rattle.fts_words.specs.Indexed.{Rules}
use Rattle.fts_types.specs.Row.{Row}
use Rattle.fts_ids.specs.Ids.{has}
use Rattle.fts_lists.specs.State.{State, ids_of}
use Rattle.fts_lists.specs.declared.lists.DeleteList.TheVariants.{Deleted, BeingDeleted, DeletedCache}
use Rattle.fts_lists.proofs.Merging.{has-with_ids}
use Rattle.fts_ilist.specs.Spelling.{Posting}
use Rattle.fts_cache.specs.Cache.{CachedDocument}
use Rattle.fts_commits.specs.Turn.{Turn, births_of, deaths_of}
use Rattle.fts_entries.specs.Entry.{IndexState, unflushed}
use Rattle.fts_entries.specs.Batch.{largest_after}
use Rattle.fts_entries.specs.Words.{row_postings, rows_postings}
use Rattle.fts_entries.proofs.Turns.{largest_behind}
use Rattle.fts_index.specs.declared.index.Index.{Index}
use Rattle.fts_index.specs.declared.index.CommitPlan.{CommitPlan}
use Rattle.fts_index.specs.Index.{WillTurn, CanTurn, PendingSeen, pending_seen, pending_of, cached_row, Represents}
use Rattle.fts_index.specs.Parts.{HasSame, IsCommitted}
use Rattle.fts_index.proofs.Births.{documents_end, same_postings, same_documents}

-- an index with the same stands for the same
pub stands_still : (old new : Index) → HasSame old new → (rules : Rules) (turns : List Turn) (s : IndexState) → Represents rules turns s old → Represents rules turns s new
stands_still old new same rules turns s stands = record {
  within = stands.within;
  tables = λ word. same.nodes word ∙ stands.tables word;
  flushed = same.flushed ∙ stands.flushed;
  synced = same.synced ∙ stands.synced;
  deleted = same.deleted ∙ stands.deleted;
  being = same.being ∙ stands.being;
  is_open = same.is_open ∙ stands.is_open;
  checkpoint = same.checkpoint ∙ stands.checkpoint;
  dead = λ id. ap (λ (ids : List ℕ). has ids id) same.dead ∙ stands.dead id;
  cache = λ word. same.cache.postings word ∙ stands.cache word;
  documents = same.cache.documents ∙ stands.documents;
  pending = ap (map pending_seen) same.pending ∙ stands.pending;
  last = (let e = same.cache.last in let le = stands.last in omega (arith, e, le));
}

module _ (rules : Rules) (turns : List Turn) (s : IndexState) (turn : Turn) (old : Index) (plan : CommitPlan) (new : Index)
    (is : IsCommitted old plan new) (stands : Represents rules turns s old) (will : WillTurn rules turn old plan) (can : CanTurn turns turn) where
  abbrev then : List Turn
  then = unflushed turns s

  now_is : unflushed (turns ++ turn ∷ []) s ≡ then ++ turn ∷ []
  now_is = drop-append-le s.flushed turns (turn ∷ []) stands.within

  births_are : births_of (unflushed (turns ++ turn ∷ []) s) ≡ births_of then ++ turn.births
  births_are =
      ap births_of now_is ∙ flat_map-append (λ (t : Turn). t.births) then (turn ∷ []) ∙ ap (λ (rows : List Row). births_of then ++ rows) (append-nil turn.births)

  deaths_are : deaths_of (unflushed (turns ++ turn ∷ []) s) ≡ deaths_of then ++ turn.deaths
  deaths_are =
      ap deaths_of now_is ∙ flat_map-append (λ (t : Turn). t.deaths) then (turn ∷ []) ∙ ap (λ (ids : List ℕ). deaths_of then ++ ids) (append-nil turn.deaths)

  died : plan.pending.deaths.items ≡ turn.deaths
  died = ap (λ (p : PendingSeen). p.deaths) will.pending

  -- the index stands for one commit more
  pub stands_more : Represents rules (turns ++ turn ∷ []) s new
  stands_more = record {
    within = (let le = stands.within in let long = length-append turns (turn ∷ []) in omega (arith, le, long));
    tables = λ word. is.nodes word ∙ stands.tables word;
    flushed = ap (λ (t : State). t.flushed) is.others ∙ stands.flushed;
    synced = ap (λ (t : State). t.synced) is.others ∙ stands.synced;
    deleted = ap (ids_of Deleted) is.others ∙ stands.deleted;
    being = ap (ids_of BeingDeleted) is.others ∙ stands.being;
    is_open = ap (λ (t : State). t.is_open) is.others ∙ stands.is_open;
    checkpoint = ap (λ (t : State). t.checkpoint) is.others ∙ stands.checkpoint;
    dead = λ id. ap (λ (ids : List ℕ). has ids id) is.dead
        ∙ has-with_ids (ids_of DeletedCache old.lists) plan.pending.deaths.items id
        ∙ ap₂ (λ (b : Bool) (ids : List ℕ). b || has ids id) (stands.dead id) died
        ∙ sym (list_any-append (nat_eq id) (deaths_of then) turn.deaths)
        ∙ ap (λ (ids : List ℕ). has ids id) (sym deaths_are);
    cache = λ word. is.cache.postings word
        ∙ ap₂ (λ (ps qs : List Posting). ps ++ qs) (stands.cache word) (same_postings rules word turn.births plan.documents.items will.words)
        ∙ sym (flat_map-append (row_postings rules word) (births_of then) turn.births)
        ∙ ap (rows_postings rules word) (sym births_are);
    documents = is.cache.documents
        ∙ ap₂ (λ (ds es : List CachedDocument). ds ++ es) stands.documents (same_documents rules turn.births plan.documents.items will.words)
        ∙ sym (map-append (cached_row rules) (births_of then) turn.births)
        ∙ ap (map (cached_row rules)) (sym births_are);
    pending = ap (map pending_seen) is.pending
        ∙ map-append pending_seen old.pending.items (plan.pending ∷ [])
        ∙ ap₂ (λ (ps : List PendingSeen) (p : PendingSeen). ps ++ p ∷ []) stands.pending will.pending
        ∙ sym (map-append pending_of then (turn ∷ []))
        ∙ ap (map pending_of) (sym now_is);
    last = (let end = is.cache.last in
        let limit = documents_end rules old.cache.last (largest_after 0 turns) turn.largest turn.births plan.documents.items stands.last can.ids will.words in
        let largest = largest_behind 0 turns (turn ∷ []) in omega (arith, end, limit, largest));
  }
