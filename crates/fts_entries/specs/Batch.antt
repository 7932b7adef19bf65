-- The next batch of an index.
use Rattle.std.specs.Prelude.{◌≡◌, ◌≢◌, ℕ, ◌+◌, ◌<◌, nat_lt, if◌then◌else◌, max, List, [], ◌∷◌, ◌++◌, length, take}
use Rattle.std.specs.Prelude.{map, fold}
use Rattle.std.specs.BTreeSet.{insert_key}
use Rattle.std.specs.List.{All, flat_map}
use Rattle.std.specs.List.Sorted.{IsStrictlySortedBy}
use Rattle.std.specs.Map.{keys_of}
use Rattle.fts_words.specs.Indexed.{Rules, indexed_words, word_of}
use Rattle.fts_words.specs.Order.{byte_order}
use Rattle.fts_commits.specs.Turn.{Turn, births_of, deaths_of, rows_but}
use Rattle.fts_types.specs.Row.{Row}
use Rattle.fts_ilist.specs.Node.{nodes_for}
use Rattle.fts_ilist.specs.Packing.{packed}
use Rattle.fts_lists.specs.Ids.{with_ids}
use Rattle.fts_entries.specs.Entry.{Batch, IndexEntry, IndexState, sealed, unflushed, unflushed_through, flushed_deaths}
use Rattle.fts_entries.specs.Words.{rows_postings}

-- how many of the first commits have at most so many births together, where some were counted before
abbrev pub covered_within : ℕ → ℕ → List Turn → ℕ
covered_within limit born [] = 0
covered_within limit born (turn ∷ turns) =
    if nat_lt limit (born + length turn.births)
    then 0
    else 1 + covered_within limit (born + length turn.births) turns

-- how many commits a batch covers: as many as have at most `limit` births together, and at least one
abbrev pub covers : ℕ → List Turn → ℕ
covers limit turns = max 1 (covered_within limit 0 turns)

-- the largest id that these commits used, behind one that was used before
abbrev pub largest_after : ℕ → List Turn → ℕ
largest_after largest [] = largest
largest_after largest (turn ∷ turns) = largest_after turn.largest turns

-- the rows born in some commits that no commit has taken away
abbrev pub alive_of : List Turn → List Turn → List Row
alive_of turns covered = rows_but (deaths_of turns) (births_of covered)

-- a batch of a state covers the next commits that are not flushed. It has each word of the rows that were born in them
-- and are alive, with its documents packed into nodes
pub record IsBatch (rules : Rules) (limit : ℕ) (turns : List Turn) (s : IndexState) (through synced : ℕ) (batch : Batch)
    : Type 0 where
  pub some : s.flushed < length turns
  pub through_is : through ≡ s.flushed + covers limit (unflushed turns s)
  pub synced_is : synced ≡ largest_after 0 (take through turns)
  pub words : IsStrictlySortedBy byte_order (keys_of batch)
  pub filled : All (λ g. g.1 ≢ []) batch
  pub nodes : (word : List ℕ) → nodes_for word batch
      ≡ packed (rows_postings rules word (alive_of turns (unflushed_through through turns s)))

-- through which commit the next batch flushes
abbrev pub next_through : ℕ → List Turn → IndexState → ℕ
next_through limit turns s = s.flushed + covers limit (unflushed turns s)

-- the indexed words of a row, one after another
abbrev pub row_words : Rules → Row → List (List ℕ)
row_words rules row = map (word_of row.texts) (indexed_words rules row.texts)

-- the indexed words of rows, each once, in byte order
abbrev pub words_of : Rules → List Row → List (List ℕ)
words_of rules rows = fold (insert_key byte_order) [] (flat_map (row_words rules) rows)

-- each word of rows with its documents, packed into nodes
abbrev pub packed_words : Rules → List Row → Batch
packed_words rules rows = map (λ word. (word, packed (rows_postings rules word rows))) (words_of rules rows)

-- the next batch, as an entry
abbrev pub next_entry : Rules → ℕ → List Turn → IndexState → IndexEntry
next_entry rules limit turns s =
    let through = next_through limit turns s in
    sealed through (largest_after 0 (take through turns))
    (packed_words rules (alive_of turns (unflushed_through through turns s)))

-- the state behind the next batch: what it flushes stands in the tables, and of the ids that died in its commits those
-- that were flushed before them enter DELETED
abbrev pub after_batch : Rules → ℕ → List Turn → IndexState → IndexState
after_batch rules limit turns s =
    let through = next_through limit turns s in
    let covered = unflushed_through through turns s in
    record s {
      flushed = through;
      synced = largest_after 0 (take through turns);
      deleted = with_ids s.deleted (flushed_deaths s.synced covered);
      nodes = λ word. s.nodes word ++ packed (rows_postings rules word (alive_of turns covered));
    }
