-- The entry of a batch of rows' words can be written.
use Rattle.std.proofs.Common.{◌≡◌, ◌≢◌, ℕ, ◌-◌, ◌<◌, ◌^◌, List, [], ◌++◌, length, length-append, take, sym, ap, subst, ◌∙◌, arith}
use Rattle.std.specs.Prelude.{All, fold}
use Rattle.std.specs.List.{flat_map}
use Rattle.std.specs.List.Sorted.{IsStrictlySortedBy}
use Rattle.std.specs.Map.{keys_of}
use Rattle.std.specs.Int.{w32, w64, to_be_bytes}
use Rattle.std.proofs.lemmas.List.Elements.{All-from_recursion}
use Rattle.fts_codec.proofs.Puts.{piece_short}
use Rattle.fts_words.specs.Indexed.{Rules}
use Rattle.fts_words.specs.Order.{byte_order}
use Rattle.fts_types.specs.Row.{Row}
use Rattle.fts_commits.specs.Commit.{no_rows}
use Rattle.fts_commits.specs.Turn.{Turn, RowsAscend, AreTurns, rows_by}
use Rattle.fts_ilist.specs.Node.{Docs, NodesAfter, nodes_for}
use Rattle.fts_ilist.specs.Packing.{packed}
use Rattle.fts_entries.specs.Entry.{Batch, IndexState, sealed, unflushed_through}
use Rattle.fts_entries.specs.Batch.{IsBatch, alive_of, largest_after}
use Rattle.fts_entries.specs.Words.{rows_postings}
use Rattle.fts_entries.specs.Rows.{CanIndex}
use Rattle.fts_entries.proofs.Packing.{packed_ascend, nodes_lower}
use Rattle.fts_entries.proofs.Postings.{rows_after}
use Rattle.fts_entries.proofs.Alive.{alive_ascend, alive_among}
use Rattle.fts_entries.proofs.Groups.{own_nodes}
use Rattle.fts_entries.proofs.Spelled.{spelled_lower, rows_spelled, packed_each, of_word}
use Rattle.fts_entries.specs.Pass.{IsPackedNode}
use Rattle.fts_ixcodec.specs.Payload.{node_payload, nodes_payload, node_count, IsWord, IsNode, IsGroup, IsEntry, FitsRecord}
use Rattle.fts_ixcodec.proofs.Walks.{node_length, count_within}
use Rattle.fts_ixcodec.proofs.Forms.{indexed_is_word}

-- the nodes' payload is a part of the entry's
nodes_short : (through synced : ℕ) (batch : Batch) → FitsRecord (sealed through synced batch) → length (flat_map nodes_payload batch) < 2 ^ 32
nodes_short through synced batch fits =
    let nodes = flat_map nodes_payload batch in
    let counted = to_be_bytes w32 (node_count batch) ++ nodes in
    let marked = to_be_bytes w64 synced ++ counted in
    omega (
      arith,
      fits.short,
      length-append (to_be_bytes w64 through) marked,
      length-append (to_be_bytes w64 synced) counted,
      length-append (to_be_bytes w32 (node_count batch)) nodes,
    )

module _ (rules : Rules) (rows : List Row) (low high : ℕ) (ids : RowsAscend low high rows) (can : All CanIndex rows) where
  node_is : (word : List ℕ) (docs : Docs) → IsPackedNode docs → length (node_payload word docs) < 2 ^ 32 → IsNode docs
  node_is word docs is short = record { are = is.are; sound = is.sound; fits = omega (arith, short, node_length word docs) }

  group_is : (word : List ℕ) (nodes : List Docs) → nodes ≡ packed (rows_postings rules word rows) → nodes ≢ [] → length (nodes_payload (word, nodes)) < 2 ^ 32 → IsGroup rules (word, nodes)
  group_is word nodes is some short =
      let ps = rows_postings rules word rows in
      let each : All IsPackedNode nodes =
      subst (All IsPackedNode) (sym is) (All-from_recursion IsPackedNode (packed ps) (packed_each ps (spelled_lower 0 low ps (omega arith) (rows_spelled rules word low high rows ids can)))) in
      record {
        word = of_word rules word (IsWord rules) (indexed_is_word rules) rows (λ none. some (is ∙ ap packed none));
        some = some;
        nodes = record {
          ascend = subst (NodesAfter 0) (sym is) (nodes_lower 0 low (packed ps) (omega arith) (packed_ascend low ps (rows_after rules word low high rows ids)));
          each = λ k d less. node_is word _ (each k d less) (piece_short (node_payload word) nodes k d (2 ^ 32) less short);
        };
      }

  pub batch_is_entry : (through synced : ℕ) (batch : Batch) → IsStrictlySortedBy byte_order (keys_of batch) → All (λ g. g.1 ≢ []) batch
      → ((word : List ℕ) → nodes_for word batch ≡ packed (rows_postings rules word rows)) → through < 2 ^ 64 → synced < 2 ^ 64
      → FitsRecord (sealed through synced batch) → IsEntry rules (sealed through synced batch)
  batch_is_entry through synced batch up filled nodes through_fits synced_fits fits =
      let short = nodes_short through synced batch fits in
      let own = All-from_recursion (λ g. g.1 ≡ packed (rows_postings rules g.0 rows)) batch (own_nodes (λ word ns. ns ≡ packed (rows_postings rules word rows)) batch up nodes) in
      let few : node_count batch < 2 ^ 32 = omega (arith, count_within batch, short) in (
        through_fits,
        synced_fits,
        few,
        record {
          ascend = up;
          each = λ k d less. group_is _ _ (own k d less) (filled k d less) (piece_short nodes_payload batch k d (2 ^ 32) less short);
        },
      )

-- so can that of the next batch of an index, whose rows can be indexed
pub next_is_entry : (rules : Rules) (limit : ℕ) (turns : List Turn) (s : IndexState) (through synced : ℕ) (batch : Batch) → IsBatch rules limit turns s through synced batch
    → AreTurns 0 turns → All CanIndex (fold rows_by no_rows turns).list → through < 2 ^ 64 → synced < 2 ^ 64
    → FitsRecord (sealed through synced batch) → IsEntry rules (sealed through synced batch)
next_is_entry rules limit turns s through synced batch is are can =
    let covered = unflushed_through through turns s in
    let low = largest_after 0 (take s.flushed turns) in
    batch_is_entry rules (alive_of turns covered) low (largest_after low covered)
    (alive_ascend turns s.flushed (through - s.flushed) are) (alive_among turns s.flushed (through - s.flushed) CanIndex can)
    through synced batch is.words is.filled is.nodes
