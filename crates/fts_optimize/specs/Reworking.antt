-- How far the rework of a word has come.
use Rattle.std.specs.Prelude.{◌≡◌, ℕ, ◌<◌, ◌≤◌, List, ◌++◌}
use Rattle.fts_ids.specs.Ids.{has}
use Rattle.fts_ilist.specs.Spelling.{Posting, PostingsAfter, ArePostings, last_id}
use Rattle.fts_ilist.specs.Changes.{postings_without}
use Rattle.fts_ilist.specs.Node.{Docs, NodesAfter}
use Rattle.fts_ilist.specs.Packing.{joined}

-- what the one list says of ids above a bound, the other says too
abbrev pub AgreeAbove : ℕ → List ℕ → List ℕ → Type 0
AgreeAbove low ids others = (id : ℕ) → low < id → has ids id ≡ has others id

-- behind those that were there, the documents of a node that stay were put, and these are left; a walk over the ids
-- that are taken out still has those above a bound
pub record IsKeeping (being walk : List ℕ) (before all done rest : List Posting) : Type 0 where
  pub same : done ++ postings_without being rest ≡ before ++ postings_without being all
  pub low : ℕ
  pub below : last_id done ≤ low
  pub after : PostingsAfter low rest
  pub agree : AgreeAbove low walk being

-- the documents of some nodes that stay were put, and these nodes are left
pub record IsReworking (being : List ℕ) (all : List Docs) (done : List Posting) (rest : List Docs) : Type 0 where
  pub same : done ++ postings_without being (joined rest) ≡ postings_without being (joined all)
  pub are : ArePostings done
  pub low : ℕ
  pub below : last_id done ≤ low
  pub after : NodesAfter low rest
