use Rattle.std.proofs.Common.{List, ℕ, map, ap, arith}
use Rattle.fts_ids.specs.Ids.{has}
use Rattle.fts_lists.specs.declared.lists.DeleteList.TheVariants.{Deleted, BeingDeleted, DeletedCache}
use Rattle.fts_index.specs.Index.{pending_seen}
use Rattle.fts_index.specs.Stands.{StandsFor}
use Rattle.fts_index.proofs.index.Index.new.Goals as goal

pub returns : goal.returns
unfolding StandsFor
returns c = λ rules. record {
  within = omega arith;
  tables = c.new.ensures.nodes;
  flushed = c.new-3.ensures.flushed;
  synced = c.new-3.ensures.synced;
  deleted = c.new-3.ensures.lists Deleted;
  being = c.new-3.ensures.lists BeingDeleted;
  is_open = c.new-3.ensures.closed;
  checkpoint = c.new-3.ensures.checkpoint;
  dead = λ id. ap (λ (ids : List ℕ). has ids id) (c.new-3.ensures.lists DeletedCache);
  cache = c.new-2.ensures.postings;
  documents = c.new-2.ensures.documents;
  pending = ap (map pending_seen) c.new-4.ensures.items;
  last = omega (arith, c.new-2.ensures.last);
}
