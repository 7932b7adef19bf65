use Rattle.std.proofs.Common.{◌≡◌, ◌+◌, ◌≤◌, ◌++◌, length, map}
use Rattle.std.specs.Vec.{vec_len, vec_capacity}
use Rattle.fts_ilist.proofs.cursor.Cursor.put_ids.Given as goal

abbrev pub invariant-loop-id : goal.invariant-loop-id
invariant-loop-id l = record {
  put : l.ids.items ++ map (λ p. p.id) l.rest ≡ l.fn.ids.items ++ map (λ p. p.id) l.fn.self;
  room : vec_len l.ids + length l.rest ≤ vec_capacity l.ids;
}

abbrev pub decreases-loop-id : goal.decreases-loop-id
decreases-loop-id l = length l.rest
