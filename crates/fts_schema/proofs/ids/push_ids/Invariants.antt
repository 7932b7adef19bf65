use Rattle.std.proofs.Common.{◌≡◌, ◌++◌, length, take}
use Rattle.fts_schema.specs.Reply.{ids_text}
use Rattle.fts_schema.proofs.ids.push_ids.Given as goal

-- the text so far and the ids that are left make the whole text, which begins with that at the start
abbrev pub invariant-loop-rest : goal.invariant-loop-rest
invariant-loop-rest l = record {
  whole : l.text.items ++ ids_text l.rest ≡ l.fn.text.items ++ ids_text l.fn.ids;
  kept : take (length l.fn.text.items) l.text.items ≡ l.fn.text.items;
}

abbrev pub decreases-loop-rest : goal.decreases-loop-rest
decreases-loop-rest l = length l.rest
