use Rattle.std.proofs.Common.{◌≡◌, ◌++◌, map}
use Rattle.fts_types.specs.Row.{row_of}
use Rattle.fts_rows.specs.Slots.{rows_in}
use Rattle.fts_rows.proofs.slots.rows_of_slots.Given as goal

abbrev pub invariant-loop-doc : goal.invariant-loop-doc
invariant-loop-doc l = record {
  all : map row_of l.rows.items ++ rows_in l._doc-iterator ≡ rows_in l.fn.slots.entries;
}
