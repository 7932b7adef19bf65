use Rattle.std.proofs.Common.{◌≡◌, ◌<◌, ◌++◌, length, drop}
use Rattle.fts_ilist.specs.Number.{number_bytes}
use Rattle.fts_ilist.proofs.Groups.{all_groups}
use Rattle.fts_ilist.proofs.number.put_number.Given as goal

abbrev pub invariant-loop-at : goal.invariant-loop-at
invariant-loop-at l = record {
  groups_left : l.at ≡ length (all_groups l.rest);
  within : l.at < length l.buf;
  written : number_bytes l.n ++ drop l.len l.fn.buf ≡ all_groups l.rest ++ drop l.at l.buf;
}

abbrev pub decreases-loop-at : goal.decreases-loop-at
decreases-loop-at l = l.at
