use Rattle.std.proofs.Common.{◌≡◌, ◌≤◌, ◌+◌, [], drop}
use Rattle.std.specs.Prelude.{slice_index_or}
use Rattle.std.specs.List.{list_any}
use Rattle.std.specs.Str.{str_eq_ignore_ascii_case}
use Rattle.fts_sessions.proofs.asked.comes_again.Given as goal

abbrev pub invariant-loop-other : goal.invariant-loop-other
invariant-loop-other l = record {
  behind : l.place + 1 ≤ l.other;
  same : list_any (λ other. str_eq_ignore_ascii_case (slice_index_or l.names l.place []) other) (drop (l.place + 1) l.names)
      ≡ list_any (λ other. str_eq_ignore_ascii_case (slice_index_or l.names l.place []) other) (drop l.other l.names);
}
