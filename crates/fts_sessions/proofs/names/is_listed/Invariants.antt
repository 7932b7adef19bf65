use Rattle.std.proofs.Common.{◌≡◌, drop}
use Rattle.std.specs.List.{list_any}
use Rattle.std.specs.Str.{str_eq_ignore_ascii_case}
use Rattle.fts_sessions.proofs.names.is_listed.Given as goal

abbrev pub invariant-loop-place : goal.invariant-loop-place
invariant-loop-place l =
    list_any (λ column. str_eq_ignore_ascii_case l.name column) l.columns
    ≡ list_any (λ column. str_eq_ignore_ascii_case l.name column) (drop l.place l.columns)
