use Rattle.std.specs.Prelude.{◌≡◌, ℕ, zero, suc, ◌+◌, ◌-◌, ◌<◌, ◌≤◌, Bool, not, ◌&&◌, List, map, filter, if◌then◌else◌}
use Rattle.std.specs.Prelude.{IsTrue, IsFalse}
use Rattle.std.specs.List.{range_with_len, AllPairs}
use Rattle.fts_words.specs.declared.span.Span.{Span}

-- the places from one up to another are a longest run of places that pass the test
pub record IsRun (test : ℕ → Bool) (from to : ℕ) : Type 0 where
  pub nonempty : from < to
  pub each : (i : ℕ) → from ≤ i → i < to → IsTrue (test i)
  pub before : (i : ℕ) → i + 1 ≡ from → IsFalse (test i)
  pub behind : IsFalse (test to)

-- the place passes the test, and the one before it doesn't
abbrev pub starts : (ℕ → Bool) → ℕ → Bool
starts test zero = test 0
starts test (suc i) = test (suc i) && not (test i)

-- the first of the n places from i on that doesn't pass the test, or the place behind them
abbrev pub run_end : (ℕ → Bool) → ℕ → ℕ → ℕ
run_end test i zero = i
run_end test i (suc n) = if test i then run_end test (i + 1) n else i

-- what starts at this place and ends with the run, or at the size
abbrev pub run_at : (ℕ → Bool) → ℕ → ℕ → Span
run_at test size i = record { from = i; to = run_end test i (size - i) }

-- the runs below the size that start at a place or behind it, in their order
unfoldable pub runs_from : (ℕ → Bool) → ℕ → ℕ → List Span
runs_from test size i = map (run_at test size) (filter (starts test) (range_with_len i (size - i)))

-- each span ends before the next one starts
abbrev pub IsAscending : List Span → Type 0
IsAscending spans = AllPairs (λ v w. v.to < w.from) spans
