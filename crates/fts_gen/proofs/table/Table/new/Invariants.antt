use Rattle.std.specs.Prelude.{◌≡◌, List, ℕ, ◌++◌, codes, drop}
use Rattle.std.specs.List.{flat_map}
use Rattle.fts_gen.proofs.table.Table.new.Given as goal

-- what is left of the other columns is still to come
abbrev pub invariant-loop-place : goal.invariant-loop-place
invariant-loop-place l =
    (l.others.items ++ flat_map (λ (name : List ℕ). codes ", " ++ name) (drop l.place l.columns)
    ≡ flat_map (λ (name : List ℕ). codes ", " ++ name) (drop 1 l.columns))
    × (l.empties.items ++ flat_map (λ (name : List ℕ). codes ", ''") (drop l.place l.columns)
    ≡ flat_map (λ (name : List ℕ). codes ", ''") (drop 1 l.columns))
