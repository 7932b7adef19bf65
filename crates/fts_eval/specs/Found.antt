use Rattle.std.specs.Prelude.{ℕ, Bool, List}
use Rattle.std.specs.List.{list_any}
use Rattle.fts_ids.specs.Ids.{has}
use Rattle.fts_eval.specs.declared.found.Found.{Found}
use Rattle.fts_eval.specs.declared.found.Found.TheVariants.{Lent, Own}

-- the ids that were found
abbrev pub ids_of : Found → List ℕ
ids_of (Lent ids) = ids.now
ids_of (Own ids) = ids

-- one of the lists has the id
abbrev pub some_has : List Found → ℕ → Bool
some_has lists id = list_any (λ list. has (ids_of list) id) lists
