-- Words as bytes.
use Rattle.std.specs.Prelude.{ℕ, Bool, nat_lt, List}
use Rattle.std.specs.List.{list_all}

-- whether each number of the word is a byte
abbrev pub are_bytes : List ℕ → Bool
are_bytes word = list_all (λ byte. nat_lt byte 256) word
