use Rattle.std.specs.Prelude.{ℕ, List, if◌then◌else◌, slice_index}
use Rattle.std.specs.Int.{is_in_range}

-- the table of words that begin with this byte: `a` to `e`, `f` to `j`, `k` to `o`, `p` to `t`, `u` to `z`, and the
-- rest
abbrev pub table_of_byte : ℕ → ℕ
table_of_byte byte =
    if is_in_range 97 101 byte then 2
    else (if is_in_range 102 106 byte then 3
    else (if is_in_range 107 111 byte then 4
    else (if is_in_range 112 116 byte then 5
    else (if is_in_range 117 122 byte then 6
    else 1))))

-- the table of a word, by its first byte; a word without one belongs to the first table
abbrev pub table_of : List ℕ → ℕ
table_of word = table_of_byte (slice_index word 0)
