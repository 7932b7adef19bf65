use Rattle.std.specs.Prelude.{ℕ, ◌+◌, nat_eq, nat_lt, cond, List, [], ◌∷◌, ◌++◌, length, map}

-- a line of a text: whole, or too long to be kept
pub data Line : Type 0 where
  whole : List ℕ → Line
  too_long : Line

-- bytes put before the first of some lines
abbrev pub onto : List ℕ → List (List ℕ) → List (List ℕ)
onto front [] = front ∷ []
onto front (line ∷ lines) = (front ++ line) ∷ lines

-- a text cut at each LF, which belongs to no line; the last line ends with one or at the text's end
abbrev pub cut : List ℕ → List (List ℕ)
cut [] = []
cut (byte ∷ text) = cond (nat_eq byte 10) ([] ∷ cut text) (onto (byte ∷ []) (cut text))

-- how many LFs a text has
abbrev pub feeds : List ℕ → ℕ
feeds [] = 0
feeds (byte ∷ text) = cond (nat_eq byte 10) (feeds text + 1) (feeds text)

-- a line has at most 2^20 bytes
abbrev pub sorted : List ℕ → Line
sorted line = cond (nat_lt 1048576 (length line)) too_long (whole line)

-- the lines of a text
abbrev pub lines_of : List ℕ → List Line
lines_of text = map sorted (cut text)
