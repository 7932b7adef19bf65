-- The script of a number.
use Rattle.std.specs.Prelude.{ℕ, zero, suc, ◌+◌, ◌-◌, ◌%◌, ◌==◌, nat_lt, Bool, if◌then◌else◌, List, [], ◌∷◌, ◌++◌}
use Rattle.std.specs.Prelude.{codes, decimal, drop, slice_index_or}
use Rattle.std.specs.List.{concat, flat_map}
use Rattle.fts_gen.specs.Draws.{draw, draws, word_of, text_behind}
use Rattle.fts_gen.specs.declared.table.Table.{Table}
use Rattle.fts_gen.specs.declared.generator.ScriptLines.{ScriptLines}

-- how statements name the text columns: the first, each other one behind a comma; and an empty text for each of these
pub record Spelled : Type 0 where
  pub first : List ℕ
  pub others : List ℕ
  pub empties : List ℕ

-- columns, as statements name them
abbrev pub spelled : List (List ℕ) → Spelled
spelled columns = record {
  first = slice_index_or columns 0 [];
  others = flat_map (λ name. codes ", " ++ name) (drop 1 columns);
  empties = flat_map (λ name. codes ", ''") (drop 1 columns);
}

-- the names that a table keeps
abbrev pub names_of : Table → Spelled
names_of table = record { first = table.first.items; others = table.others.items; empties = table.empties.items }

-- INSERT of a key, with a text in the first column
abbrev pub insert_line : Spelled → ℕ → List ℕ → List ℕ
insert_line names key text = concat (
    codes "INSERT INTO docs (id, " ∷ names.first ∷ names.others ∷ codes ") VALUES (" ∷ decimal key ∷ codes ", '" ∷ text
    ∷ codes "'" ∷ names.empties ∷ codes ")" ∷ [])

-- UPDATE of the first column
abbrev pub update_line : Spelled → ℕ → List ℕ → List ℕ
update_line names key text = concat (
    codes "UPDATE docs SET " ∷ names.first ∷ codes " = '" ∷ text ∷ codes "' WHERE id = " ∷ decimal key ∷ [])

-- DELETE of a key
abbrev pub delete_line : ℕ → List ℕ
delete_line key = concat (codes "DELETE FROM docs WHERE id = " ∷ decimal key ∷ [])

-- a search for two words without a third
abbrev pub search_line : Spelled → List ℕ → List ℕ → List ℕ → List ℕ
search_line names a b c = concat (
    codes "SELECT FTS_DOC_ID FROM docs WHERE MATCH (" ∷ names.first ∷ names.others ∷ codes ") AGAINST ('+" ∷ a
    ∷ codes " " ∷ b ∷ codes " -" ∷ c ∷ codes "' IN BOOLEAN MODE)" ∷ [])

-- the key that a draw gives statement `i` where it is about a row that may be there: 1 to `i`
abbrev pub key_of : ℕ → ℕ → ℕ
key_of i x = 1 + x % i

-- which of four a draw decides for: an INSERT for five of eight, then an UPDATE, a DELETE and a search
abbrev pub by_kind : {A : Type 0} → ℕ → A → A → A → A → A
by_kind x inserted updated deleted searched =
    if nat_lt (x % 8) 5 then inserted else if x % 8 == 5 then updated else if x % 8 == 6 then deleted else searched

-- statement `i` by the draw that decides it
abbrev pub decided : Spelled → ℕ → ℕ → List ℕ
decided names i x = by_kind x
    (insert_line names i (text_behind x))
    (update_line names (key_of i (draw x)) (text_behind (draw x)))
    (delete_line (key_of i (draw x)))
    (search_line names (word_of (draws 1 x)) (word_of (draws 2 x)) (word_of (draws 3 x)))

-- the last draw of the statement that a draw decides
abbrev pub last_draw : ℕ → ℕ
last_draw x = by_kind x (draws 5 x) (draws 6 x) (draws 1 x) (draws 3 x)

-- a line, if it is its turn
abbrev pub due : Bool → List ℕ → List (List ℕ)
due is_due line = if is_due then line ∷ [] else []

-- the lines behind a statement: of a batch behind each hundredth, of a pass behind each two hundred and fiftieth
abbrev pub behind : Bool → Bool → List (List ℕ)
behind sync optimize = due sync (codes "SYNC") ++ due optimize (codes "OPTIMIZE TABLE docs")

-- so many statements from number `i` on, behind a draw
abbrev pub lines_from : Spelled → ℕ → ℕ → ℕ → List (List ℕ)
lines_from names i zero x = []
lines_from names i (suc n) x =
    decided names i (draw x) ∷ (behind (i % 100 == 0) (i % 250 == 0) ++ lines_from names (i + 1) n (last_draw (draw x)))

-- the script of a number: so many statements about a table of these columns
abbrev pub script_lines : List (List ℕ) → ℕ → ℕ → List (List ℕ)
script_lines columns seed count = lines_from (spelled columns) 1 count seed

-- the lines that are still to come
abbrev pub lines_left : ScriptLines → List (List ℕ)
lines_left s =
    behind s.sync s.optimize ++ lines_from (names_of s.table) (s.made + 1) (s.count - s.made) s.draw
