-- Scripts worked out by hand.
use Rattle.std.proofs.Common.{◌≡◌, ℕ, List, [], ◌∷◌, map, refl}
use Rattle.std.specs.Prelude.{codes, decimal, ◌++◌}
use Rattle.fts_gen.specs.Draws.{draws}
use Rattle.fts_gen.specs.Script.{spelled, lines_from, script_lines}

-- a line with a key in it
abbrev keyed : List ℕ → ℕ → List ℕ → List ℕ
keyed before key after = before ++ (decimal key ++ after)

first_draws : map (λ n. draws n 1) (1 ∷ 2 ∷ 3 ∷ 4 ∷ 5 ∷ 6 ∷ 7 ∷ []) ≡ 149 ∷ 11249 ∷ 57305 ∷ 38044 ∷ 35283 ∷ 24819 ∷ 26463 ∷ []
first_draws = refl

-- an UPDATE of a row that is not there comes first
one_column : script_lines (codes "body" ∷ []) 1 5
    ≡ keyed (codes "UPDATE docs SET body = 'jay mole dog dog pony' WHERE id = ") 1 []
    ∷ keyed (codes "INSERT INTO docs (id, body) VALUES (") 2 (codes ", 'ant newt owl mole mole')")
    ∷ keyed (codes "INSERT INTO docs (id, body) VALUES (") 3 (codes ", 'cat ibis ant kite cat')")
    ∷ keyed (codes "UPDATE docs SET body = 'jay hen dog cat mole' WHERE id = ") 3 []
    ∷ keyed (codes "INSERT INTO docs (id, body) VALUES (") 5 (codes ", 'ibis lark newt owl lark')") ∷ []
one_column = refl

-- each kind of statement, with empty texts in the columns behind the first
three_columns : script_lines (codes "title" ∷ codes "body" ∷ codes "note" ∷ []) 7 5
    ≡ codes "SELECT FTS_DOC_ID FROM docs WHERE MATCH (title, body, note) AGAINST ('+hen elk -bee' IN BOOLEAN MODE)"
    ∷ keyed (codes "UPDATE docs SET title = 'owl gnu cat hen kite' WHERE id = ") 1 []
    ∷ keyed (codes "INSERT INTO docs (id, title, body, note) VALUES (") 3 (codes ", 'dog dog jay dog dog', '', '')")
    ∷ keyed (codes "INSERT INTO docs (id, title, body, note) VALUES (") 4 (codes ", 'kite hen jay gnu newt', '', '')")
    ∷ keyed (codes "DELETE FROM docs WHERE id = ") 3 [] ∷ []
three_columns = refl

-- behind statement 500 a batch, and then a pass
five_hundredth : lines_from (spelled (codes "body" ∷ [])) 500 1 1
    ≡ keyed (codes "UPDATE docs SET body = 'jay mole dog dog pony' WHERE id = ") 250 [] ∷ codes "SYNC" ∷ codes "OPTIMIZE TABLE docs" ∷ []
five_hundredth = refl

no_statement : script_lines (codes "body" ∷ []) 1 0 ≡ []
no_statement = refl
