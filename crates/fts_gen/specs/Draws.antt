-- Numbers drawn from a number, and the words that they give.
use Rattle.std.specs.Prelude.{ℕ, zero, suc, ◌+◌, ◌*◌, ◌%◌, List, [], ◌∷◌, ◌++◌, codes, slice_index_or}

-- the draw behind a draw
abbrev pub draw : ℕ → ℕ
draw x = (75 * x + 74) % 65537

-- so many draws behind a draw
abbrev pub draws : ℕ → ℕ → ℕ
draws zero x = x
draws (suc n) x = draws n (draw x)

-- the words of texts and searches
abbrev pub vocabulary : List (List ℕ)
vocabulary =
    codes "ant" ∷ codes "bee" ∷ codes "cat" ∷ codes "dog" ∷ codes "elk" ∷ codes "fox" ∷ codes "gnu" ∷ codes "hen"
    ∷ codes "ibis" ∷ codes "jay" ∷ codes "kite" ∷ codes "lark" ∷ codes "mole" ∷ codes "newt" ∷ codes "owl"
    ∷ codes "pony" ∷ []

-- the word of a draw
abbrev pub word_of : ℕ → List ℕ
word_of x = slice_index_or vocabulary (x % 16) []

-- the text of the five words drawn behind a draw
abbrev pub text_behind : ℕ → List ℕ
text_behind x =
    word_of (draws 1 x) ++ 32 ∷ (word_of (draws 2 x) ++ 32 ∷ (word_of (draws 3 x) ++ 32 ∷ (word_of (draws 4 x)
    ++ 32 ∷ word_of (draws 5 x))))
