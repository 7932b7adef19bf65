-- Whether a place belongs to a word, by the bytes there and beside it.
use Rattle.std.proofs.Common.{◌≡◌, ◌≢◌, ℕ, suc, ◌+◌, ◌-◌, Bool, true, false, ◌&&◌, List, get_or, refl, sym, ap, ne_eqb}
use Rattle.fts_words.specs.Byte.{word_at, apostrophe_at}
use Rattle.fts_words.specs.RawWords.{in_word}
use Rattle.fts_token.specs.Bounds.{is_inside}

and_false : (b : Bool) → (b && false) ≡ false
and_false true = refl
and_false false = refl

pub no_mark : (text : List ℕ) (place : ℕ) → word_at text place ≡ false → (get_or text place 0 ≢ 39) → false ≡ in_word text place
unfolding in_word apostrophe_at
no_mark text place no_byte other = let no = ne_eqb (get_or text place 0) 39 other in rw (no_byte, no) refl

pub no_left : (text : List ℕ) (place : ℕ) → word_at text place ≡ false → word_at text (place - 1) ≡ false → false ≡ in_word text place
unfolding in_word
no_left text place no_byte left = rw (no_byte, left) (sym (and_false (apostrophe_at text place)))

pub by_right : (text : List ℕ) (place : ℕ) → word_at text place ≡ false → get_or text place 0 ≡ 39 → word_at text (place - 1) ≡ true → word_at text (place + 1) ≡ in_word text place
unfolding in_word apostrophe_at
by_right text place no_byte mark left = rw (no_byte, mark, left) refl

-- what the place before one says of it
pub inside_first : (text : List ℕ) (place : ℕ) → place ≡ 0 → false ≡ is_inside text place
unfolding is_inside
inside_first text place first = rw first refl

pub inside_later : (text : List ℕ) (place before : ℕ) → suc before ≡ place → in_word text before ≡ is_inside text place
unfolding is_inside
inside_later text place before next = ap (λ (p : ℕ). is_inside text p) next
