-- What is put into a buffer, one behind another.
use Rattle.std.proofs.Common.{◌≡◌, ℕ, ◌+◌, ◌-◌, ◌<◌, ◌≤◌, List, [], ◌∷◌, ◌++◌, length, get_or, take, drop, sym, ap, ◌∙◌, append_assoc, append-nil, length-append, length-drop, arith}
use Rattle.std.specs.Prelude.{◌*◌, All}
use Rattle.std.proofs.lemmas.List.Elements.{All-head, All-tail}
use Rattle.std.specs.List.{flat_map}
use Rattle.std.proofs.lemmas.List.{take_more, take_all, drop_all, take_at, drop_at, drop-drop, take-append-drop}
use Rattle.std.proofs.lemmas.List.Concat.{flat_map-append}
use borrow.Rule.Slice.PartMut.{put_mid}
use Rattle.fts_codec.specs.Writing.{Puts}

-- what stands behind a piece that was put
abbrev pub left_of : List ℕ → ℕ → List ℕ
left_of now n = take (length now - n) (drop n now)

module _ (a old now : List ℕ) (n : ℕ) (room : length a ≤ length old) (first : Puts a old now n) where
  at_is : take n now ≡ a
  at_is = ap (take n) first.0 ∙ take_at a (drop (length a) old) n (sym first.1)

  behind_is : drop n now ≡ drop (length a) old
  behind_is = ap (drop n) first.0 ∙ drop_at a (drop (length a) old) n (sym first.1)

  left_is : left_of now n ≡ drop (length a) old
  left_is = take_all (length now - n) (drop n now) (omega (arith, length-drop n now)) ∙ behind_is

  same_size : length now ≡ length old
  same_size = omega (arith, ap length first.0, length-append a (drop (length a) old), length-drop (length a) old)

  -- how many bytes are left for what follows
  pub left_size : length (left_of now n) ≡ length old - length a
  left_size = ap length left_is ∙ length-drop (length a) old

  -- a second piece behind the first
  pub puts_both : (b sub new : List ℕ) (m : ℕ) → Puts b (left_of now n) sub m → new ≡ put_mid n (length now - n) now sub → Puts (a ++ b) old new (n + m)
  puts_both b sub new m second new_is =
      let nothing : drop (length now - n) (drop n now) ≡ [] = drop_all (length now - n) (drop n now) (omega (arith, length-drop n now)) in
      let placed : new ≡ a ++ sub = new_is ∙ ap (λ (xs : List ℕ). take n now ++ (sub ++ xs)) nothing ∙ ap (λ (xs : List ℕ). xs ++ (sub ++ [])) at_is ∙ ap (λ (xs : List ℕ). a ++ xs) (append-nil sub) in
      let rest : drop (length b) (left_of now n) ≡ drop (length a + length b) old = ap (drop (length b)) left_is ∙ drop-drop (length b) (length a) old in
      let size : length (a ++ b) ≡ length a + length b = length-append a b in (
        placed ∙ ap (λ (xs : List ℕ). a ++ xs) (second.0 ∙ ap (λ (xs : List ℕ). b ++ xs) rest) ∙ sym (append_assoc a b (drop (length a + length b) old))
            ∙ ap (λ (k : ℕ). (a ++ b) ++ drop k old) (sym size),
        omega (arith, size, first.1, second.1),
      )

-- the pieces of the first elements and one more
more : {X : Type 0} (f : X → List ℕ) (xs : List X) (i : ℕ) (d : X) → i < length xs → flat_map f (take (i + 1) xs) ≡ flat_map f (take i xs) ++ f (get_or xs i d)
more f xs i d less = ap (flat_map f) (take_more xs i d less) ∙ flat_map-append f (take i xs) (get_or xs i d ∷ []) ∙ ap (λ (y : List ℕ). flat_map f (take i xs) ++ y) (append-nil (f (get_or xs i d)))

-- they and the next have at most as many bytes as all
pub pieces_within : {X : Type 0} (f : X → List ℕ) (xs : List X) (i : ℕ) (d : X) → i < length xs → length (flat_map f (take i xs)) + length (f (get_or xs i d)) ≤ length (flat_map f xs)
pieces_within {X = X} f xs i d less =
    let whole : flat_map f xs ≡ flat_map f (take (i + 1) xs) ++ flat_map f (drop (i + 1) xs) = ap (flat_map f) (sym (take-append-drop (i + 1) xs)) ∙ flat_map-append f (take (i + 1) xs) (drop (i + 1) xs) in
    omega (arith, ap length whole, length-append (flat_map f (take (i + 1) xs)) (flat_map f (drop (i + 1) xs)), ap length (more f xs i d less), length-append (flat_map f (take i xs)) (f (get_or xs i d)))

-- each is shorter than all are allowed to be, and so are the first
pub piece_short : {X : Type 0} (f : X → List ℕ) (xs : List X) (i : ℕ) (d : X) (limit : ℕ) → i < length xs → length (flat_map f xs) < limit → length (f (get_or xs i d)) < limit
piece_short f xs i d limit less short = omega (arith, pieces_within f xs i d less)

pub front_within : {X : Type 0} (f : X → List ℕ) (xs : List X) (i : ℕ) → length (flat_map f (take i xs)) ≤ length (flat_map f xs)
front_within {X = X} f xs i =
    let whole : flat_map f xs ≡ flat_map f (take i xs) ++ flat_map f (drop i xs) = ap (flat_map f) (sym (take-append-drop i xs)) ∙ flat_map-append f (take i xs) (drop i xs) in
    omega (arith, ap length whole, length-append (flat_map f (take i xs)) (flat_map f (drop i xs)))

-- a loop that puts the pieces of a list behind a start
module _ {X : Type 0} (f : X → List ℕ) (xs : List X) (start old now : List ℕ) (i n : ℕ) (d : X) (less : i < length xs)
    (room : length (start ++ flat_map f xs) ≤ length old) (so_far : Puts (start ++ flat_map f (take i xs)) old now n) where
  done_room : length (start ++ flat_map f (take i xs)) + length (f (get_or xs i d)) ≤ length old
  done_room = omega (arith, room, pieces_within f xs i d less, length-append start (flat_map f xs), length-append start (flat_map f (take i xs)))

  -- there is room for the next
  pub next_room : length (f (get_or xs i d)) ≤ length (left_of now n)
  next_room = omega (arith, done_room, left_size (start ++ flat_map f (take i xs)) old now n (omega (arith, done_room)) so_far)

  -- and it is put
  pub next_put : (sub new : List ℕ) (m : ℕ) → Puts (f (get_or xs i d)) (left_of now n) sub m → new ≡ put_mid n (length now - n) now sub → Puts (start ++ flat_map f (take (i + 1) xs)) old new (n + m)
  next_put sub new m put new_is =
      let both = puts_both (start ++ flat_map f (take i xs)) old now n (omega (arith, done_room)) so_far (f (get_or xs i d)) sub new m put new_is in
      let same : (start ++ flat_map f (take i xs)) ++ f (get_or xs i d) ≡ start ++ flat_map f (take (i + 1) xs) =
      append_assoc start (flat_map f (take i xs)) (f (get_or xs i d)) ∙ ap (λ (ys : List ℕ). start ++ ys) (sym (more f xs i d less)) in
      rw (← same) both

-- pieces of at most so many bytes each
pub pieces_size : {X : Type 0} (f : X → List ℕ) (most : ℕ) (xs : List X) → All (λ x. length (f x) ≤ most) xs → length (flat_map f xs) ≤ length xs * most
pieces_size f most [] each = omega arith
pieces_size {X = X} f most (x ∷ xs) each =
    let first : length (f x) ≤ most = All-head (λ (y : X). length (f y) ≤ most) x xs each in
    let later : length (flat_map f xs) ≤ length xs * most = pieces_size f most xs (All-tail (λ (y : X). length (f y) ≤ most) x xs each) in
    omega (arith, length-append (f x) (flat_map f xs))
