-- A script's next statement.
use Rattle.std.proofs.Common.{◌≡◌, ℕ, suc, ◌+◌, ◌-◌, ◌%◌, ◌<◌, ◌≤◌, Bool, false, cond, List, ◌∷◌, ◌++◌, nat_eq, nat_lt, sym, ap, ◌∙◌, arith}
use Rattle.std.proofs.lemmas.Bool.{lt-ltb}
use Rattle.fts_gen.specs.Draws.{draw}
use Rattle.fts_gen.specs.Script.{Spelled, behind, by_kind, decided, last_draw, lines_from}

-- what a draw decides for
pub inserts : {A : Type 0} (x : ℕ) (a b c d : A) → x % 8 < 5 → by_kind x a b c d ≡ a
inserts x a b c d low = ap (λ (t : Bool). cond t a (cond (nat_eq (x % 8) 5) b (cond (nat_eq (x % 8) 6) c d))) (lt-ltb (x % 8) 5 low)

at_kind : {A : Type 0} (x k : ℕ) (a b c d : A) → x % 8 ≡ k → by_kind x a b c d ≡ cond (nat_lt k 5) a (cond (nat_eq k 5) b (cond (nat_eq k 6) c d))
at_kind x k a b c d = ap (λ (n : ℕ). cond (nat_lt n 5) a (cond (nat_eq n 5) b (cond (nat_eq n 6) c d)))

pub updates : {A : Type 0} (x : ℕ) (a b c d : A) → x % 8 ≡ 5 → by_kind x a b c d ≡ b
updates x a b c d = at_kind x 5 a b c d

pub searches : {A : Type 0} (x : ℕ) (a b c d : A) → 5 ≤ x % 8 → (x % 8 ≡ 5 → ⊥) → (x % 8 ≡ 6 → ⊥) → by_kind x a b c d ≡ d
searches x a b c d high no_five no_six = at_kind x 7 a b c d (omega (arith, high, no_five, no_six))

one_less : (count made : ℕ) → made < count → count - made ≡ suc (count - (made + 1))
one_less count made below = omega (arith, below)

-- behind all lines that were due comes the next statement, and then what is due behind it
pub next_statement : (names : Spelled) (sync optimize : Bool) (made count x drawn last : ℕ) (line : List ℕ)
    → sync ≡ false → optimize ≡ false → made < count → drawn ≡ draw x
    → line ≡ decided names (made + 1) drawn → last ≡ last_draw drawn
    → behind sync optimize ++ lines_from names (made + 1) (count - made) x
    ≡ line ∷ (behind (nat_eq ((made + 1) % 100) 0) (nat_eq ((made + 1) % 250) 0)
    ++ lines_from names (made + 1 + 1) (count - (made + 1)) last)
next_statement names sync optimize made count x drawn last line no_sync no_pass below is_drawn is_line is_last =
    ap (λ (b : Bool). behind b optimize ++ lines_from names (made + 1) (count - made) x) no_sync
    ∙ ap (λ (b : Bool). behind false b ++ lines_from names (made + 1) (count - made) x) no_pass
    ∙ ap (λ (n : ℕ). lines_from names (made + 1) n x) (one_less count made below)
    ∙ ap (λ (d : ℕ). decided names (made + 1) d ∷ (behind (nat_eq ((made + 1) % 100) 0) (nat_eq ((made + 1) % 250) 0)
    ++ lines_from names (made + 1 + 1) (count - (made + 1)) (last_draw d))) (sym is_drawn)
    ∙ ap (λ (l : List ℕ). l ∷ (behind (nat_eq ((made + 1) % 100) 0) (nat_eq ((made + 1) % 250) 0)
    ++ lines_from names (made + 1 + 1) (count - (made + 1)) (last_draw drawn))) (sym is_line)
    ∙ ap (λ (d : ℕ). line ∷ (behind (nat_eq ((made + 1) % 100) 0) (nat_eq ((made + 1) % 250) 0)
    ++ lines_from names (made + 1 + 1) (count - (made + 1)) d)) (sym is_last)
