use Rattle.std.proofs.Common.{◌≡◌, ℕ, zero, suc, ◌+◌, ◌<◌, List, [], ◌∷◌, ◌++◌, length, map, take, drop, get_or, refl, sym, ap, ◌∙◌, subst, arith}
use Rattle.fts_sql.specs.Line.{Placed, placed}
use Rattle.fts_sql.specs.Statement.{tokens_in}
use Rattle.fts_sql.specs.Fault.{Viable, IsMisplaced}
use Rattle.fts_sql.specs.Reading.{placed_of, token_of}
use Rattle.fts_sql.specs.Reader.{tokens_at}
use Rattle.fts_sql.specs.declared.line.Placed as code
use Rattle.fts_sql.proofs.Reached.{one_token_more}

-- tokens without their places

pub tokens_in-append : (xs ys : List Placed) → tokens_in (xs ++ ys) ≡ tokens_in xs ++ tokens_in ys
tokens_in-append [] ys = refl
tokens_in-append (placed at t ∷ xs) ys = ap (λ ts. t ∷ ts) (tokens_in-append xs ys)

pub tokens_in-map : (tokens : List code.Placed) → tokens_in (map placed_of tokens) ≡ tokens_at tokens
tokens_in-map [] = refl
tokens_in-map (t ∷ tokens) = ap (λ ts. token_of t.token ∷ ts) (tokens_in-map tokens)

take_tokens : (n : ℕ) (tokens : List code.Placed) → tokens_in (take n (map placed_of tokens)) ≡ take n (tokens_at tokens)
take_tokens zero tokens = refl
take_tokens (suc n) [] = refl
take_tokens (suc n) (t ∷ tokens) = ap (λ ts. token_of t.token ∷ ts) (take_tokens n tokens)

cut_at : (n : ℕ) (tokens : List code.Placed) (d : code.Placed) → n < length tokens
    → map placed_of tokens ≡ take n (map placed_of tokens) ++ placed_of (get_or tokens n d) ∷ drop (suc n) (map placed_of tokens)
cut_at n [] d less = absurd (omega (arith, less))
cut_at zero (t ∷ tokens) d less = refl
cut_at (suc n) (t ∷ tokens) d less = ap (λ ts. placed_of t ∷ ts) (cut_at n tokens d (omega (arith, less)))

-- the token behind the furthest front of a statement is misplaced
pub misplaced : (tokens : List code.Placed) (n : ℕ) (d : code.Placed) → n < length tokens → Viable (take n (tokens_at tokens))
    → (Viable (take (n + 1) (tokens_at tokens)) → ⊥) → IsMisplaced (map placed_of tokens) (get_or tokens n d).at
misplaced tokens n d less front stops = record {
  front = take n (map placed_of tokens);
  one = token_of (get_or tokens n d).token;
  behind = drop (suc n) (map placed_of tokens);
  cut = cut_at n tokens d less;
  before = subst Viable (sym (take_tokens n tokens)) front;
  no_more = λ viable. stops (subst Viable
      (ap (λ ts. ts ++ token_of (get_or tokens n d).token ∷ []) (take_tokens n tokens) ∙ sym (one_token_more tokens n d less)) viable);
}
