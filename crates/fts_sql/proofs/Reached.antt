-- How far tokens are those of a table.
use Rattle.std.proofs.Common.{◌≡◌, ◌↔◌, ℕ, ◌+◌, ◌<◌, Bool, true, false, List, [], ◌∷◌, ◌++◌, length, take, drop, get_or, Option, Some, None, refl, sym, ap, ◌∙◌, subst, arith}
use Rattle.std.proofs.lemmas.Bool.{both_ways}
use Rattle.std.proofs.lemmas.List.{append-nil, append_assoc, take-append-drop, take_all, take_more, get_or-map, length-map}
use Rattle.fts_sql.specs.Token.{Token}
use Rattle.fts_sql.specs.Reading.{token_of}
use Rattle.fts_sql.specs.Table.{taken_by, Says, Part}
use Rattle.fts_sql.specs.declared.piece.Piece.{Piece}
use Rattle.fts_sql.specs.declared.line.Placed.{Placed}
use Rattle.fts_sql.specs.Reader.{is_table, Spot, SaysFrom, behind, ends, Begins, IsReached, tokens_at}
use Rattle.fts_sql.proofs.Tables.{IsStep, behind_is, spot_end, spot_completes}

-- behind these tokens, of which this is taken, the table goes on from the spot
abbrev pub Leads : List Part → List Token → Spot → List Token → Type 0
Leads table done spot taken = (all rest : List Token) → Says table all (done ++ rest) [] ↔ SaysFrom spot all rest taken

-- the first tokens, one more
pub one_token_more : (tokens : List Placed) (i : ℕ) (d : Placed) → i < length tokens
    → take (i + 1) (tokens_at tokens) ≡ take i (tokens_at tokens) ++ token_of (get_or tokens i d).token ∷ []
one_token_more tokens i d within =
    let inside : i < length (tokens_at tokens) = omega (arith, within, length-map tokens (λ p. token_of p.token)) in
    take_more (tokens_at tokens) i (token_of d.token) inside
    ∙ ap (λ t. take i (tokens_at tokens) ++ t ∷ []) (get_or-map (λ p. token_of p.token) tokens i d (token_of d.token) within)

-- the step that the reader makes at a spot
pub step_is : (spot : Spot) (t : Token) (step : Option (Piece × Spot)) → is_table spot.ahead ≡ true → step ≡ behind spot.begun spot.ahead t
    → IsStep (SaysFrom spot) t step
step_is spot t step table e = subst (IsStep (SaysFrom spot) t) (sym e) (behind_is spot.begun spot.ahead t table)

leads_more : (table : List Part) (done : List Token) (spot : Spot) (taken : List Token) (t : Token) (step : Piece × Spot)
    → Leads table done spot taken → IsStep (SaysFrom spot) t (Some step) → Leads table (done ++ t ∷ []) step.1 (taken_by step.0 t taken)
leads_more table done spot taken t step leads is all rest =
    let e = append_assoc done (t ∷ []) rest in (
      λ h. (is.0 all rest taken).0 ((leads all (t ∷ rest)).0 (subst (λ ts. Says table all ts []) e h)),
      λ k. subst (λ ts. Says table all ts []) (sym e) ((leads all (t ∷ rest)).1 ((is.0 all rest taken).1 k)),
    )

pub leads_to : (table : List Part) (tokens : List Placed) (i : ℕ) (d : Placed) (spot : Spot) (taken kept : List Token) (step : Piece × Spot) → i < length tokens
    → Leads table (take i (tokens_at tokens)) spot taken → IsStep (SaysFrom spot) (token_of (get_or tokens i d).token) (Some step)
    → kept ≡ taken_by step.0 (token_of (get_or tokens i d).token) taken → Leads table (take (i + 1) (tokens_at tokens)) step.1 kept
leads_to table tokens i d spot taken kept step within leads is e =
    subst (λ ks. Leads table (take (i + 1) (tokens_at tokens)) step.1 ks) (sym e)
    (subst (λ done. Leads table done step.1 (taken_by step.0 (token_of (get_or tokens i d).token) taken)) (sym (one_token_more tokens i d within))
    (leads_more table (take i (tokens_at tokens)) spot taken (token_of (get_or tokens i d).token) step leads is))

front_begins : (table : List Part) (done : List Token) (spot : Spot) (taken : List Token) → Leads table done spot taken → Begins table done
front_begins table done spot taken leads =
    let r = spot_completes spot.begun spot.ahead taken in (r.1, r.0, (leads r.1 r.0).1 r.2)

-- no table's tokens go on with a token that has no step
no_step : (table : List Part) (done : List Token) (spot : Spot) (taken : List Token) (t : Token) → Leads table done spot taken
    → IsStep (SaysFrom spot) t None → (all more : List Token) → Says table all ((done ++ t ∷ []) ++ more) [] → ⊥
no_step table done spot taken t leads none all more h =
    none all more taken ((leads all (t ∷ more)).0 (subst (λ ts. Says table all ts []) (append_assoc done (t ∷ []) more) h))

-- where a token has no step, the tokens before it are as far as they go
pub stopped : (table : List Part) (tokens : List Placed) (i : ℕ) (d : Placed) (spot : Spot) (taken : List Token) → i < length tokens
    → Leads table (take i (tokens_at tokens)) spot taken → IsStep (SaysFrom spot) (token_of (get_or tokens i d).token) None
    → IsReached table (tokens_at tokens) i taken false
stopped table tokens i d spot taken within leads none =
    let t : Token = token_of (get_or tokens i d).token in
    let all_tokens : List Token = tokens_at tokens in
    let size : length all_tokens ≡ length tokens = length-map tokens (λ p. token_of p.token) in
    let one : take (i + 1) all_tokens ≡ take i all_tokens ++ t ∷ [] = one_token_more tokens i d within in
    let whole : all_tokens ≡ (take i all_tokens ++ t ∷ []) ++ drop (i + 1) all_tokens =
    sym (take-append-drop (i + 1) all_tokens) ∙ ap (λ ts. ts ++ drop (i + 1) all_tokens) one in
    record {
      within = omega (arith, size, within);
      front = front_begins table (take i all_tokens) spot taken leads;
      stops = λ less begins. no_step table (take i all_tokens) spot taken t leads none begins.0 begins.1
          (subst (λ ts. Says table begins.0 (ts ++ begins.1) []) one begins.2);
      says = λ all. (
        λ h. absurd (no_step table (take i all_tokens) spot taken t leads none all (drop (i + 1) all_tokens) (subst (λ ts. Says table all ts []) whole h)),
        λ k. absurd (both_ways false refl k.0),
      );
    }

-- where each token had its step, the tokens are all a front
pub ended : (table : List Part) (tokens : List Placed) (i : ℕ) (spot : Spot) (taken : List Token) (whole : Bool) → i ≡ length tokens
    → is_table spot.ahead ≡ true → whole ≡ ends spot.begun spot.ahead
    → Leads table (take i (tokens_at tokens)) spot taken → IsReached table (tokens_at tokens) (length tokens) taken whole
ended table tokens i spot taken whole at is e leads =
    let all_tokens : List Token = tokens_at tokens in
    let size : length all_tokens ≡ length tokens = length-map tokens (λ p. token_of p.token) in
    let cut : take i all_tokens ≡ all_tokens = take_all i all_tokens (omega (arith, size, at)) in
    let cut2 : take (length tokens) all_tokens ≡ all_tokens = take_all (length tokens) all_tokens (omega (arith, size)) in
    let lead : Leads table all_tokens spot taken = subst (λ ts. Leads table ts spot taken) cut leads in
    record {
      within = omega (arith, size);
      front = subst (Begins table) (sym cut2) (front_begins table all_tokens spot taken lead);
      stops = λ less begins. absurd (omega (arith, size, less));
      says = λ all. (
        λ h. (let k = (spot_end spot.begun spot.ahead is all taken).0 ((lead all []).0 (subst (λ ts. Says table all ts []) (sym (append-nil all_tokens)) h)) in
            (e ∙ k.0, k.1)),
        λ k. subst (λ ts. Says table all ts []) (append-nil all_tokens)
            ((lead all []).1 ((spot_end spot.begun spot.ahead is all taken).1 (sym e ∙ k.0, k.1))),
      );
    }
