-- The brackets of a text are paired exactly where none lacks its partner.
use Rattle.std.proofs.Common.{◌≡◌, ℕ, zero, suc, ◌+◌, ◌-◌, ◌<◌, ◌≤◌, false, List, [], ◌++◌, length, refl, sym, ap, ◌∙◌, subst, inl, inr, ⊎_elim, arith, append-nil}
use Rattle.std.proofs.lemmas.Bool.{cases_lt}
use Rattle.fts_words.proofs.RunLemmas.{clash}
use Rattle.fts_meaning.specs.Plain.{plain}
use Rattle.fts_meaning.specs.Tree.{Terms, Token, written}
use Rattle.fts_meaning.specs.Token.{stray_at, tokens_at, tokens_from, IsTreeOf}
use Rattle.fts_meaning.specs.Fault.{opened, closed, IsLoneOpen, IsLoneClose, IsFaulty, IsFaultless}
use Rattle.fts_meaning.specs.Nesting.{Nests}
use Rattle.fts_meaning.proofs.Reading.{tree_of_nested, written_one, written_nests}
use Rattle.fts_meaning.proofs.Places.{tokens_step, tokens_end, counts_open, counts_close, Place, strays, opens, closes, operands, nothing, place_of}

module _ (query text : List ℕ) where
  -- the brackets are paired from this place on, behind those that are open there
  pub record IsNested (i height : ℕ) : Type 0 where
    pub height_is : height + closed text i ≡ opened text i
    pub nests : Nests height (tokens_from query text i)

  -- one place further
  pub record NestedOn (i : ℕ) : Type 0 where
    pub fine : stray_at query text i ≡ false
    pub height : ℕ
    pub next : IsNested (i + 1) height

  on_from : (i height : ℕ) → height + closed text i ≡ opened text i → Nests height (tokens_at query text i ++ tokens_from query text (i + 1)) → Place query text i → NestedOn i
  unfolding Nests
  on_from i height height_is nests (strays fault is) = absurd (subst (λ (ts : List Token). Nests height (ts ++ tokens_from query text (i + 1))) is nests)
  on_from i height height_is nests (opens sign fine byte counts is) =
      let inside : Nests (height + 1) (tokens_from query text (i + 1)) = subst (λ (ts : List Token). Nests height (ts ++ tokens_from query text (i + 1))) is nests in
      record { fine = fine; height = height + 1; next = record { height_is = omega (arith, counts.opens, counts.closes); nests = inside } }
  on_from i height height_is nests (closes fine byte counts is) =
      let inside : (0 < height) × Nests (height - 1) (tokens_from query text (i + 1)) = subst (λ (ts : List Token). Nests height (ts ++ tokens_from query text (i + 1))) is nests in
      record { fine = fine; height = height - 1; next = record { height_is = omega (arith, inside.0, counts.opens, counts.closes); nests = inside.1 } }
  on_from i height height_is nests (operands sign operand fine counts is) =
      let inside : Nests height (tokens_from query text (i + 1)) = subst (λ (ts : List Token). Nests height (ts ++ tokens_from query text (i + 1))) is nests in
      record { fine = fine; height = height; next = record { height_is = omega (arith, counts.opens, counts.closes); nests = inside } }
  on_from i height height_is nests (nothing fine counts is) =
      let inside : Nests height (tokens_from query text (i + 1)) = subst (λ (ts : List Token). Nests height (ts ++ tokens_from query text (i + 1))) is nests in
      record { fine = fine; height = height; next = record { height_is = omega (arith, counts.opens, counts.closes); nests = inside } }

  pub nested_on : (i height : ℕ) → i < length text → IsNested i height → NestedOn i
  nested_on i height within here =
      on_from i height here.height_is (subst (Nests height) (tokens_step query text i within) here.nests) (place_of query text i within)

  record Nested (i : ℕ) : Type 0 where
    height : ℕ
    here : IsNested i height

  nested_at : Nests 0 (tokens_from query text 0) → (i : ℕ) → i ≤ length text → Nested i
  nested_at nests zero within = record { height = 0; here = record { height_is = refl; nests = nests } }
  nested_at nests (suc i) within =
      let before = nested_at nests i (omega arith) in
      let on = nested_on i before.height (omega arith) before.here in
      let same : i + 1 ≡ suc i = omega arith in
      record { height = on.height; here = subst (λ (x : ℕ). IsNested x on.height) same on.next }

  -- what no more brackets close than open up to any place, and as many in all, says
  pub record IsBalanced : Type 0 where
    pub order : (i : ℕ) → i ≤ length text → closed text i ≤ opened text i
    pub total : opened text (length text) ≡ closed text (length text)

  nested_balanced : Nests 0 (tokens_from query text 0) → IsBalanced
  unfolding Nests
  nested_balanced nests =
      let last = nested_at nests (length text) (omega arith) in
      let none : last.height ≡ 0 = subst (Nests last.height) (tokens_end query text (length text) (omega arith)) last.here.nests in
      record {
        order = λ i within. omega (arith, (nested_at nests i within).here.height_is);
        total = omega (arith, last.here.height_is);
      }

  -- where the brackets are paired, no byte is at fault
  pub nested_faultless : Nests 0 (tokens_from query text 0) → (place : ℕ) → IsFaulty query text place → ⊥
  nested_faultless nests place faulty =
      let balanced = nested_balanced nests in
      let within = faulty.within in
      let before = nested_at nests place (omega arith) in
      let on = nested_on place before.height within before.here in
      ⊎_elim
      (λ fault. clash (stray_at query text place) fault on.fine)
      (λ lone. ⊎_elim
      (λ (open_ : IsLoneOpen text place).
      let ends = open_.none (length text) within (omega arith) in
      let counts = counts_open text place within open_.is in
      let order = balanced.order place (omega arith) in
      omega (arith, balanced.total, counts.opens, counts.closes))
      (λ (close : IsLoneClose text place).
      let none = close.none 0 (omega arith) in
      let counts = counts_close text place within close.is in
      let order = balanced.order (place + 1) (omega arith) in
      omega (arith, counts.opens, counts.closes))
      lone)
      faulty.cause

  -- where no byte is at fault, the brackets are balanced
  module _ (faultless : (place : ℕ) → IsFaulty query text place → ⊥) where
    order_on : (i : ℕ) → i < length text → ((j : ℕ) → j ≤ i → closed text j ≤ opened text j) → Place query text i → closed text (i + 1) ≤ opened text (i + 1)
    order_on i within before (strays fault is) = absurd (faultless i (record { within = within; cause = inl fault }))
    order_on i within before (opens sign fine byte counts is) = let here = before i (omega arith) in omega (arith, counts.opens, counts.closes)
    order_on i within before (closes fine byte counts is) =
        ⊎_elim
        (λ (more : closed text i < opened text i). omega (arith, counts.opens, counts.closes))
        (λ (level : opened text i ≤ closed text i).
        let lone : IsLoneClose text i = record { is = byte; none = λ begin low. omega (arith, before begin low) } in
        absurd (faultless i (record { within = within; cause = inr (inr lone) })))
        (cases_lt (closed text i) (opened text i))
    order_on i within before (operands sign operand fine counts is) = let here = before i (omega arith) in omega (arith, counts.opens, counts.closes)
    order_on i within before (nothing fine counts is) = let here = before i (omega arith) in omega (arith, counts.opens, counts.closes)

    pub ordered : (i : ℕ) → i ≤ length text → (j : ℕ) → j ≤ i → closed text j ≤ opened text j
    ordered zero within j low = let same : 0 ≡ j = omega arith in subst (λ (x : ℕ). closed text x ≤ opened text x) same (omega arith)
    ordered (suc i) within j low =
        ⊎_elim
        (λ (less : j < suc i). ordered i (omega arith) j (omega arith))
        (λ (most : suc i ≤ j).
        let same : i + 1 ≡ j = omega arith in
        subst (λ (x : ℕ). closed text x ≤ opened text x) same (order_on i (omega arith) (ordered i (omega arith)) (place_of query text i (omega arith))))
        (cases_lt j (suc i))

    -- from a place to the end no more brackets open than close
    Closes : ℕ → Type 0
    Closes j = opened text (length text) + closed text j ≤ opened text j + closed text (length text)

    closes_on : (i : ℕ) → i < length text → ((j : ℕ) → i + 1 ≤ j → j ≤ length text → Closes j) → Place query text i → Closes i
    unfolding Closes
    closes_on i within after (strays fault is) = absurd (faultless i (record { within = within; cause = inl fault }))
    closes_on i within after (opens sign fine byte counts is) =
        ⊎_elim
        (λ (more : opened text i + closed text (length text) < opened text (length text) + closed text i).
        let lone : IsLoneOpen text i = record { is = byte; none = λ end low high. omega (arith, after end (omega arith) high, counts.opens, counts.closes) } in
        absurd (faultless i (record { within = within; cause = inr (inl lone) })))
        (λ enough. enough)
        (cases_lt (opened text i + closed text (length text)) (opened text (length text) + closed text i))
    closes_on i within after (closes fine byte counts is) = let next = after (i + 1) (omega arith) (omega arith) in omega (arith, counts.opens, counts.closes)
    closes_on i within after (operands sign operand fine counts is) = let next = after (i + 1) (omega arith) (omega arith) in omega (arith, counts.opens, counts.closes)
    closes_on i within after (nothing fine counts is) = let next = after (i + 1) (omega arith) (omega arith) in omega (arith, counts.opens, counts.closes)

    closes_from : (k i : ℕ) → i + k ≡ length text → (j : ℕ) → i ≤ j → j ≤ length text → Closes j
    unfolding Closes
    closes_from zero i end j low high = let same : length text ≡ j = omega arith in subst (λ (x : ℕ). opened text (length text) + closed text x ≤ opened text x + closed text (length text)) same (omega arith)
    closes_from (suc k) i end j low high =
        ⊎_elim
        (λ (more : i < j). closes_from k (i + 1) (omega arith) j (omega arith) high)
        (λ (least : j ≤ i).
        let same : i ≡ j = omega arith in
        subst (λ (x : ℕ). Closes x) same (closes_on i (omega arith) (closes_from k (i + 1) (omega arith)) (place_of query text i (omega arith))))
        (cases_lt i j)

    pub faultless_balanced : IsBalanced
    unfolding Closes
    faultless_balanced =
        let all = closes_from (length text) 0 (omega arith) 0 (omega arith) (omega arith) in
        let last = ordered (length text) (omega arith) (length text) (omega arith) in
        record { order = λ i within. ordered i within i (omega arith); total = omega arith }

    nests_on : (i height : ℕ) → i < length text → height + closed text i ≡ opened text i → ((h : ℕ) → h + closed text (i + 1) ≡ opened text (i + 1) → Nests h (tokens_from query text (i + 1))) → Place query text i → Nests height (tokens_at query text i ++ tokens_from query text (i + 1))
    unfolding Nests
    nests_on i height within height_is after (strays fault is) = absurd (faultless i (record { within = within; cause = inl fault }))
    nests_on i height within height_is after (opens sign fine byte counts is) =
        subst (λ (ts : List Token). Nests height (ts ++ tokens_from query text (i + 1))) (sym is) (after (height + 1) (omega (arith, counts.opens, counts.closes)))
    nests_on i height within height_is after (closes fine byte counts is) =
        let order = faultless_balanced.order (i + 1) (omega arith) in
        let above : 0 < height = omega (arith, counts.opens, counts.closes) in
        subst (λ (ts : List Token). Nests height (ts ++ tokens_from query text (i + 1))) (sym is) (above, after (height - 1) (omega (arith, counts.opens, counts.closes)))
    nests_on i height within height_is after (operands sign operand fine counts is) =
        subst (λ (ts : List Token). Nests height (ts ++ tokens_from query text (i + 1))) (sym is) (after height (omega (arith, counts.opens, counts.closes)))
    nests_on i height within height_is after (nothing fine counts is) =
        subst (λ (ts : List Token). Nests height (ts ++ tokens_from query text (i + 1))) (sym is) (after height (omega (arith, counts.opens, counts.closes)))

    nests_from : (k i : ℕ) → i + k ≡ length text → (height : ℕ) → height + closed text i ≡ opened text i → Nests height (tokens_from query text i)
    unfolding Nests
    nests_from zero i end height height_is =
        let total = faultless_balanced.total in
        let last : i ≡ length text = omega arith in
        let open_is : opened text i ≡ opened text (length text) = ap (opened text) last in
        let close_is : closed text i ≡ closed text (length text) = ap (closed text) last in
        subst (Nests height) (sym (tokens_end query text i (omega arith))) (omega arith)
    nests_from (suc k) i end height height_is =
        subst (Nests height) (sym (tokens_step query text i (omega arith)))
        (nests_on i height (omega arith) height_is (λ h is. nests_from k (i + 1) (omega arith) h is) (place_of query text i (omega arith)))

    pub faultless_nests : Nests 0 (tokens_from query text 0)
    faultless_nests = nests_from (length text) 0 (omega arith) 0 refl

-- a query without a byte at fault has a tree
pub has_tree : (query : List ℕ) → IsFaultless query → (terms : Terms) × IsTreeOf query terms
has_tree query faultless = tree_of_nested _ (faultless_nests query (plain query) faultless)

-- a query with a tree has no byte at fault
pub tree_faultless : (query : List ℕ) (terms : Terms) → IsTreeOf query terms → IsFaultless query
unfolding Nests
tree_faultless query terms is =
    let empty : Nests 0 [] = refl in
    let paired : Nests 0 (written terms ++ []) = written_nests terms 0 [] empty in
    let whole : written terms ++ [] ≡ tokens_from query (plain query) 0 = append-nil (written terms) ∙ is in
    nested_faultless query (plain query) (subst (Nests 0) whole paired)

-- a query has one tree
pub tree_one : (query : List ℕ) (v w : Terms) → IsTreeOf query v → IsTreeOf query w → v ≡ w
tree_one query v w left right = written_one v w (left ∙ sym right)
