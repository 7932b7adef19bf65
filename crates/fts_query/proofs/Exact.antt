-- The answer to a text is settled by its faults and its depth, but for want of memory.
use Rattle.std.proofs.Common.{◌≡◌, ℕ, ◌+◌, ◌≤◌, ◌⊎◌, List, length, Result, Ok, Err, refl, ap, ◌∙◌, inl, inr, ⊎_elim, arith}
use Rattle.std.specs.Prelude.{IfOk, IfErr, IsOk}
use Rattle.std.proofs.lemmas.Bool.{cases_order}
use Rattle.fts_meaning.specs.Plain.{plain}
use Rattle.fts_meaning.specs.Token.{IsTreeOf}
use Rattle.fts_meaning.specs.Fault.{IsFirst, FaultsAt, IsFaulty, IsFaultless, IsTooDeep, IsTooDeepAt, IsShallow}
use Rattle.fts_meaning.proofs.Pairing.{tree_faultless}
use Rattle.fts_query.specs.declared.query.Query.{Query}
use Rattle.fts_query.specs.declared.parser.ParseError.{ParseError}
use Rattle.fts_query.specs.declared.parser.ParseError.TheVariants.{TooLong, Syntax, TooDeep, NoMemory}
use Rattle.fts_query.specs.View.{tree_of}
use Rattle.fts_query.specs.Refused.{RefusedAs}

-- a first place is the only one
first_one : (Kind : ℕ → Type 0) (p q : ℕ) → IsFirst Kind p → IsFirst Kind q → p ≡ q
first_one Kind p q first other =
    ⊎_elim (λ same. same)
    (λ order. ⊎_elim (λ less. absurd (other.before p less first.here)) (λ more. absurd (first.before q more other.here)) order)
    (cases_order p q)

module _ (text : List ℕ) (short : length text ≤ 4096) where
  pub exact_syntax : (r : Result Query ParseError) → IfOk r (λ q. IsTreeOf text (tree_of q)) → IfErr r (RefusedAs text) → (place : ℕ) → FaultsAt text place → (r ≡ Err (Syntax (place + 1))) ⊎ (r ≡ Err NoMemory)
  exact_syntax (Ok q) tree refused place faults = absurd (tree_faultless text (tree_of q) tree place faults.here)
  exact_syntax (Err (TooLong n)) tree refused place faults = absurd (omega (arith, refused.0))
  exact_syntax (Err (Syntax at)) tree refused place faults =
      let same = first_one (IsFaulty text (plain text)) refused.1.0 place refused.1.2 faults in
      let at_is : at ≡ place + 1 = refused.1.1 ∙ ap (λ (p : ℕ). p + 1) same in
      inl (ap (λ (x : ℕ). Err (Syntax x)) at_is)
  exact_syntax (Err (TooDeep at)) tree refused place faults = absurd (refused.1.2.faultless place faults.here)
  exact_syntax (Err NoMemory) tree refused place faults = inr refl

  pub exact_depth : (r : Result Query ParseError) → IfOk r (λ _. IsShallow text) → IfErr r (RefusedAs text) → (place : ℕ) → IsTooDeepAt text place → (r ≡ Err (TooDeep (place + 1))) ⊎ (r ≡ Err NoMemory)
  exact_depth (Ok q) shallow refused place deep = absurd (shallow place deep.first.here)
  exact_depth (Err (TooLong n)) shallow refused place deep = absurd (omega (arith, refused.0))
  exact_depth (Err (Syntax at)) shallow refused place deep = absurd (deep.faultless refused.1.0 refused.1.2.here)
  exact_depth (Err (TooDeep at)) shallow refused place deep =
      let same = first_one (IsTooDeep (plain text)) refused.1.0 place refused.1.2.first deep.first in
      let at_is : at ≡ place + 1 = refused.1.1 ∙ ap (λ (p : ℕ). p + 1) same in
      inl (ap (λ (x : ℕ). Err (TooDeep x)) at_is)
  exact_depth (Err NoMemory) shallow refused place deep = inr refl

  pub exact_query : (r : Result Query ParseError) → IfErr r (RefusedAs text) → IsFaultless text → IsShallow text → IsOk r ⊎ (r ≡ Err NoMemory)
  exact_query (Ok q) refused faultless shallow = inl refl
  exact_query (Err (TooLong n)) refused faultless shallow = absurd (omega (arith, refused.0))
  exact_query (Err (Syntax at)) refused faultless shallow = absurd (faultless refused.1.0 refused.1.2.here)
  exact_query (Err (TooDeep at)) refused faultless shallow = absurd (shallow refused.1.0 refused.1.2.first.here)
  exact_query (Err NoMemory) refused faultless shallow = inr refl
