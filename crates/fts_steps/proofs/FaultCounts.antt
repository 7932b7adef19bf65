-- Counts of faults over the calls of a run.
use Rattle.std.proofs.Common.{◌≡◌, ◌≤◌, ◌⊎◌, ℕ, ap, subst, ◌∙◌, inl, inr, ⊎_elim, arith}
use Rattle.fts_faults.specs.Count.{CountsFault, Rose}
use Rattle.fts_steps.specs.FaultCounts.{FaultCounts, OneRose, NoneFell, CountsFaultOf}

-- two counts that stand as they stood
pub both_same : (a a' b b' : ℕ) → a' ≡ a → b' ≡ b → ◌≡◌ {A = FaultCounts} (a', b') (a, b)
both_same a a' b b' same same' = ap (λ (n : ℕ). (n, b')) same ∙ ap (λ (n : ℕ). (a, n)) same'

none_fell : (before after : FaultCounts) → after ≡ before → NoneFell before after
none_fell before after same =
    let rows = ap (λ (counts : FaultCounts). counts.0) same in
    let index = ap (λ (counts : FaultCounts). counts.1) same in
    (omega (arith, rows), omega (arith, index))

-- no fault was told, and both stand as they stood
pub counts_calm : (told : Type 0) (before after : FaultCounts) → (told → ⊥) → after ≡ before → CountsFaultOf told before after
counts_calm told before after calm same = record { rose = λ is. absurd (calm is); calm = λ no. same; never_fall = none_fell before after same }

-- a cause that is told by other words
pub counts_told : (told told' : Type 0) (before after : FaultCounts) → (told' → told) → (told → told') → CountsFaultOf told before after
    → CountsFaultOf told' before after
counts_told told told' before after back forth counts = record {
  rose = λ is. counts.rose (back is);
  calm = λ no. counts.calm (λ is. no (forth is));
  never_fall = counts.never_fall;
}

-- a part without a fault, and one behind it
pub counts_behind : (told told' : Type 0) (old mid new : FaultCounts) → (told → ⊥) → CountsFaultOf told old mid → CountsFaultOf told' mid new
    → CountsFaultOf told' old new
counts_behind told told' old mid new calm first behind = subst (λ (counts : FaultCounts). CountsFaultOf told' counts new) (first.calm calm) behind

-- one device alone was called
pub counts_rows : (told : Type 0) (a a' b b' : ℕ) → b' ≡ b → CountsFault told a a' → CountsFaultOf told (a, b) (a', b')
counts_rows told a a' b b' same counts = record {
  rose = λ is. inl (counts.rose is);
  calm = λ no. both_same a a' b b' (counts.calm no) same;
  never_fall = (counts.never_falls, omega (arith, same));
}

pub counts_index : (told : Type 0) (a a' b b' : ℕ) → a' ≡ a → CountsFault told b b' → CountsFaultOf told (a, b) (a', b')
counts_index told a a' b b' same counts = record {
  rose = λ is. inr (counts.rose is);
  calm = λ no. both_same a a' b b' same (counts.calm no);
  never_fall = (omega (arith, same), counts.never_falls);
}

-- a rise stays one, whatever comes before it and behind it
rose_before : (a b c : ℕ) → Rose a b → b ≤ c → Rose a c
rose_before a b c (inl less) up = inl (omega (arith, less, up))
rose_before a b c (inr most) up = inr (omega (arith, most, up))

rose_behind : (a b c : ℕ) → a ≤ b → Rose b c → Rose a c
rose_behind a b c up (inl less) = inl (omega (arith, less, up))
rose_behind a b c up (inr most) = inr most

one_before : (old mid new : FaultCounts) → OneRose old mid → NoneFell mid new → OneRose old new
one_before old mid new (inl rows) up = inl (rose_before old.0 mid.0 new.0 rows up.0)
one_before old mid new (inr index) up = inr (rose_before old.1 mid.1 new.1 index up.1)

one_behind : (old mid new : FaultCounts) → NoneFell old mid → OneRose mid new → OneRose old new
one_behind old mid new up (inl rows) = inl (rose_behind old.0 mid.0 new.0 up.0 rows)
one_behind old mid new up (inr index) = inr (rose_behind old.1 mid.1 new.1 up.1 index)

pub none_fell_both : (old mid new : FaultCounts) → NoneFell old mid → NoneFell mid new → NoneFell old new
none_fell_both old mid new first behind =
    let rows = first.0 in let index = first.1 in let rows' = behind.0 in let index' = behind.1 in
    (omega (arith, rows, rows'), omega (arith, index, index'))

-- two parts, of which each may tell a fault
pub counts_both : (first next told : Type 0) (old mid new : FaultCounts) → (told → first ⊎ next) → (first → told) → (next → told)
    → CountsFaultOf first old mid → CountsFaultOf next mid new → CountsFaultOf told old new
counts_both first next told old mid new parts of_first of_next before behind = record {
  rose = λ is. ⊎_elim (λ e. one_before old mid new (before.rose e) behind.never_fall) (λ e. one_behind old mid new before.never_fall (behind.rose e)) (parts is);
  calm = λ no. behind.calm (λ e. no (of_next e)) ∙ before.calm (λ e. no (of_first e));
  never_fall = none_fell_both old mid new before.never_fall behind.never_fall;
}
