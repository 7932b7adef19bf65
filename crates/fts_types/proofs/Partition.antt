-- The tables of words that stand in byte order.
use Rattle.std.proofs.Common.{◌≡◌, ℕ, ◌<◌, ◌≤◌, List, [], ◌∷◌, refl, sym, ap, subst, ◌∙◌, ⊎_elim, arith, slice_index}
use Rattle.std.specs.declared.cmp.Ordering.TheVariants.{Less, Greater}
use Rattle.std.specs.Ordering.{nat_cmp, is_gt, ordering_then}
use Rattle.std.specs.Cmp.{nat_cmp_is}
use Rattle.std.specs.Cmp.Lexicographic.{slice_cmp}
use Rattle.std.proofs.lemmas.Bool.{cases_lt, cases_eq, true≢false}
use Rattle.std.proofs.lemmas.Bool.Decides.{nat_tests}
use Rattle.fts_types.specs.Table.{table_of, table_of_byte}

pub byte_tables_rise : (a b : ℕ) → a ≤ b → b ≤ 122 → table_of_byte a ≤ table_of_byte b
byte_tables_rise a b le low = grind (arith, nat_tests)

pub high_byte : (b : ℕ) → 122 < b → table_of_byte b ≡ 1
high_byte b high = grind (arith, nat_tests)

-- a word's first byte doesn't fall from a word to one behind it
pub first_rises : (u v : List ℕ) → slice_cmp nat_cmp u v ≡ Less → slice_index u 0 ≤ slice_index v 0
first_rises [] v less = omega arith
first_rises (a ∷ u) [] less = absurd (true≢false (ap is_gt less))
first_rises (a ∷ u) (b ∷ v) less =
    ⊎_elim
    (λ lt. omega (arith, lt))
    (λ ge. ⊎_elim
    (λ e. omega (arith, e))
    (λ ne. let above : b < a = omega (arith, ge, ne) in
    absurd (true≢false (ap is_gt (subst (λ o. ordering_then o (slice_cmp nat_cmp u v) ≡ Less) (sym (nat_cmp_is a b Greater above)) less))))
    (cases_eq a b))
    (cases_lt a b)

by_first : (u : List ℕ) → table_of u ≡ table_of_byte (slice_index u 0)
by_first [] = refl
by_first (a ∷ u) = refl

-- up to the letter z the table of a word doesn't fall from a word to one behind it
pub tables_rise_to_z : (u v : List ℕ) → slice_cmp nat_cmp u v ≡ Less → slice_index v 0 ≤ 122 → table_of u ≤ table_of v
tables_rise_to_z u v less low =
    omega (arith, by_first u, by_first v, byte_tables_rise (slice_index u 0) (slice_index v 0) (first_rises u v less) low)

pub high_table : (v : List ℕ) → 122 < slice_index v 0 → table_of v ≡ 1
high_table v high = by_first v ∙ high_byte (slice_index v 0) high
