-- Six tables, each with its own words.
use Rattle.std.proofs.Common.{◌≡◌, ◌≢◌, ℕ, ◌+◌, ◌<◌, ◌==◌, suc, zero, length-set, false, cond, List, [], ◌∷◌, ◌++◌, length, get_or, set, refl, sym, ap, subst, ◌∙◌, arith}
use Rattle.std.proofs.lemmas.Bool.{ne_eqb, eq-eqb}
use Rattle.fts_types.specs.Table.{table_of}
use Rattle.fts_ilist.specs.Node.{Docs, NodesAfter, last_of}
use Rattle.fts_aux.specs.Table.{Entries, nodes_in}
use Rattle.fts_aux.specs.Tables.{Held, nodes, from_table, nodes_from, PlacedFrom, AreTables}
use Rattle.fts_aux.proofs.Ordered.{everywhere}

module _ {A : Type 0} (has : Entries → List ℕ → A) (none : A) where
  abbrev from : ℕ → List Entries → List ℕ → A
  from k ts w = from_table has none k ts w

  pub at_place : (k i : ℕ) (ts : List Entries) (d : Entries) (w : List ℕ) → i < length ts → k + i ≡ table_of w → from k ts w ≡ has (get_or ts i d) w
  at_place k i [] d w lt e = absurd (omega (arith, lt))
  at_place k zero (t ∷ ts) d w lt e =
      ap (λ b. cond b (has t w) (from (suc k) ts w)) (eq-eqb (table_of w) k (omega (arith, e)))
  at_place k (suc i) (t ∷ ts) d w lt e =
      ap (λ b. cond b (has t w) (from (suc k) ts w)) (ne_eqb (table_of w) k (λ z. omega (arith, e, z)))
      ∙ at_place (suc k) i ts d w (omega (arith, lt)) (omega (arith, e))

  pub at_set : (k i : ℕ) (ts : List Entries) (t' : Entries) (w : List ℕ) → i < length ts → k + i ≡ table_of w → from k (set ts i t') w ≡ has t' w
  at_set k i [] t' w lt e = absurd (omega (arith, lt))
  at_set k zero (t ∷ ts) t' w lt e =
      ap (λ b. cond b (has t' w) (from (suc k) ts w)) (eq-eqb (table_of w) k (omega (arith, e)))
  at_set k (suc i) (t ∷ ts) t' w lt e =
      ap (λ b. cond b (has t w) (from (suc k) (set ts i t') w)) (ne_eqb (table_of w) k (λ z. omega (arith, e, z)))
      ∙ at_set (suc k) i ts t' w (omega (arith, lt)) (omega (arith, e))

  pub off_set : (k i : ℕ) (ts : List Entries) (d t' : Entries) (q : List ℕ) → has t' q ≡ has (get_or ts i d) q → from k (set ts i t') q ≡ from k ts q
  off_set k i [] d t' q e = refl
  off_set k zero (t ∷ ts) d t' q e = ap (λ x. cond (table_of q == k) x (from (suc k) ts q)) e
  off_set k (suc i) (t ∷ ts) d t' q e = ap (λ x. cond (table_of q == k) (has t q) x) (off_set (suc k) i ts d t' q e)

  pub off_table : (k i : ℕ) (ts : List Entries) (t' : Entries) (q : List ℕ) → table_of q ≢ k + i → from k (set ts i t') q ≡ from k ts q
  off_table k i [] t' q apart = refl
  off_table k zero (t ∷ ts) t' q apart =
      let off : (table_of q == k) ≡ false = ne_eqb (table_of q) k (λ e. apart (omega (arith, e))) in
      ap (λ b. cond b (has t' q) (from (suc k) ts q)) off ∙ sym (ap (λ b. cond b (has t q) (from (suc k) ts q)) off)
  off_table k (suc i) (t ∷ ts) t' q apart = ap (λ x. cond (table_of q == k) (has t q) x) (off_table (suc k) i ts t' q (λ e. apart (omega (arith, e))))

pub placed_at : (k i : ℕ) (ts : List Entries) (d : Entries) → PlacedFrom k ts → i < length ts → (w : List ℕ) → nodes_in (get_or ts i d) w ≢ [] → table_of w ≡ k + i
placed_at k i [] d p lt w some = absurd (omega (arith, lt))
placed_at k zero (t ∷ ts) d p lt w some = omega (arith, p.0 w some)
placed_at k (suc i) (t ∷ ts) d p lt w some = omega (arith, placed_at (suc k) i ts d p.1 (omega (arith, lt)) w some)

placed_set : (k i : ℕ) (ts : List Entries) (t' : Entries) → PlacedFrom k ts → ((w : List ℕ) → nodes_in t' w ≢ [] → table_of w ≡ k + i) → PlacedFrom k (set ts i t')
placed_set k i [] t' p own = tt
placed_set k zero (t ∷ ts) t' p own = (λ w some. omega (arith, own w some), p.1)
placed_set k (suc i) (t ∷ ts) t' p own = (p.0, placed_set (suc k) i ts t' p.1 (λ w some. omega (arith, own w some)))

-- ---- a change of one word

pub NodesAfter-append : (a : ℕ) (ms ns : List Docs) → NodesAfter a ms → NodesAfter (last_of a ms) ns → NodesAfter a (ms ++ ns)
NodesAfter-append a [] ns h k = k
NodesAfter-append a (m ∷ ms) ns h k = (h.0, NodesAfter-append _ ms ns h.1 k)

pub changed : (ts : List Entries) (i : ℕ) (d t' : Entries) (word : List ℕ) (ns : List Docs) → AreTables ts → i < 6 → i + 1 ≡ table_of word
    → nodes_in t' word ≡ ns → ((q : List ℕ) → q ≢ word → nodes_in t' q ≡ nodes_in (get_or ts i d) q) → NodesAfter 0 ns → AreTables (set ts i t')
changed ts i d t' word ns are few place here others up =
    let lt : i < length ts = omega (arith, few, are.six) in
    record {
      six = length-set ts i t' ∙ are.six;
      placed = placed_set 1 i ts t' are.placed (λ w some. everywhere word w (λ z. nodes_in t' z ≢ [] → table_of z ≡ 1 + i) (λ s. omega (arith, place)) (λ apart s. placed_at 1 i ts d are.placed lt w (λ none. s (others w apart ∙ none))) some);
      ascending = λ w. everywhere word w (λ z. NodesAfter 0 (nodes_from 1 (set ts i t') z))
          (subst (NodesAfter 0) (sym (at_set nodes_in [] 1 i ts t' word lt (omega (arith, place)) ∙ here)) up)
          (λ apart. subst (NodesAfter 0) (sym (off_set nodes_in [] 1 i ts d t' w (others w apart))) (are.ascending w));
    }

pub changed_same : (ts : List Entries) (i : ℕ) (d t' : Entries) → AreTables ts → i < 6 → ((q : List ℕ) → nodes_in t' q ≡ nodes_in (get_or ts i d) q) → AreTables (set ts i t')
changed_same ts i d t' are few same =
    let lt : i < length ts = omega (arith, few, are.six) in
    record {
      six = length-set ts i t' ∙ are.six;
      placed = placed_set 1 i ts t' are.placed (λ w some. placed_at 1 i ts d are.placed lt w (λ none. some (same w ∙ none)));
      ascending = λ w. subst (NodesAfter 0) (sym (off_set nodes_in [] 1 i ts d t' w (same w))) (are.ascending w);
    }

module _ (ts : List Entries) (held : Held) (seen : ts ≡ held) (are : AreTables ts) (i : ℕ) (few : i < 6) (d : Entries) where
  within : i < length ts
  within = omega (arith, few, are.six)

  -- what the table at the place has of a word of its own
  module _ {A : Type 0} (has : Entries → List ℕ → A) (none : A) where
    pub own : (w : List ℕ) → i + 1 ≡ table_of w → from_table has none 1 held w ≡ has (get_or ts i d) w
    own w place = ap (λ h. from_table has none 1 h w) (sym seen) ∙ at_place has none 1 i ts d w within (omega (arith, place))

    -- and of one that is changed there
    pub here : (t' : Entries) (w : List ℕ) → i + 1 ≡ table_of w → from_table has none 1 (set ts i t') w ≡ has t' w
    here t' w place = at_set has none 1 i ts t' w within (omega (arith, place))

    pub other : (t' : Entries) (q : List ℕ) → has t' q ≡ has (get_or ts i d) q → from_table has none 1 (set ts i t') q ≡ from_table has none 1 held q
    other t' q same = off_set has none 1 i ts d t' q same ∙ ap (λ h. from_table has none 1 h q) seen

    -- a word of another table
    pub elsewhere : (t' : Entries) (q : List ℕ) → table_of q ≢ i + 1 → from_table has none 1 (set ts i t') q ≡ from_table has none 1 held q
    elsewhere t' q apart = off_table has none 1 i ts t' q (λ e. apart (omega (arith, e))) ∙ ap (λ h. from_table has none 1 h q) seen

  pub own_nodes : (w : List ℕ) → i + 1 ≡ table_of w → nodes held w ≡ nodes_in (get_or ts i d) w
  own_nodes w place = own nodes_in [] w place

  pub own_after : (w : List ℕ) → i + 1 ≡ table_of w → NodesAfter 0 (nodes_in (get_or ts i d) w)
  own_after w place = subst (NodesAfter 0) (at_place nodes_in [] 1 i ts d w within (omega (arith, place))) (are.ascending w)
