-- What the bounds of a block say of the words that are left.
use Rattle.std.proofs.Common.{◌≡◌, ℕ, zero, suc, ◌+◌, ◌-◌, ◌^◌, ◌<◌, ◌≤◌, Bool, true, false, List, [], ◌∷◌, length, w64, sym, refl, ap, ◌∙◌, subst, ⊎_elim, arith}
use Rattle.std.specs.Int.{trailing_zeros}
use Rattle.std.specs.Int.Bits.{bit_and}
use Rattle.std.proofs.lemmas.Bool.{cases_lt}
use Rattle.fts_words.specs.RawWords.{in_word, raw_words_from}
use Rattle.fts_words.specs.Run.{starts, runs_from}
use Rattle.fts_words.proofs.RunLemmas.{clash, first_run, no_run, runs_skip, starts_outside}
use Rattle.fts_words.proofs.WordLemmas.{in_word_past}
use Rattle.fts_token.specs.Bits.{has_bit, differ}
use Rattle.fts_token.specs.Bounds.{is_inside, is_bound, IsAhead, IsNextBound, IsFound}
use Rattle.fts_token.proofs.Bits.{has_bit-zero, lowest_set, lowest_within, none_below, kept_above, cleared}

-- behind a text's end no word starts
pub no_words : (text : List ℕ) (place : ℕ) → length text ≤ place → raw_words_from text place ≡ []
unfolding runs_from
no_words text place past = let none : length text - place ≡ 0 = omega arith in rw none refl

same_of_differ : (a b : Bool) → differ a b ≡ false → a ≡ b
same_of_differ true true e = refl
same_of_differ true false e = e
same_of_differ false true e = sym e
same_of_differ false false e = refl

module _ (text : List ℕ) where
  -- what the place behind one says of it
  inside_behind : (k : ℕ) → is_inside text (suc k) ≡ in_word text k
  unfolding is_inside
  inside_behind k = refl

  -- without a bound, all places are alike
  steady : (at n : ℕ) → ((k : ℕ) → at ≤ k → k < at + n → is_bound text k ≡ false) → is_inside text (at + n) ≡ is_inside text at
  unfolding is_bound
  steady at zero none = let here : at + 0 ≡ at = omega arith in ap (is_inside text) here
  steady at (suc n) none =
      let next : at + suc n ≡ suc (at + n) = omega arith in
      ap (is_inside text) next ∙ inside_behind (at + n) ∙ same_of_differ (in_word text (at + n)) (is_inside text (at + n)) (none (at + n) (omega arith) (omega arith))
      ∙ steady at n (λ k low high. none k low (omega arith))

  steady_to : (at k : ℕ) → at ≤ k → ((i : ℕ) → at ≤ i → i < k → is_bound text i ≡ false) → is_inside text k ≡ is_inside text at
  steady_to at k order none =
      let place : at + (k - at) ≡ k = omega arith in
      ap (is_inside text) (sym place) ∙ steady at (k - at) (λ i low high. none i low (omega arith))

  -- the word that two bounds enclose
  module _ (at from : ℕ) (outside : is_inside text at ≡ false) (order : at ≤ from) (none : (k : ℕ) → at ≤ k → k < from → is_bound text k ≡ false) (bound : is_bound text from ≡ true) where
    before : (k : ℕ) → at ≤ k → k < from → in_word text k ≡ false
    before k low high = sym (inside_behind k) ∙ steady_to at (suc k) (omega arith) (λ i from_at less. none i from_at (omega arith)) ∙ outside

    started : in_word text from ≡ true
    unfolding is_bound
    started =
        let not_inside = steady_to at from order none ∙ outside in
        second (in_word text from) (is_inside text from) not_inside bound
      where
        second : (a b : Bool) → b ≡ false → differ a b ≡ true → a ≡ true
        second true b e d = refl
        second false b e d = sym e ∙ d

    started_within : from < length text
    started_within = ⊎_elim (λ (less : from < length text). less) (λ (past : length text ≤ from). clash _ started (in_word_past text from past)) (cases_lt from (length text))

    pub inside_from : is_inside text (from + 1) ≡ true
    inside_from = let next : from + 1 ≡ suc from = omega arith in ap (is_inside text) next ∙ inside_behind from ∙ started

    each : (k : ℕ) → from ≤ k → ((i : ℕ) → from + 1 ≤ i → i ≤ k → is_bound text i ≡ false) → in_word text k ≡ true
    each k low alike = sym (inside_behind k) ∙ steady_to (from + 1) (suc k) (omega arith) (λ i above less. alike i above (omega arith)) ∙ inside_from

    -- a word that starts ends
    pub ends : {P : Type 0} → ((k : ℕ) → from + 1 ≤ k → k ≤ length text → is_bound text k ≡ false) → P
    ends all =
        let last = length text in
        clash (in_word text last) (each last (omega (arith, started_within)) (λ i above up. all i above up)) (in_word_past text last (omega arith))

    module _ (to : ℕ) (some : from + 1 ≤ to) (alike : (k : ℕ) → from + 1 ≤ k → k < to → is_bound text k ≡ false) (last : is_bound text to ≡ true) where
      inside_word : (k : ℕ) → from ≤ k → k < to → in_word text k ≡ true
      inside_word k low high = each k low (λ i above up. alike i above (omega arith))

      ended : in_word text to ≡ false
      unfolding is_bound
      ended =
          let still = steady_to (from + 1) to some alike ∙ inside_from in
          second (in_word text to) (is_inside text to) still last
        where
          second : (a b : Bool) → b ≡ true → differ a b ≡ true → a ≡ false
          second true true e d = sym d
          second true false e d = sym e
          second false b e d = refl

      within : to ≤ length text
      within = ⊎_elim (λ (past : length text < to). clash _ (inside_word (to - 1) (omega arith) (omega arith)) (in_word_past text (to - 1) (omega arith))) (λ (up : to ≤ length text). up) (cases_lt (length text) to)

      rest : raw_words_from text to ≡ raw_words_from text (to + 1)
      rest = ⊎_elim
          (λ (less : to < length text). runs_skip (in_word text) (length text) to (to + 1) (omega arith) (omega arith) (λ k low high. let here : to ≡ k = omega arith in subst (λ (x : ℕ). starts (in_word text) x ≡ false) here (starts_outside (in_word text) to ended)))
          (λ (past : length text ≤ to). no_words text to past ∙ sym (no_words text (to + 1) (omega arith)))
          (cases_lt to (length text))

      pub found : (start bounds : ℕ) → IsAhead text (to + 1) start bounds → IsFound text at (record { from = from; to = to }) start bounds
      found start bounds ahead = record {
        first = first_run (in_word text) (length text) at from to order within before (record {
          nonempty = omega arith;
          each = inside_word;
          before = λ i next. ⊎_elim
              (λ (less : i < at). let same : suc i ≡ at = omega arith in sym (inside_behind i) ∙ ap (is_inside text) same ∙ outside)
              (λ (more : at ≤ i). before i more (omega arith))
              (cases_lt i at);
          behind = ended;
        }) ∙ ap (λ t. record { from = from; to = to } ∷ t) rest;
        order = order;
        some = omega arith;
        within = within;
        outside = let next : to + 1 ≡ suc to = omega arith in ap (is_inside text) next ∙ inside_behind to ∙ ended;
        ahead = ahead;
      }

  -- no bound, no word
  pub none_left : (at : ℕ) → is_inside text at ≡ false → ((k : ℕ) → at ≤ k → k ≤ length text → is_bound text k ≡ false) → raw_words_from text at ≡ []
  none_left at outside none =
      ⊎_elim
      (λ (less : at < length text).
      no_run (in_word text) (length text) at (omega arith) (λ k low high. sym (inside_behind k) ∙ steady_to at (suc k) (omega arith) (λ i from_at up. none i from_at (omega arith)) ∙ outside))
      (λ (past : length text ≤ at). no_words text at past)
      (cases_lt at (length text))

-- the first places of a text
pub first_places : (text : List ℕ) (bounds : ℕ) → ((j : ℕ) → j < 64 → has_bit bounds j ≡ is_bound text (0 + j)) → IsAhead text 0 0 bounds
first_places text bounds each = record {
  near = omega arith;
  order = omega arith;
  none = λ k low high. absurd (omega arith);
  done = λ j less before. absurd (omega arith);
  each = λ j less more. each j less;
}

-- behind a text's end no bound stands
no_bound : (text : List ℕ) (k : ℕ) → length text + 1 ≤ k → is_bound text k ≡ false
unfolding is_bound is_inside
no_bound text zero past = absurd (omega arith)
no_bound text (suc i) past =
    let here = in_word_past text (suc i) (omega arith) in
    let last = in_word_past text i (omega arith) in
    rw (here, last) refl

-- the end of a text
pub last_place : (text : List ℕ) → IsAhead text (length text + 1) (length text) 0
last_place text = record {
  near = omega arith;
  order = omega arith;
  none = λ k low high. absurd (omega arith);
  done = λ j less before. has_bit-zero j;
  each = λ j less more. has_bit-zero j ∙ sym (no_bound text (length text + j) (omega arith));
}

pub outside_over : (text : List ℕ) → is_inside text (length text + 1) ≡ false
outside_over text =
    let next : length text + 1 ≡ suc (length text) = omega arith in
    ap (is_inside text) next ∙ inside_behind text (length text) ∙ in_word_past text (length text) (omega arith)

module _ (text : List ℕ) (at start bounds : ℕ) (ahead : IsAhead text at start bounds) where
  -- without bits, no bound
  pub exhausted : bounds ≡ 0 → (k : ℕ) → at ≤ k → k < start + 64 → is_bound text k ≡ false
  exhausted none k low high =
      ⊎_elim (λ (less : k < start). ahead.none k low less)
      (λ (more : start ≤ k).
      let place : start + (k - start) ≡ k = omega arith in
      sym (ap (is_bound text) place) ∙ sym (ahead.each (k - start) (omega arith) (omega arith)) ∙ ap (λ m. has_bit m (k - start)) none ∙ has_bit-zero (k - start))
      (cases_lt k start)

  -- the block behind one without bits
  pub next_block : bounds ≡ 0 → start + 64 ≤ length text → (more : ℕ) → ((j : ℕ) → j < 64 → has_bit more j ≡ is_bound text (start + 64 + j)) → IsAhead text at (start + 64) more
  next_block none inside_text more each = record {
    near = inside_text;
    order = omega (arith, ahead.order);
    none = λ k low high. exhausted none k low high;
    done = λ j less before. absurd (omega (arith, ahead.order));
    each = λ j less from. each j less;
  }

  -- whether the places are inside a word is known from the first
  pub inside_next : bounds ≡ 0 → is_inside text (start + 64) ≡ is_inside text at
  inside_next none = steady_to text at (start + 64) ahead.order (λ i low high. exhausted none i low high)

  module _ (some : 0 < bounds) (fits : bounds < 2 ^ 64) where
    abbrev t : ℕ
    t = trailing_zeros w64 bounds

    -- the bound was not passed yet
    not_done : at ≤ start + t
    not_done =
        ⊎_elim (λ (before : start + t < at). clash (has_bit bounds t) (lowest_set bounds some fits) (ahead.done t (lowest_within bounds some fits) before)) (λ (more : at ≤ start + t). more) (cases_lt (start + t) at)

    pub taken : IsNextBound text at (start + t) start (bit_and bounds (bounds - 1))
    taken = record {
      order = not_done;
      none = λ k low high.
          ⊎_elim (λ (less : k < start). ahead.none k low less)
          (λ (more : start ≤ k).
          let place : start + (k - start) ≡ k = omega arith in
          sym (ap (is_bound text) place) ∙ sym (ahead.each (k - start) (omega (arith, lowest_within bounds some fits)) (omega arith)) ∙ none_below bounds some fits (k - start) (omega arith))
          (cases_lt k start);
      bound = sym (ahead.each t (lowest_within bounds some fits) not_done) ∙ lowest_set bounds some fits;
      ahead = record {
        near = ahead.near;
        order = omega (arith, lowest_within bounds some fits);
        none = λ k low high. absurd (omega (arith, not_done));
        done = λ j less before. cleared bounds some fits j (omega arith);
        each = λ j less more. kept_above bounds some fits j (omega arith) ∙ ahead.each j less (omega (arith, not_done));
      };
    }
