use Rattle.std.proofs.Common.{◌≡◌, ℕ, ◌+◌, ◌-◌, ◌≤◌, ◌++◌, List, length, take, drop, get_or, slice_index, replicate, refl, sym, ap, ap₂, ◌∙◌, arith, inl, inr}
use Rattle.std.proofs.lemmas.Bool.{cases_lt}
use Rattle.std.proofs.lemmas.List.{take_all, length-drop, get_or-drop, get_or_past, get_or_append_left, get_or-append_right, get_or-replicate, drop-replicate, length-replicate}
use Rattle.fts_token.proofs.marks.padded.Goals as goal

-- what stands at a place of zeros, or behind them
zero_at : (n k : ℕ) → ◌≡◌ {A = ℕ} (get_or (replicate n 0) k 0) 0
zero_at n k =
    elim (cases_lt k n) [
      | inl less ↦ get_or-replicate n k 0 0 less
      | inr past ↦ get_or_past (replicate n 0) k 0 (omega (arith, past, length-replicate {A = ℕ} n 0))
    ]

-- the end of a text before zeros, by its places
end_at : (text : List ℕ) (at k n m : ℕ) → at ≤ length text → n ≡ length (drop at text) → get_or (drop at text ++ drop n (replicate m 0)) k 0 ≡ get_or text (at + k) 0
end_at text at k n m within long =
    elim (cases_lt k (length (drop at text))) [
      | inl less ↦ get_or_append_left (drop at text) (drop n (replicate m 0)) 0 k less ∙ get_or-drop at text k 0
      | inr past ↦
          get_or-append_right (drop at text) (drop n (replicate m 0)) (length (drop at text)) k 0 refl past
          ∙ ap (λ (l : List ℕ). get_or l (k - length (drop at text)) 0) (drop-replicate n m 0)
          ∙ zero_at (m - n) (k - length (drop at text))
          ∙ sym (get_or_past text (at + k) 0 (omega (arith, past, length-drop at text, within)))
    ]

pub returns-clause-bytes : goal.returns-clause-bytes
returns-clause-bytes c = λ k.
    let text = c.args.text.now in
    let at = c.args.at in
    let whole : take (length text - at) (drop at text) ≡ drop at text = take_all (length text - at) (drop at text) (omega (arith, length-drop at text)) in
    ap₂ (λ (front : List ℕ) (n : ℕ). slice_index (front ++ drop n (replicate 64 0)) k) (c.copy_from_slice.ensures.after ∙ whole) (ap length whole)
    ∙ end_at text at k (length (drop at text)) 64 c.requires.within refl
