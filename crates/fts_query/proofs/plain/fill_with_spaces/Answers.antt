use Rattle.std.proofs.Common.{◌≡◌, ℕ, ◌+◌, ◌-◌, ◌++◌, List, length, take, drop, replicate, sym, ap, ap₂, ◌∙◌, arith, length-take, length-drop}
use Rattle.std.proofs.lemmas.List.{drop-drop}
use Rattle.fts_query.proofs.PlainLemmas.{filled}
use Rattle.fts_query.proofs.plain.fill_with_spaces.Goals as goal

pub returns : goal.returns
returns c =
    let text : List ℕ = c.args.text.now in
    let from : ℕ = c.args.from in
    let n : ℕ = c.args.to - c.args.from in
    let many : length (take n (drop from text)) ≡ n = length-take n (drop from text) ∙ omega (arith, length-drop from text, c.requires.order, c.requires.within) in
    let spaces : c.fill.new.self ≡ replicate {A = ℕ} n 32 = c.fill.ensures.after (λ y e. e) ∙ ap (λ (k : ℕ). replicate {A = ℕ} k 32) many in
    let behind : drop n (drop from text) ≡ drop (from + n) text = drop-drop n from text in
    ap₂ (λ (ys zs : List ℕ). take from text ++ (ys ++ zs)) spaces behind
    ∙ sym (filled text from n (omega (arith, c.requires.order, c.requires.within)))
