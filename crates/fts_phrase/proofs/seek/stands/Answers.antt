use Rattle.std.proofs.Common.{◌≡◌, ℕ, ◌+◌, ◌-◌, ◌<◌, List, length, take, drop, ap, ◌∙◌, arith, length-take, length-drop}
use Rattle.std.specs.Char.{to_ascii_lowercase}
use Rattle.std.proofs.lemmas.List.{get_or-take, get_or-drop}
use Rattle.fts_phrase.proofs.Given.{all_alike}
use Rattle.fts_phrase.proofs.seek.stands.Goals as goal

pub returns : goal.returns
returns c stands =
    let text = c.args.text.now in
    let word = c.args.word.now in
    let place = c.args.place in
    let size = place + length word - place in
    let found : List ℕ = take size (drop place text) in
    let long : length found ≡ length word = omega (arith, length-take size (drop place text), length-drop place text, stands.within) in
    c.is_lowered.ensures
    ∙ all_alike found word long
    (λ k less.
    let inside : k < size = omega (arith, less, long) in
    ap to_ascii_lowercase (get_or-take size (drop place text) k 0 inside ∙ get_or-drop place text k 0) ∙ stands.bytes k (omega (arith, less, long)))
