-- The words that are held between two places of a buffer.
use Rattle.std.proofs.Common.{◌≡◌, ℕ, suc, ◌+◌, ◌<◌, ◌≤◌, List, [], ◌∷◌, length, take, drop, get_or, ap, ◌∙◌, arith}
use Rattle.std.proofs.lemmas.List.{drop-take, get_or-take, length-take-le}
use Rattle.std.proofs.Math.Seq.{drop-cons}

module _ {X : Type 0} (found : List X) (given held : ℕ) where
  pub none_held : given ≡ held → drop given (take held found) ≡ []
  none_held e = let same : held ≡ given + 0 = omega arith in ap (λ n. drop given (take n found)) same ∙ drop-take given 0 found

  pub next_held : (d : X) → given < held → held ≤ length found → drop given (take held found) ≡ get_or found given d ∷ drop (given + 1) (take held found)
  next_held d less room =
      let place : suc given ≡ given + 1 = omega arith in
      drop-cons (take held found) given d (omega (arith, length-take-le held found room))
      ∙ ap (λ x. x ∷ drop (suc given) (take held found)) (get_or-take held found given d less)
      ∙ ap (λ n. get_or found given d ∷ drop n (take held found)) place
