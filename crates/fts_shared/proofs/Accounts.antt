-- What steps that were made say of the account of who made them.
use Rattle.std.proofs.Common.{◌≡◌, ℕ, ◌+◌, List, [], ◌∷◌, ◌++◌, length, ap, ◌∙◌, sym, append-nil, arith}
use Rattle.std.proofs.lemmas.List.{append_assoc}
use Rattle.std.specs.Prelude.{IsTrue}
use Rattle.fts_steps.specs.Running.{Running, Entry}
use Rattle.fts_steps.specs.Step.{Call, Sight, AreMade, Follows, entries_of}
use Rattle.fts_steps.proofs.Making.{made_traced, traced_follows}
use Rattle.fts_shared.specs.Talk.{history_of, own_of}

module _ {S : Type 0} (sight : Sight S) where
  -- it has what others added between these steps, and what they added
  pub record TellsOf (calls : List Call) (old new : S) : Type 0 where
    pub number : (sight.account new).number ≡ (sight.account old).number
    pub seen : (sight.account new).seen ≡ (sight.account old).seen ++ history_of (sight.account old).number calls
    pub gave : (sight.account new).gave ≡ (sight.account old).gave ++ own_of (sight.account old).number calls
    pub turns : (sight.account new).turns ≡ (sight.account old).turns + length calls
    pub place : sight.place new ≡ sight.place old

  pub made_tells : IsTrue sight.is_shared → (calls : List Call) (old new : S) → AreMade sight calls old new → TellsOf calls old new
  made_tells shared [] old new is = record {
    number = ap (λ (s : S). (sight.account s).number) is;
    seen = ap (λ (s : S). (sight.account s).seen) is ∙ sym (append-nil (sight.account old).seen);
    gave = ap (λ (s : S). (sight.account s).gave) is ∙ sym (append-nil (sight.account old).gave);
    turns = let same = ap (λ (s : S). (sight.account s).turns) is in omega (arith, same);
    place = ap sight.place is;
  }
  made_tells shared (call ∷ calls) old new (mid, (step, same), made) =
      let n = (sight.account old).number in
      let own = entries_of n call.ask call.answer in
      let first = step.tells shared in
      let rest = made_tells shared calls mid new made in
      let one = first.turns_are in
      let others = rest.turns in
      record {
        number = rest.number ∙ first.number;
        seen = rest.seen ∙ ap (λ (k : ℕ). (sight.account mid).seen ++ history_of k calls) first.number
            ∙ ap (λ (seen : List Entry). seen ++ history_of n calls) first.seen
            ∙ append_assoc (sight.account old).seen (step.more ++ own) (history_of n calls)
            ∙ ap (λ (xs : List Entry). (sight.account old).seen ++ xs) (append_assoc step.more own (history_of n calls))
            ∙ ap (λ (more : List Entry). (sight.account old).seen ++ (more ++ (own ++ history_of n calls))) same;
        gave = rest.gave ∙ ap (λ (k : ℕ). (sight.account mid).gave ++ own_of k calls) first.number
            ∙ ap (λ (gave : List Entry). gave ++ own_of n calls) first.gave
            ∙ append_assoc (sight.account old).gave own (own_of n calls);
        turns = omega (arith, one, others);
        place = rest.place ∙ first.place;
      }

  -- each of them answered as it may
  pub made_follows : (calls : List Call) (running : Running) (old new : S) → sight.stands running old → AreMade sight calls old new → Follows (sight.limits old) running calls
  made_follows calls running old new stands made = traced_follows sight running calls old new (made_traced sight calls running old new stands made)
