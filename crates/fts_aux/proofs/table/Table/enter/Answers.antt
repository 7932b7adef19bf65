use Rattle.std.proofs.Common.{◌≡◌, ◌++◌, ◌∷◌, [], length, ℕ, List, None, refl, sym, ap, ◌∙◌, subst, rules}
use Rattle.fts_aux.specs.Table.{IsTable, find}
use Rattle.fts_aux.proofs.Kept.{table_entered}
use Rattle.fts_aux.proofs.table.Table.enter.Goals as goal

pub invariant_of-self-2 : goal.invariant_of-self-2
invariant_of-self-2 c =
    let es = c.self.inside.words.entries in
    let number : c.len-number.result ≡ length es = c.len-number.ensures.len in
    let notes : c.push_back.new.self.items ≡ c.self.inside.notes.items ++ c.len-number.result ∷ [] = search rules in
    let new = c.enter.new.words.entries in
    let none : find c.args.word.now es ≡ None = ap (find c.args.word.now) c.self.view_is ∙ c.requires.absent in
    subst (λ (x : List ℕ). IsTable new c.enter.new.order c.self.inside.kept x c.self.inside.loose) (sym (notes ∙ ap (λ n. c.self.inside.notes.items ++ n ∷ []) number))
    (table_entered es new c.self.inside.order c.enter.new.order c.self.inside.kept c.self.inside.notes.items c.args.word.now _ c.self.inside.loose c.self.invariant none refl c.in_ok-enter.ensures.ok c.in_ok-enter.ensures.order)
