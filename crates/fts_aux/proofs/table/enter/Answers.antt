use Rattle.std.proofs.Common.{◌≡◌, ◌++◌, ◌∷◌, [], List, true, ap, subst, ◌∙◌, rules}
use Rattle.std.proofs.Common.{ℕ}
use Rattle.std.specs.Str.{bytes_eq}
use Rattle.indexmap.proofs.CallerLemmas.{insert_entry-new}
use Rattle.fts_ilist.specs.NodeList.{NodeState}
use Rattle.fts_aux.specs.Table.{Entries, find, Lists}
use Rattle.fts_aux.proofs.Finds.{enters}
use Rattle.fts_aux.proofs.Kept.{lists_by}
use Rattle.fts_aux.proofs.table.enter.Goals as goal

pub returns-clause-ok : goal.returns-clause-ok
returns-clause-ok c =
    let es = c.args.words.now.entries in
    let v : NodeState = record { nodes = []; node_room = c.args.nodes; byte_room = c.args.bytes } in
    let same : c.reserve.new.self.entries ≡ es = c.reserve.ensures.entries in
    let none : find c.in_ok-key.key c.reserve.new.self.entries ≡ _ = ap (λ (x : Entries). find c.in_ok-key.key x) same ∙ ap (λ w. find w es) c.in_ok-key.ensures ∙ c.requires in
    let list : c.reserve-2.new.self ≡ v = search rules in
    enters es c.insert-2.new.self.entries c.in_ok-key.key c.args.word.now v c.in_ok-key.ensures c.requires
    (search rules
    ∙ insert_entry-new (λ (x y : List ℕ). bytes_eq x y) c.reserve.new.self c.in_ok-key.key c.reserve-2.new.self none
    ∙ ap (λ (x : Entries). x ++ (c.in_ok-key.key, c.reserve-2.new.self) ∷ []) same
    ∙ ap (λ (x : NodeState). es ++ (c.in_ok-key.key, x) ∷ []) list)

pub returns-clause-order : goal.returns-clause-order
returns-clause-order c =
    subst (λ (x : List ℕ). Lists c.args.order.now x true c.insert.new.self) c.in_ok-entered.ensures
    (lists_by c.args.order.now c.insert.new.self c.in_ok-entered.entered true c.in_ok-insert.ensures.updates.0)
