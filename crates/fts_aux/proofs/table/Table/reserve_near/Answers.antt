use Rattle.std.proofs.Common.{◌≡◌, ℕ, List, ◌++◌, ◌∷◌, [], rules, sym, ap, subst, ◌∙◌, Some}
use Rattle.fts_ilist.specs.NodeList.{NodeState}
use Rattle.fts_aux.specs.Table.{list_in, room_of, IsTable}
use Rattle.fts_aux.proofs.Kept.{table_appended, table_reserved, are_written}
use Rattle.fts_aux.proofs.Finds.{list_written, list_other}
use Rattle.fts_aux.proofs.Counts.{count_kept}
use Rattle.fts_aux.proofs.table.Table.reserve_near.Goals as goal

pub invariant_of-self-in_err-reserve_at-in-Some : goal.invariant_of-self-in_err-reserve_at-in-Some
invariant_of-self-in_err-reserve_at-in-Some c =
    let es = c.self.inside.words.entries in
    let new = c.reserve_at.new.words.entries in
    let word = c.args.word.now in
    let l = list_in es word in
    let same : c.reserve.new.self.items ≡ c.self.inside.notes.items = search rules in
    let wr = c.in_err-reserve_at-in-Some.ensures.err in
    let at = c.in-Some.ensures.some in
    let now : list_in new word ≡ l = list_written es new word l wr.becomes in
    subst (λ (x : List ℕ). IsTable new c.self.inside.order c.self.inside.kept x c.self.inside.loose) (sym same)
    (table_appended es new c.self.inside.order c.self.inside.kept c.self.inside.notes.items word c.self.inside.loose c.self.invariant wr.keys
    (are_written es new word l c.in-Some.number wr.becomes at) (list_other es new word (Some l) wr.becomes)
    (λ none. ap (λ (x : NodeState). x.nodes) (sym now) ∙ none) c.self.inside.loose
    (c.self.invariant.counted ∙ sym (count_kept es new word wr.keys (list_other es new word (Some l) wr.becomes) (ap (λ (x : NodeState). x.nodes) now)))
    (λ none. ap room_of now ∙ none))

pub invariant_of-self-in-Some : goal.invariant_of-self-in-Some
invariant_of-self-in-Some c =
    let es = c.self.inside.words.entries in
    let new = c.reserve_at.new.words.entries in
    let word = c.args.word.now in
    let notes : c.push_back.new.self.items ≡ c.self.inside.notes.items ++ c.in-Some.number ∷ [] = search rules in
    let wr = c.in_ok-reserve_at-in-Some.ensures.ok in
    let at = c.in-Some.ensures.some in
    let now = list_written es new word _ wr.becomes in
    subst (λ (x : List ℕ). IsTable new c.self.inside.order c.self.inside.kept x c.self.inside.loose) (sym notes)
    (table_reserved es new c.self.inside.order c.self.inside.kept c.self.inside.notes.items word c.self.inside.loose c.self.invariant wr.keys
    (are_written es new word _ c.in-Some.number wr.becomes at) (list_other es new word (Some _) wr.becomes)
    (λ none. ap (λ (x : NodeState). x.nodes) (sym now) ∙ none) (ap (λ (x : NodeState). x.nodes) now) c.in-Some.number at)
