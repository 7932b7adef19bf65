use Rattle.std.proofs.Common.{◌≡◌, ◌≢◌, ℕ, true, List, [], Some, sym, ap, subst, ◌∙◌, arith}
use Rattle.fts_ilist.specs.NodeList.{NodeState}
use Rattle.fts_aux.specs.Table.{Entries, list_in, nodes_in, is_key, room_of, no_room, AreFilled, Becomes}
use Rattle.fts_aux.proofs.Finds.{list_written, list_other}
use Rattle.fts_aux.proofs.Kept.{kept_one, kept_all, key_of, filled_but, filled_none}
use Rattle.fts_aux.proofs.Ordered.{everywhere}
use Rattle.fts_aux.proofs.table.Table.replace_list.Goals as goal

pub invariant_of-self : goal.invariant_of-self
invariant_of-self c =
    let es = c.self.inside.words.entries in
    let replaced = c.replace_in.new.words.entries in
    let new = c.drop_if_empty.new.words.entries in
    let word = c.args.word.now in
    let list = c.give_up_room.new.self in
    let becomes = subst (λ (x : List ℕ). Becomes es x (Some list) replaced) c.as_bytes.ensures c.replace_in.ensures.becomes in
    let drops = c.drop_if_empty.ensures.drops in
    let there : is_key es word ≡ true = key_of es word (subst (λ (t : Entries). nodes_in t word ≢ []) (sym c.self.view_is) c.requires.inside) in
    let are = kept_one es replaced word list becomes there in
    let others : (w : List ℕ) → w ≢ word → list_in new w ≡ list_in es w = λ w apart. drops.lists w ∙ list_other es replaced word (Some list) becomes w apart in
    let room : (w : List ℕ) → room_of (list_in es w) ≡ no_room = subst (λ (t : Entries). (w : List ℕ) → room_of (list_in t w) ≡ no_room) (sym c.self.view_is) c.requires.room in
    let filled = filled_but es new word (subst (λ (t : Entries). AreFilled t) (sym c.self.view_is) c.requires.filled) (λ w k. sym (are w) ∙ drops.are w k)
    (λ w apart. ap (λ (l : NodeState). l.nodes) (others w apart)) drops.gone in
    record {
      counted = c.replace_in.ensures.loose ∙ sym c.drop_if_empty.ensures.loose;
      listed = c.drop_if_empty.ensures.listed (λ w. c.self.invariant.listed w ∙ sym (are w));
      filled = filled_none new c.len-self-inside.result filled;
      within = omega (arith, c.len-self-inside.ensures.len, kept_all new);
      noted = λ w some. absurd (some (everywhere word w (λ (z : List ℕ). room_of (list_in new z) ≡ no_room)
          (ap room_of (drops.lists word ∙ list_written es replaced word list becomes ∙ c.give_up_room.ensures)) (λ apart. ap room_of (others w apart) ∙ room w)));
    }
