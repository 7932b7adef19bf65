use Rattle.std.proofs.Common.{◌≡◌, ◌+◌, sym, ap, ◌∙◌, false, [], cond, ⊎_elim, inl, inr}
use Rattle.std.specs.Str.{bytes_eq}
use Rattle.std.proofs.lemmas.Bool.{cases_eq}
use Rattle.fts_types.specs.Table.{table_of}
use Rattle.fts_aux.specs.Table.{nodes_in, is_key, no_room, with_room, Room}
use Rattle.fts_aux.specs.Tables.{room_in, room}
use Rattle.fts_aux.proofs.Ends.{on_ok}
use Rattle.fts_aux.proofs.Finds.{not_true, same_text}
use Rattle.fts_aux.proofs.Rooms.{with_none}
use Rattle.fts_aux.proofs.Places.{own, here, other, elsewhere, changed_same}
use Rattle.fts_aux.proofs.tables.Tables.reserve_word.Goals as goal

pub invariant_of-self : goal.invariant_of-self
invariant_of-self c = changed_same c.self.inside.tables c.place_of_bytes.result c.index-self-place_of_bytes.result c.reserve.new.self c.self.invariant c.place_of_bytes.ensures.few c.reserve.ensures.stay.nodes

pub returns-clause-nodes : goal.returns-clause-nodes
returns-clause-nodes c = λ q. other c.self.inside.tables c.args.self.now c.self.view_is c.self.invariant c.place_of_bytes.result c.place_of_bytes.ensures.few c.index-self-place_of_bytes.result nodes_in [] c.reserve.new.self q (c.reserve.ensures.stay.nodes q)

pub returns-clause-ok : goal.returns-clause-ok
returns-clause-ok c =
    let t = c.reserve.new.self in
    let word = c.args.word.now in
    let more : Room = record { nodes = c.args.count; bytes = c.args.bytes } in
    on_ok c.reserve.result _ _ (λ adds. record {
      room_is = λ q. ⊎_elim
          (λ (same : table_of q ≡ c.place_of_bytes.result + 1).
          here c.self.inside.tables c.args.self.now c.self.view_is c.self.invariant c.place_of_bytes.result c.place_of_bytes.ensures.few c.index-self-place_of_bytes.result room_in no_room t q (sym same) ∙ adds q
          ∙ ap (λ r. with_room r (cond (bytes_eq q word) more no_room)) (sym (own c.self.inside.tables c.args.self.now c.self.view_is c.self.invariant c.place_of_bytes.result c.place_of_bytes.ensures.few c.index-self-place_of_bytes.result room_in no_room q (sym same))))
          (λ apart.
          let differs : bytes_eq q word ≡ false = not_true (bytes_eq q word) (λ e. apart (ap table_of (same_text q word e) ∙ sym c.place_of_bytes.ensures.table)) in
          elsewhere c.self.inside.tables c.args.self.now c.self.view_is c.self.invariant c.place_of_bytes.result c.place_of_bytes.ensures.few c.index-self-place_of_bytes.result room_in no_room t q apart ∙ sym (with_none (room c.args.self.now q))
          ∙ sym (ap (λ b. with_room (room c.args.self.now q) (cond b more no_room)) differs))
          (cases_eq (table_of q) (c.place_of_bytes.result + 1));
      are = λ q k. ⊎_elim
          (λ (same : table_of q ≡ c.place_of_bytes.result + 1).
          ⊎_elim
          (λ was. inl (own c.self.inside.tables c.args.self.now c.self.view_is c.self.invariant c.place_of_bytes.result c.place_of_bytes.ensures.few c.index-self-place_of_bytes.result is_key false q (sym same) ∙ was))
          (λ it. inr it)
          (c.reserve.ensures.stay.keys q (sym (here c.self.inside.tables c.args.self.now c.self.view_is c.self.invariant c.place_of_bytes.result c.place_of_bytes.ensures.few c.index-self-place_of_bytes.result is_key false t q (sym same)) ∙ k)))
          (λ apart. inl (sym (elsewhere c.self.inside.tables c.args.self.now c.self.view_is c.self.invariant c.place_of_bytes.result c.place_of_bytes.ensures.few c.index-self-place_of_bytes.result is_key false t q apart) ∙ k))
          (cases_eq (table_of q) (c.place_of_bytes.result + 1));
    }) c.reserve.ensures.room
