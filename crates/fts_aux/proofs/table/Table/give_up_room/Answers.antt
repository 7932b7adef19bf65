use Rattle.std.proofs.Common.{sym, ap, ◌∙◌, List, arith}
use Rattle.std.proofs.Common.{ℕ}
use Rattle.fts_aux.specs.Table.{is_key_at, room_of}
use Rattle.fts_aux.proofs.Kept.{kept_all, filled_none}
use Rattle.fts_aux.proofs.table.Table.give_up_room.Goals as goal

pub drop_empty-requires-clause-filled : goal.drop_empty-requires-clause-filled
drop_empty-requires-clause-filled c = λ n w at none.
    c.self.invariant.filled n w (ap (λ (ks : List (List ℕ)). is_key_at ks n w) (sym c.give_up.ensures.keys) ∙ at) (sym (c.give_up.ensures.nodes w) ∙ none)

pub invariant_of-self : goal.invariant_of-self
invariant_of-self c =
    let new = c.drop_empty.new.words.entries in
    record {
      counted = c.self.invariant.counted ∙ sym (c.drop_empty.ensures.loose ∙ c.give_up.ensures.loose);
      listed = c.drop_empty.ensures.listed;
      filled = filled_none new c.len-self-inside.result c.drop_empty.ensures.filled;
      within = omega (arith, c.len-self-inside.ensures.len, kept_all new);
      noted = λ w some. absurd (some (ap room_of (c.drop_empty.ensures.lists w) ∙ c.give_up.ensures.room w));
    }
