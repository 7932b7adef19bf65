use Rattle.std.proofs.Common.{◌≡◌, ℕ, Bool, true, false, not, Option, List, Some, refl, sym, ap, ◌∙◌}
use Rattle.std.specs.Option.{unwrap_or}
use Rattle.fts_ilist.specs.NodeList.{NodeState}
use Rattle.fts_aux.specs.Table.{find, list_in, no_list, room_of}
use Rattle.fts_aux.proofs.Finds.{key_at, same_text}
use Rattle.fts_aux.proofs.table.is_filled_at.Goals as goal

false_by : (b : Bool) → not b ≡ true → b ≡ false
false_by false e = refl
false_by true e = sym e

pub returns-in-Some : goal.returns-in-Some
returns-in-Some c = λ w filled at.
    let es = c.args.words.now.entries in
    let key = c.in-Some.field-0-0.now in
    let here = same_text w key (sym (key_at es c.args.number key c.in-Some.list.now w c.in-Some.ensures.entry) ∙ at) in
    let found : find key es ≡ Some c.in-Some.list.now = c.in-Some.ensures.value in
    ap (λ (x : List ℕ). room_of (list_in es x)) here
    ∙ ap (λ (o : Option NodeState). room_of (unwrap_or o no_list)) found
    ∙ ap room_of (c.has_room.ensures.none (false_by c.has_room.result filled))
