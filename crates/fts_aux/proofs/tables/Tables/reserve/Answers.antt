use Rattle.std.proofs.Common.{◌≡◌, ◌&&◌, List, ℕ, cond, length, sym, ap, subst, ◌∙◌, rules}
use Rattle.std.specs.Str.{bytes_eq}
use Rattle.fts_ilist.specs.Node.{nodes_for}
use Rattle.fts_ilist.specs.NodeList.{nodes_size}
use Rattle.fts_aux.specs.Table.{Room, needs, with_room, no_room}
use Rattle.fts_ilist.specs.Node.{Docs, last_of}
use Rattle.fts_aux.specs.Tables.{nodes, room, GainsRoom, begins_above}
use Rattle.fts_aux.proofs.Rooms.{needs_first, gained, room_is}
use Rattle.fts_aux.proofs.Batches.{among_more, no_other, behind_of, first_parts, still_told}
use Rattle.fts_aux.proofs.tables.Tables.reserve.Goals as goal

pub loop-rest-preserved : goal.loop-rest-preserved
loop-rest-preserved c =
    let g = c.first-item.result in
    let behind = behind_of c.loop-rest.rest.now in
    let held = c.loop-rest.self in
    let later = c.reserve_word.new.self in
    let inv = c.loop-rest.invariant in
    let parts = first_parts c.loop-rest.rest.now c.first-item.result c.in-len1-up.len_at_least c.first-item.is in
    let word : c.word.result.now ≡ g.0 = c.word.ensures in
    let bytes : c.in_ok-bytes.bytes ≡ nodes_size g.1 = search rules in
    let need : Room = record { nodes = length c.nodes-in-len1-up.result.now; bytes = c.in_ok-bytes.bytes } in
    let all : need ≡ needs g.1 = room_is need (needs g.1) (ap length c.nodes-in-len1-up.ensures) bytes in
    let gains : GainsRoom held later g.0 (needs g.1) = subst (λ (w : List ℕ). GainsRoom held later w (needs g.1)) word (subst (λ (r : Room). GainsRoom held later c.word.result.now r) all c.in_ok-last.ensures.ok) in (
      λ w. c.reserve_word.ensures.nodes w ∙ inv.0 w,
      λ w. gained (room held w) (room later w) (cond (bytes_eq w g.0) (needs g.1) no_room) (needs (nodes_for w behind)) (needs (nodes_for w c.args.batch.now)) (gains.room_is w)
          (sym (ap (with_room (room held w)) (ap (λ b. needs (nodes_for w b)) parts ∙ needs_first w g.0 g.1 behind)) ∙ inv.1 w),
      no_other held later c.loop-rest.rest.now behind c.args.batch.now g parts inv.3 c.reserve_word.ensures.nodes gains.are inv.2,
      among_more c.loop-rest.rest.now behind c.args.batch.now g parts inv.3,
      still_told c.args.self.now held c.loop-rest.behind c.still_behind-behind.result c.in_ok-last.last g behind c.args.batch.now c.loop-rest.rest.now parts inv.0
          (c.still_behind-behind.ensures ∙ ap (λ (ns : List Docs). c.loop-rest.behind && begins_above c.in_ok-last.last ns) c.nodes-in-len1-up-2.ensures)
          (c.in_ok-last.ensures.last ∙ ap (λ (w : List ℕ). last_of 0 (nodes held w)) word)
          inv.4,
    )
