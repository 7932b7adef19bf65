use Rattle.std.proofs.Common.{length, sym, ap}
use Rattle.fts_ilist.specs.Spelling.{first_id}
use Rattle.fts_ilist.proofs.Lists.{empty_made}
use Rattle.fts_ilist.proofs.list.Ilist.with_room.Goals as goal

pub invariant_of-result : goal.invariant_of-result
invariant_of-result c =
    let m = empty_made c.in_ok-bytes.bytes.items c.in_ok-bytes.ensures.items in
    record { list = m.is_list; first_is = ap first_id (sym m.view); count_is = ap length (sym m.view) }

pub returns : goal.returns
returns c = (empty_made c.in_ok-bytes.bytes.items c.in_ok-bytes.ensures.items).view
