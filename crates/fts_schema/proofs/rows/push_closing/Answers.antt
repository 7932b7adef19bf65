use Rattle.std.proofs.Common.{◌∷◌, [], codes, decimal}
use Rattle.fts_schema.proofs.Putting.{five}
use Rattle.fts_schema.proofs.rows.push_closing.Goals as goal

pub returns : goal.returns
returns c =
    five (codes "OK ") (decimal c.args.count) (codes " rows as of ") (decimal c.args.number) (10 ∷ []) c.args.text.now.items _ _ _ _ _
    c.in_ok-extend_from_slice.ensures.items c.in_ok-push_number.ensures c.in_ok-extend_from_slice-2.ensures.items c.in_ok-push_number-2.ensures c.in_ok-push.ensures.items
