use Rattle.fts_schema.proofs.Putting.{puts_both, ok_so}
use Rattle.fts_schema.proofs.listing.put_config.Goals as goal

pub returns : goal.returns
returns c =
    let one = rw c.from.ensures at c.in_ok-put_number.ensures in
    let two = puts_both _ _ _ _ _ one (rw c.from-2.ensures at c.in_ok-put_number-2.ensures) in
    let three = puts_both _ _ _ _ _ two (rw c.checkpoint_text.ensures at c.in_ok-put_key.ensures) in
    let four = puts_both _ _ _ _ _ three c.in_ok-put_number-3.ensures in
    let five = puts_both _ _ _ _ _ four c.in_ok-put_number-4.ensures in
    ok_so c.put_key-2.result _ _ (λ last. puts_both _ _ _ _ _ five last) (rw c.switch_text.ensures at c.put_key-2.ensures)
