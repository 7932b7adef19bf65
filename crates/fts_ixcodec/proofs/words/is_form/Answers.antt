use Rattle.std.proofs.Common.{sym}
use Rattle.fts_ixcodec.specs.Payload.{is_form}
use Rattle.fts_ixcodec.proofs.ReadWords.{form_goes_on, form_stops, form_ends}
use Rattle.fts_ixcodec.proofs.words.is_form.Goals as goal

pub returns-in-None : goal.returns-in-None
returns-in-None c =
    let word = c.args.word.now in
    sym (form_stops word c.loop-byte.byte-index c.loop-byte.behind_byte (is_form word) c.loop-byte.invariant c.loop-byte-test.true c.in-None.ensures)

pub loop-byte-preserved : goal.loop-byte-preserved
loop-byte-preserved c =
    let word = c.args.word.now in
    form_goes_on word c.loop-byte.byte-index c.loop-byte.behind_byte (is_form word) c.loop-byte.invariant c.in-Some.next c.loop-byte-test.true c.in-Some.ensures

pub returns : goal.returns
returns c =
    let word = c.args.word.now in
    sym (form_ends word c.loop-byte.byte-index c.loop-byte.behind_byte (is_form word) c.loop-byte.invariant c.loop-byte-test.false)
