use Rattle.std.proofs.Common.{◌≡◌, Some, drop}
use Rattle.fts_ixcodec.specs.Payload.{is_form_from, is_form}
use Rattle.fts_ixcodec.proofs.words.is_form.Given as goal

abbrev pub invariant-loop-byte : goal.invariant-loop-byte
invariant-loop-byte l = is_form_from (Some l.behind_byte) (drop l.byte-index l.word) ≡ is_form l.word
