use Rattle.std.proofs.Common.{◌∷◌, length, refl, subst}
use Rattle.std.specs.Int.{w16, to_be_bytes}
use Rattle.fts_commits.specs.declared.change.Change.{Change}
use Rattle.fts_rowcodec.specs.Payload.{change_payload}
use Rattle.fts_codec.specs.Writing.{Puts}
use Rattle.fts_codec.proofs.Puts.{left_of, next_room, next_put}
use Rattle.fts_rowcodec.proofs.encode.encode_commit_into.Goals as goal

pub put_change-at-requires-clause-room : goal.put_change-at-requires-clause-room
put_change-at-requires-clause-room c = rw c.change-item.is
    (next_room change_payload c.args.changes.now (1 ∷ to_be_bytes w16 (length c.args.changes.now)) c.args.buf.now c.loop-change.buf c.loop-change.change-index c.loop-change.at _ c.loop-change-test.true c.requires.room c.loop-change.invariant)

pub loop-change-preserved : goal.loop-change-preserved
loop-change-preserved c =
    let now = c.loop-change.buf in
    let at = c.loop-change.at in
    let put = subst (λ (change : Change). Puts (change_payload change) (left_of now at) c.put_change-at.new.buf c.put_change-at.result) c.change-item.is c.put_change-at.ensures in
    next_put change_payload c.args.changes.now (1 ∷ to_be_bytes w16 (length c.args.changes.now)) c.args.buf.now now c.loop-change.change-index at _ c.loop-change-test.true c.requires.room c.loop-change.invariant
    c.put_change-at.new.buf _ c.put_change-at.result put refl
