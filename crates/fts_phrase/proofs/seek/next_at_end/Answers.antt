use Rattle.std.proofs.Common.{◌∙◌, sym, arith}
use Rattle.std.proofs.lemmas.Bool.{false≢true}
use Rattle.fts_phrase.proofs.Seeking.{before_next}
use Rattle.fts_phrase.proofs.seek.next_at_end.Goals as goal

pub loop-place-preserved : goal.loop-place-preserved
loop-place-preserved c =
    before_next c.args.text.now c.args.word.now c.args.at c.loop-place.place c.loop-place.invariant
    (λ stands. false≢true (sym c.if-may_stand.false ∙ c.may_stand.ensures stands))

pub returns : goal.returns
returns c place low high stands = c.loop-place.invariant place low (omega arith) stands
