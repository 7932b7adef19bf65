use Rattle.std.proofs.Common.{ap, sym, ◌∙◌, List, ℕ, arith}
use Rattle.std.specs.Str.{bytes_eq}
use Rattle.fts_words.specs.Byte.{lowered}
use Rattle.fts_words.specs.RawWords.{bytes_of}
use Rattle.fts_token.specs.Left.{raw_words_left}
use Rattle.fts_phrase.proofs.Following.{follows_not, follows_more}
use Rattle.fts_phrase.proofs.phrase.follow.Goals as goal

pub returns-in-None : goal.returns-in-None
returns-in-None c =
    follows_not c.args.text.now c.args.words.now (raw_words_left c.args.rest.now) _ c.args.from c.loop-place.place (omega arith) c.in-None.ensures.steps.0 c.loop-place.invariant

pub loop-place-preserved : goal.loop-place-preserved
loop-place-preserved c =
    follows_more c.args.text.now c.args.words.now (raw_words_left c.args.rest.now) _ _ c.in-Some.found c.args.from c.loop-place.place (omega arith) c.in-Some.ensures.steps
    (ap (λ (w : List ℕ). bytes_eq (lowered (bytes_of c.args.text.now c.in-Some.found)) w) (sym c.text.ensures) ∙ sym c.is_word.ensures ∙ c.if-not-is_word.false)
    c.loop-place.invariant
