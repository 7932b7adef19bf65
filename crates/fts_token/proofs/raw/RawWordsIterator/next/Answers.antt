use Rattle.std.proofs.Common.{length, ap, rules}
use Rattle.fts_token.specs.Left.{raw_words_left}
use Rattle.fts_token.proofs.raw.RawWordsIterator.next.Goals as goal

pub returns-in_err-found-clause-steps : goal.returns-in_err-found-clause-steps
unfolding raw_words_left
returns-in_err-found-clause-steps c =
    let none = c.in_err-found.ensures.none in
    rw c.from_residual.ensures (none, none)

pub returns-clause-steps : goal.returns-clause-steps
unfolding raw_words_left
returns-clause-steps c = c.in_ok-found.ensures.some.first

pub returns-clause-goes : goal.returns-clause-goes
unfolding raw_words_left
returns-clause-goes c =
    let shorter = ap length c.in_ok-found.ensures.some.first in search rules
