use Rattle.std.proofs.Common.{sym}
use Rattle.fts_token.proofs.Blocks.{inside_from, ends, none_left}
use Rattle.fts_token.proofs.block.later_word.Goals as goal

pub returns-in_err-start-clause-none : goal.returns-in_err-start-clause-none
returns-in_err-start-clause-none c = rw c.from_residual.ensures (none_left c.args.text.now c.args.at c.requires.outside c.in_err-start.ensures.none)

pub next_bound-requires-2-clause-inside : goal.next_bound-requires-2-clause-inside
next_bound-requires-2-clause-inside c =
    let start = c.in_ok-start.ensures.some in
    sym (inside_from c.args.text.now c.args.at c.in_ok-start.start.place c.requires.outside start.order start.none start.bound)

pub returns-in_err-behind-clause-none : goal.returns-in_err-behind-clause-none
returns-in_err-behind-clause-none c =
    let start = c.in_ok-start.ensures.some in
    ends c.args.text.now c.args.at c.in_ok-start.start.place c.requires.outside start.order start.none start.bound c.in_err-behind.ensures.none
