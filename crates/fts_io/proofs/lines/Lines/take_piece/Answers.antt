use Rattle.fts_io.proofs.Cutting.{moves-found, moves-none}
use Rattle.fts_io.proofs.lines.Lines.take_piece.Goals as goal

pub invariant_of-self-in-Some-clause-short : goal.invariant_of-self-in-Some-clause-short
invariant_of-self-in-Some-clause-short c = c.in_ok-append_within-in-Some.ensures.short

pub invariant_of-self-in-None-clause-short : goal.invariant_of-self-in-None-clause-short
invariant_of-self-in-None-clause-short c = c.in_ok-append_within-in-None.ensures.short

pub returns-in_ok-append_within-in-Some-clause-lines :
    goal.returns-in_ok-append_within-in-Some-clause-lines
returns-in_ok-append_within-in-Some-clause-lines c left =
    moves-found c.in-Some.at c.args.self.now.line.items c.unread-unread.result.now c.args.self.now.buffer _ _ left c.unread-unread.ensures
    c.in-Some.ensures c.in_ok-append_within-in-Some.ensures.appends c.consume.ensures.rest

pub returns-in_ok-append_within-in-None-clause-lines :
    goal.returns-in_ok-append_within-in-None-clause-lines
returns-in_ok-append_within-in-None-clause-lines c left =
    moves-none c.args.self.now.line.items c.unread-unread.result.now c.args.self.now.buffer _ _ left c.unread-unread.ensures
    c.in-None.ensures c.in_ok-append_within-in-None.ensures.appends c.consume-in-None.ensures.rest
