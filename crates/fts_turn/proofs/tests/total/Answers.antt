use Rattle.std.proofs.Common.{◌∙◌, ◌+◌, ap}
use Rattle.fts_turn.specs.Promises.{opening_of}
use Rattle.fts_turn.proofs.Counting.{length-of_whole}
use Rattle.fts_turn.proofs.tests.total.Goals as goal

pub returns : goal.returns
returns c = c.close.ensures.stands.0 ∙ ap (λ n. (opening_of c.args.turn).count + n) (length-of_whole _ _ c.args.turn c.args.seats.items _ c.requires.count c.close.ensures)
