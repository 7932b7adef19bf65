use Rattle.fts_ids.proofs.Marking.{last_most}
use Rattle.fts_ids.proofs.marks.last_of.Goals as goal

pub returns : goal.returns
returns c = λ id h. last_most c.args.ids.now id c.requires h
