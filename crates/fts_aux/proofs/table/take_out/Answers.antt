use Rattle.std.proofs.Common.{None}
use Rattle.fts_aux.proofs.Finds.{becomes_by}
use Rattle.fts_aux.proofs.Counts.{count_out, taken_same}
use Rattle.fts_aux.proofs.table.take_out.Goals as goal

pub returns-clause-becomes : goal.returns-clause-becomes
returns-clause-becomes c =
    let u = c.swap_remove.ensures.updates in
    becomes_by c.args.words.now.entries c.swap_remove.new.self.entries c.args.word.now None u.3 u.1

pub returns-clause-loose : goal.returns-clause-loose
returns-clause-loose c = λ none.
    let es = c.args.words.now.entries in
    let new = c.swap_remove.new.self.entries in
    let u = c.swap_remove.ensures.updates in
    count_out es new c.args.word.now c.swap_remove.ensures.entries (taken_same es new c.args.word.now (becomes_by es new c.args.word.now None u.3 u.1) none) none
