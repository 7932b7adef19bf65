use Rattle.std.proofs.Common.{◌≡◌, ◌+◌, ◌++◌, map, rules}
use Rattle.fts_index.proofs.Restoring.{noted}
use Rattle.fts_index.proofs.restore.Covered.note.Goals as goal

pub returns-clause-noted : goal.returns-clause-noted
returns-clause-noted c =
    let old = c.args.self.now in
    let births : c.extend_from_slice.new.self.items ≡ old.births.items ++ map (λ row. row.doc) c.args.births.now = search rules in
    let deaths : c.extend_from_slice-2.new.self.items ≡ old.deaths.items ++ c.args.deaths.now = search rules in
    let count : c.in_ok-count.count ≡ old.count + 1 = search rules in
    noted old c.extend_from_slice.new.self c.extend_from_slice-2.new.self c.args.births.now c.args.deaths.now c.args.largest c.in_ok-count.count births deaths count
