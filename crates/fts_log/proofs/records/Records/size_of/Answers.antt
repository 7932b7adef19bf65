use Rattle.std.proofs.Common.{ℕ, ◌+◌, ◌∙◌, sym, length, take, drop, ap, arith}
use Rattle.std.proofs.lemmas.List.{length-drop, length-take-le}
use Rattle.fts_log.specs.Place.{start_of}
use Rattle.fts_log.proofs.Finding.{payload_there, all_first}
use Rattle.fts_log.proofs.records.Records.size_of.Goals as goal

pub returns : goal.returns
returns g c told entries holds =
    let found = c.args.self.now.found in
    let file = g.D.Disk.seen c.args.self.now.device 0 in
    let from = start_of found.ends.items c.args.k + 5 in
    let there = payload_there c.args.self.now.magic entries holds.found.rest file found.ends.items c.args.k holds.found.bytes c.args.self.now.whole_magic
    (all_first c.args.self.now.magic entries file found holds.found) c.requires in
    let size = c.payload_at-size.ensures.size in
    let room = there.room in
    let within = there.within in
    let long = length-take-le c.payload_at-size.result.1 (drop from file) (omega (arith, size, room, within, length-drop from file)) in
    sym long ∙ ap (λ (n : ℕ). length (take n (drop from file))) size ∙ ap length there.here
