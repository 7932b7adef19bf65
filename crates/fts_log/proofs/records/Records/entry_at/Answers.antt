use Rattle.std.proofs.Common.{ℕ, ◌+◌, ◌∙◌, ap, take, drop, arith}
use Rattle.std.proofs.lemmas.Result.{IfOk-weaker}
use Rattle.fts_log.specs.Place.{start_of}
use Rattle.fts_log.proofs.Finding.{payload_there, all_first}
use Rattle.fts_log.proofs.records.Records.entry_at.Goals as goal

pub bytes_at-requires-clause-within : goal.bytes_at-requires-clause-within
bytes_at-requires-clause-within g c =
    let found = c.args.self.now.found in
    omega (arith, found.spaced c.args.k c.requires, found.before c.args.k c.requires, c.payload_at-start.ensures.start, c.payload_at-start.ensures.size)

pub returns-clause-entry : goal.returns-clause-entry
returns-clause-entry g c = IfOk-weaker c.bytes_at.result _ _ (λ payload read told entries holds.
    let found = c.args.self.now.found in
    let file = g.D.Disk.seen c.args.self.now.device 0 in
    let there = payload_there c.args.self.now.magic entries holds.found.rest file found.ends.items c.args.k holds.found.bytes c.args.self.now.whole_magic
    (all_first c.args.self.now.magic entries file found holds.found) c.requires in
    read told ∙ ap (λ (from : ℕ). take c.payload_at-start.result.1 (drop from file)) c.payload_at-start.ensures.start ∙ ap (λ (size : ℕ). take size (drop (start_of found.ends.items c.args.k + 5) file)) c.payload_at-start.ensures.size ∙ there.here) c.bytes_at.ensures.bytes
