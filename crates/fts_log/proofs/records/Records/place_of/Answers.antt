use Rattle.std.proofs.Common.{◌∙◌}
use Rattle.fts_log.proofs.Finding.{gate_there, all_first}
use Rattle.fts_log.proofs.records.Records.place_of.Goals as goal

pub returns : goal.returns
returns g c told entries holds =
    let found = c.args.self.now.found in
    c.gate_of.ensures ∙ gate_there c.args.self.now.magic entries found.ends.items c.args.k c.args.self.now.whole_magic
    (all_first c.args.self.now.magic entries (g.D.Disk.seen c.args.self.now.device 0) found holds.found) c.requires
