use Rattle.std.proofs.Common.{◌∙◌, ap, length, arith}
use Rattle.fts_log.specs.Found.{ends_in}
use Rattle.fts_log.proofs.Finding.{found_gate}
use Rattle.fts_log.proofs.log.Log.place_of.Goals as goal

pub returns : goal.returns
returns g c entries stands =
    let size = ap length (ap ends_in c.in-Some.is) in
    c.gate_of.ensures ∙ found_gate c.args.self.now entries c.in-Some.found c.args.k stands c.args.self.now.whole_magic c.in-Some.is (omega (arith, size, c.requires))
