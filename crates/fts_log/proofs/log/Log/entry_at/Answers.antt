use Rattle.std.proofs.Common.{◌≡◌, ℕ, List, ◌+◌, ◌<◌, ◌∙◌, ap, subst, length, take, drop, slice_index, arith}
use Rattle.std.proofs.lemmas.Result.{IfOk-weaker}
use Rattle.fts_log.specs.Place.{start_of, AreWithin}
use Rattle.fts_log.specs.Found.{ends_in}
use Rattle.fts_log.proofs.Finding.{found_there}
use Rattle.fts_log.proofs.log.Log.entry_at.Goals as goal

pub read_bytes-requires : goal.read_bytes-requires
read_bytes-requires g c told =
    let ends = c.in-Some.found.ends.items in
    let kept : ends_in c.args.self.now.found ≡ ends = ap ends_in c.in-Some.is in
    let small : c.args.k < length ends = omega (arith, ap length kept, c.requires.found) in
    let room = c.in-Some.found.spaced c.args.k small in
    let before : slice_index ends c.args.k < c.args.self.now.«end» =
    subst (λ (ends : List ℕ). AreWithin c.args.self.now.«end» ends) kept c.args.self.now.found_within c.args.k small in
    omega (arith, room, before, c.args.self.now.reaches told, c.payload_at.ensures.start, c.payload_at.ensures.size)

pub returns-clause-entry : goal.returns-clause-entry
returns-clause-entry g c = IfOk-weaker c.read_bytes.result _ _ (λ payload read told entries stands.
    let size = ap length (ap ends_in c.in-Some.is) in
    let there = found_there c.args.self.now entries c.in-Some.found c.args.k stands c.args.self.now.whole_magic c.in-Some.is (omega (arith, size, c.requires.found)) in
    let file = g.D.Disk.seen c.args.self.now.device 0 in
    read told ∙ ap (λ (from : ℕ). take c.payload_at.result.1 (drop from file)) c.payload_at.ensures.start ∙ ap (λ (size : ℕ). take size (drop (start_of c.in-Some.found.ends.items c.args.k + 5) file)) c.payload_at.ensures.size ∙ there.here) c.read_bytes.ensures.bytes
