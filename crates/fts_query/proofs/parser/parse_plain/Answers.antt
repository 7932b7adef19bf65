use Rattle.std.proofs.Common.{ℕ, arith}
use Rattle.fts_meaning.specs.Fault.{IsFaulty}
use Rattle.fts_meaning.proofs.Pairing.{ordered, faultless_nests}
use Rattle.fts_query.proofs.parser.parse_plain.Goals as goal

pub first_too_deep-requires : goal.first_too_deep-requires
first_too_deep-requires c =
    let none : (place : ℕ) → IsFaulty c.args.query.now c.args.text.now place → ⊥ = λ place faulty. c.in_default.ensures place (omega arith) faulty.within faulty in
    λ i within. ordered c.args.query.now c.args.text.now none i within i (omega arith)

pub build-requires : goal.build-requires
build-requires c =
    let none : (place : ℕ) → IsFaulty c.args.query.now c.args.text.now place → ⊥ = λ place faulty. c.in_default.ensures place (omega arith) faulty.within faulty in
    faultless_nests c.args.query.now c.args.text.now none
