use Rattle.std.proofs.Common.{◌≡◌, map}
use Rattle.fts_args.proofs.columns.names_of.Given as goal

abbrev pub invariant-loop-name : goal.invariant-loop-name
invariant-loop-name l = l.names ≡ map (λ s. s.now) l.yielded
