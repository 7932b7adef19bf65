use Rattle.std.proofs.Common.{◌≡◌, ◌<◌, ◌≤◌, take}
use Rattle.fts_meaning.specs.Distance.{decimal_value}
use Rattle.fts_query.proofs.distance.value_of.Given as goal

abbrev pub invariant-loop-digit : goal.invariant-loop-digit
invariant-loop-digit l = record {
  small : l.value < 1000000;
  exact : l.value ≤ 65535 → l.value ≡ decimal_value (take l.digit-index l.digits);
  above : 65535 < l.value → 65535 < decimal_value (take l.digit-index l.digits);
}
