use Rattle.std.proofs.Common.{◌≡◌, ◌-◌, ◌≤◌, length}
use Rattle.fts_meaning.specs.Quote.{quotes_from}
use Rattle.fts_query.proofs.quotes.next_quote.Given as goal

abbrev pub invariant-loop-at : goal.invariant-loop-at
invariant-loop-at l = record {
  order : l.from ≤ l.at;
  same : quotes_from l.text l.at ≡ quotes_from l.text l.from;
}

abbrev pub decreases-loop-at : goal.decreases-loop-at
decreases-loop-at l = length l.text - l.at
