use Rattle.std.proofs.Common.{◌≡◌, ◌-◌, length}
use Rattle.fts_meaning.specs.Quote.{quotes_from, pairs}
use Rattle.fts_meaning.specs.Plain.{without, plain}
use Rattle.fts_query.proofs.plain.hide_phrases.Given as goal

abbrev pub invariant-loop-phrase : goal.invariant-loop-phrase
invariant-loop-phrase l = record {
  same : without l.query (pairs (quotes_from l.query l.at)) l.text ≡ plain l.query;
  long : length l.text ≡ length l.query;
}

abbrev pub decreases-loop-phrase : goal.decreases-loop-phrase
decreases-loop-phrase l = length l.query - l.at
