use Rattle.std.proofs.Common.{◌≡◌, true, map, take}
use Rattle.fts_sql.specs.Reading.{token_of}
use Rattle.fts_sql.specs.Table.{parts_of}
use Rattle.fts_sql.specs.Reader.{is_table, spot_of, tokens_at}
use Rattle.fts_sql.proofs.Reached.{Leads}
use Rattle.fts_sql.proofs.reader.read.Given as goal

-- the tokens so far lead to the place
abbrev pub invariant-loop-count : goal.invariant-loop-count
invariant-loop-count l = record {
  table : is_table (parts_of l.place.ahead.now) ≡ true;
  leads : Leads (parts_of l.fn.table) (take l.count (tokens_at l.tokens)) (spot_of l.place) (map token_of l.taken.items);
}
