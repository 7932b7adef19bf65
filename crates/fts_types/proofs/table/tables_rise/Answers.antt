use Rattle.fts_types.proofs.Partition.{tables_rise_to_z, high_table}
use Rattle.fts_types.proofs.table.tables_rise.Goals as goal

pub returns-clause-rise : goal.returns-clause-rise
returns-clause-rise c = tables_rise_to_z

pub returns-clause-behind : goal.returns-clause-behind
returns-clause-behind c = high_table
