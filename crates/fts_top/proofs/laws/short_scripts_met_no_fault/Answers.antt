use Rattle.fts_top.proofs.Short.{met_no_fault}
use Rattle.fts_top.proofs.laws.short_scripts_met_no_fault.Goals as goal

pub returns : goal.returns
returns g c limits before after serves was = met_no_fault _ _ limits before after serves was
