use Rattle.fts_args.specs.declared.command.Command.TheVariants.{Serve}
use Rattle.fts_top.proofs.Asking.{not_asked}
use Rattle.fts_top.proofs.top.asks_to_serve.Goals as goal

pub returns-in-Ok-None-clause-no : goal.returns-in-Ok-None-clause-no
returns-in-Ok-None-clause-no c is asks = not_asked c.in-Ok-None.field-0 c.in-Ok-None.field-0-is c.in-Ok-None.ensures.none Serve asks
