use Rattle.std.proofs.Common.{ap, option_map, ◌∙◌}
use Rattle.fts_types.specs.Row.{row_of}
use Rattle.fts_rows.proofs.Slotted.{row_found, located}
use Rattle.fts_rows.proofs.slots.row_at.Goals as goal

pub returns-in-Some : goal.returns-in-Some
returns-in-Some c = λ high are. ap (option_map row_of) c.as_ref.ensures.value ∙ ap row_found c.in-Some.ensures.value ∙ located 0 high c.args.doc c.args.slots.now.entries are

pub returns-in-None : goal.returns-in-None
returns-in-None c = λ high are. ap row_found c.in-None.ensures.value ∙ located 0 high c.args.doc c.args.slots.now.entries are
