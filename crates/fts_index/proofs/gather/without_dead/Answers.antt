use Rattle.std.proofs.Common.{List, ℕ, not, ap, ◌∙◌}
use Rattle.fts_ids.specs.Ids.{has}
use Rattle.fts_lists.specs.State.{ids_of}
use Rattle.fts_lists.specs.declared.lists.DeleteList.TheVariants.{DeletedCache}
use Rattle.fts_ids.proofs.Taken.{chosen_ascends}
use Rattle.fts_index.proofs.Gathering.{taken_out}
use Rattle.fts_index.proofs.gather.without_dead.Goals as goal

pub new-requires-2 : goal.new-requires-2
new-requires-2 c =
    chosen_ascends (λ id. not (has (ids_of DeletedCache c.args.lists.now) id)) c.args.ids.items c.without_dead.new.ids.items c.requires c.without_dead.ensures

pub returns-clause-each : goal.returns-clause-each
returns-clause-each c id =
    ap (λ (left : List ℕ). has left id) c.new-2.ensures
    ∙ taken_out c.args.ids.items c.without_dead.new.ids.items (ids_of DeletedCache c.args.lists.now) c.without_dead.ensures id
