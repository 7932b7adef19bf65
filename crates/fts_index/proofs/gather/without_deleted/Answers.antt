use Rattle.std.proofs.Common.{not}
use Rattle.fts_ids.specs.Ids.{has}
use Rattle.fts_lists.specs.State.{ids_of}
use Rattle.fts_lists.specs.declared.lists.DeleteList.TheVariants.{Deleted}
use Rattle.fts_ids.proofs.Taken.{chosen_ascends}
use Rattle.fts_index.proofs.Gathering.{taken_out}
use Rattle.fts_index.proofs.gather.without_deleted.Goals as goal

pub returns-clause-ascend : goal.returns-clause-ascend
returns-clause-ascend c =
    chosen_ascends (λ id. not (has (ids_of Deleted c.args.lists.now) id)) c.args.ids.items c.without_deleted.new.ids.items c.requires c.without_deleted.ensures

pub returns-clause-each : goal.returns-clause-each
returns-clause-each c = taken_out c.args.ids.items c.without_deleted.new.ids.items (ids_of Deleted c.args.lists.now) c.without_deleted.ensures
