use Rattle.std.proofs.Common.{ap, ◌∙◌}
use Rattle.std.specs.List.{list_any}
use Rattle.fts_ids.specs.Ids.{has}
use Rattle.fts_index.specs.Gathered.{table_has, cache_has, HasPrefix}
use Rattle.fts_index.proofs.Gathering.{ok_leads, either_told, truth_moves}
use Rattle.fts_index.proofs.gather.prefix_ids.Goals as goal

pub returns-clause-each : goal.returns-clause-each
returns-clause-each c =
    let index = c.args.index.now in
    let prefix = c.args.prefix.now in
    ok_leads c.joined_ids.result _ _
    (λ ids same id. either_told (has c.in_ok-flushed.flushed id) (has c.in_ok-cached.cached id) (has ids id) (table_has index) (cache_has index) id prefix (same id)
    (truth_moves _ _ (HasPrefix (table_has index) id prefix) (c.in_ok-flushed.ensures.each id ∙ ap (list_any (λ list. has list id)) c.deref.ensures.value) (c.in_ok-table_lists.ensures id))
    (truth_moves _ _ (HasPrefix (cache_has index) id prefix) (c.in_ok-cached.ensures.each id ∙ ap (list_any (λ list. has list id)) c.deref-2.ensures.value) (c.in_ok-cache_lists.ensures id)))
    c.joined_ids.ensures.each
