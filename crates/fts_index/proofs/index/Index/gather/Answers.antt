use Rattle.std.proofs.Common.{map, ap, arith, ◌∙◌}
use Rattle.fts_types.specs.Row.{Row}
use Rattle.fts_ids.proofs.Ascending.{AscendFrom-sooner}
use Rattle.fts_query.specs.Seen.{leaves_seen}
use Rattle.fts_index.specs.Gathered.{doc_has, is_needed}
use Rattle.fts_index.proofs.Gathering.{docs_ascend, gathers, shows_rows}
use Rattle.fts_index.proofs.index.Index.gather.Goals as goal

pub returns : goal.returns
returns c = λ rules rows turns s h.
    let up = AscendFrom-sooner 1 0 (map (λ (row : Row). row.doc) rows.list) (docs_ascend 0 rows.largest rows.list h.ascend) (omega arith) in
    gathers rules rows.list (doc_has c.args.self.now) up (shows_rows rules rows turns s c.args.self.now h) (leaves_seen c.args.leaves.now) _ c.in_ok-lists.ensures c.in_ok-looked_into.ensures.ascend
    (λ id. c.in_ok-looked_into.ensures.each id ∙ ap (λ lists. is_needed (leaves_seen c.args.leaves.now) lists id) c.deref.ensures.value)
