use Rattle.std.proofs.Common.{ap, arith, map, sym, ◌∙◌}
use Rattle.std.specs.List.{list_any}
use Rattle.std.proofs.lemmas.List.{take_all}
use Rattle.fts_index.specs.Gathered.{table_has}
use Rattle.fts_index.proofs.Gathering.{table_told, any_mapped}
use Rattle.fts_index.proofs.gather.table_lists.Goals as goal

pub returns : goal.returns
returns c =
    let index = c.args.index.now in
    let entries = c.deref-entry-items.result.now in
    let items = c.in_ok-words_with.field-0.items in
    λ id. table_told index id c.args.prefix.now (map (λ p. (p.0.now, p.1)) items) _
    (c.loop-entry.invariant id
    ∙ ap (list_any (λ e. table_has index id e.0.now)) (take_all c.loop-entry.entry-index entries (omega (arith, c.loop-entry-test.false)))
    ∙ ap (list_any (λ e. table_has index id e.0.now)) c.deref-entry-items.ensures.value
    ∙ sym (any_mapped (λ e. table_has index id e.0) (λ p. (p.0.now, p.1)) items)
    ∙ sym (any_mapped (table_has index id) (λ e. e.0) (map (λ p. (p.0.now, p.1)) items)))
    c.in_ok-words_with.ensures
