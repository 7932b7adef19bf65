use Rattle.std.proofs.Common.{[], map, ap, sym, subst, arith, ◌∙◌}
use Rattle.std.proofs.lemmas.List.{take_all}
use Rattle.fts_aux.specs.Words.{IsListing}
use Rattle.fts_aux.specs.Tables.{nodes}
use Rattle.fts_index.proofs.Listings.{listed_of, lists_again, mapped_twice}
use Rattle.fts_index.proofs.listing.table_words.Goals as goal

pub returns : goal.returns
returns c =
    let ns = nodes c.args.tables.now in
    let entries = c.deref-entry-items.result.now in
    let items = c.in_ok-all_words.field-0.items in
    subst (IsListing ns [])
    (sym (c.loop-entry.invariant
    ∙ ap (λ es. listed_of ns (map (λ e. e.0.now) es)) (take_all c.loop-entry.entry-index entries (omega (arith, c.loop-entry-test.false)) ∙ c.deref-entry-items.ensures.value)
    ∙ ap (listed_of ns) (sym (mapped_twice (λ e. e.0) (λ p. (p.0.now, p.1)) items))))
    (lists_again ns (map (λ p. (p.0.now, p.1)) items) c.in_ok-all_words.ensures)
