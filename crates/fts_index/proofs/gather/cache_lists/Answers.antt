use Rattle.std.proofs.Common.{ap, arith, ◌∙◌}
use Rattle.std.specs.List.{list_any}
use Rattle.std.proofs.lemmas.List.{take_all}
use Rattle.fts_index.specs.Gathered.{cache_has}
use Rattle.fts_index.proofs.Gathering.{cache_told}
use Rattle.fts_index.proofs.gather.cache_lists.Goals as goal

pub returns : goal.returns
returns c =
    let index = c.args.index.now in
    let words = c.deref-word-items.result.now in
    λ id. cache_told index id c.args.prefix.now c.in_ok-prefix.field-0.items _
    (c.loop-word.invariant id
    ∙ ap (list_any (λ w. cache_has index id w.now)) (take_all c.loop-word.word-index words (omega (arith, c.loop-word-test.false)))
    ∙ ap (list_any (λ w. cache_has index id w.now)) c.deref-word-items.ensures.value)
    c.in_ok-prefix.ensures.words
