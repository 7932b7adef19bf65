use Rattle.std.proofs.Common.{ℕ, List, [], ◌∷◌, ◌++◌, ap, ◌∙◌}
use Rattle.fts_words.specs.Byte.{lowered}
use Rattle.fts_query.proofs.Gathering.{gathered_first, gathered_more, gathered_span}
use Rattle.fts_query.proofs.words.words_in.Goals as goal

pub loop-word-init : goal.loop-word-init
loop-word-init c = gathered_first c.args.text.now _ _ c.new-words.ensures c.raw_words-rest.ensures

pub loop-word-preserved : goal.loop-word-preserved
loop-word-preserved c =
    let text = c.args.text.now in
    let word_is = c.in_ok-lowered.ensures ∙ ap lowered c.of.ensures in
    let added = c.in_ok-push.ensures.ok ∙ ap (λ (w : List ℕ). c.loop-word.words ++ w ∷ []) word_is in
    gathered_more text c.loop-word.words _ c.in-Some.word _ _ c.loop-word.invariant c.in-Some.ensures.steps added

pub of-requires-clause-order : goal.of-requires-clause-order
of-requires-clause-order c = (gathered_span c.args.text.now _ c.in-Some.word _ _ c.loop-word.invariant c.in-Some.ensures.steps).0

pub of-requires-clause-within : goal.of-requires-clause-within
of-requires-clause-within c = (gathered_span c.args.text.now _ c.in-Some.word _ _ c.loop-word.invariant c.in-Some.ensures.steps).1
