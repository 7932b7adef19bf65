use Rattle.std.proofs.Common.{sym, ◌∙◌}
use Rattle.fts_phrase.proofs.Given.{lie_all, lies_first, lie_rest}
use Rattle.fts_phrase.proofs.Ahead.{stands_ahead, none_ahead}
use Rattle.fts_phrase.proofs.phrase.stand_at.Goals as goal

pub stand_from-requires-clause-order : goal.stand_from-requires-clause-order
stand_from-requires-clause-order c =
    let lie = lie_all c.split_at.result.1.now _ c.raw_words-rest.ensures in
    (lies_first c.split_at.result.1.now _ _ c.in-Some.first c.in-Some.ensures.steps lie).0

pub stand_from-requires-clause-within : goal.stand_from-requires-clause-within
stand_from-requires-clause-within c =
    let lie = lie_all c.split_at.result.1.now _ c.raw_words-rest.ensures in
    (lies_first c.split_at.result.1.now _ _ c.in-Some.first c.in-Some.ensures.steps lie).1

pub stand_from-requires-clause-behind : goal.stand_from-requires-clause-behind
stand_from-requires-clause-behind c =
    lie_rest c.split_at.result.1.now _ _ c.in-Some.first c.in-Some.ensures.steps (lie_all c.split_at.result.1.now _ c.raw_words-rest.ensures)

pub returns-in-Some : goal.returns-in-Some
returns-in-Some c =
    c.stand_from.ensures
    ∙ stands_ahead c.args.text.now c.split_at.result.1.now c.args.place c.split_at.ensures.back c.args.words.now _ _ c.in-Some.first (sym c.is_inside.ensures ∙ c.if-is_inside.false) c.requires c.raw_words-rest.ensures c.in-Some.ensures.steps

pub returns-in-None : goal.returns-in-None
returns-in-None c =
    none_ahead c.args.text.now c.split_at.result.1.now c.args.place c.split_at.ensures.back c.args.words.now _ (sym c.is_inside.ensures ∙ c.if-is_inside.false) c.requires c.raw_words-rest.ensures c.in-None.ensures.steps.0
