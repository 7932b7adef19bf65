use Rattle.std.proofs.Common.{ap, ◌∙◌}
use Rattle.fts_token.specs.Left.{indexed_words_left}
use Rattle.fts_types.specs.Rules.{rules_of}
use Rattle.fts_index.proofs.RowWords.{listing_begins, listing_lies, listing_more}
use Rattle.fts_index.proofs.occurrence.listed.Goals as goal

pub loop-found-init : goal.loop-found-init
loop-found-init c =
    rw c.in_ok-all.ensures.items
    (listing_begins (rules_of c.args.settings.now) c.args.texts.now _ (ap indexed_words_left c.into_iter-found-iterator.ensures.into_iter_gives ∙ c.indexed_words-found-items.ensures))

pub found_in-requires : goal.found_in-requires
found_in-requires c = listing_lies (rules_of c.args.settings.now) c.args.texts.now c.args.lower.now c.requires.lower _ _ _ c.in-Some.found c.in-Some.ensures.steps c.loop-found.invariant

pub loop-found-preserved : goal.loop-found-preserved
loop-found-preserved c =
    listing_more (rules_of c.args.settings.now) c.args.texts.now c.args.lower.now c.requires.lower _ _ _ _ c.in-Some.found c.found_in.result c.in-Some.ensures.steps c.found_in.ensures c.in_ok-push.ensures.items c.loop-found.invariant
