use Rattle.std.proofs.Common.{◌≡◌, false, ap, sym, ◌∙◌}
use Rattle.fts_words.specs.Indexed.{word_of}
use Rattle.fts_types.specs.Rules.{rules_of}
use Rattle.fts_plain.specs.Words.{fits}
use Rattle.fts_plain.proofs.Indexing.{sought_first, sought_word, sought_more, sought_within}
use Rattle.fts_plain.proofs.operand.has_indexed.Goals as goal

pub loop-found-init : goal.loop-found-init
loop-found-init c = sought_first (rules_of c.args.settings.now) c.args.columns.now c.args.is_prefix c.args.word.now _ c.indexed_words-rest.ensures

pub word_of-requires : goal.word_of-requires
word_of-requires c =
    let word = sought_word (rules_of c.args.settings.now) c.args.columns.now c.args.is_prefix c.args.word.now _ _ c.in-Some.found c.in-Some.ensures.steps c.loop-found.invariant in
    let within = sought_within (rules_of c.args.settings.now) c.args.columns.now c.in-Some.found word in
    record { column = word.placed.column; order = within.0; within = within.1 }

pub loop-found-preserved : goal.loop-found-preserved
loop-found-preserved c =
    let bytes_are = c.as_slice.ensures.value ∙ c.in_ok-bytes.ensures in
    let fails : fits c.args.is_prefix c.args.word.now (word_of c.args.columns.now c.in-Some.found) ≡ false = ap (fits c.args.is_prefix c.args.word.now) (sym bytes_are) ∙ sym c.if-fits.ensures in
    sought_more (rules_of c.args.settings.now) c.args.columns.now c.args.is_prefix c.args.word.now _ _ c.in-Some.found c.in-Some.ensures.steps fails c.loop-found.invariant
