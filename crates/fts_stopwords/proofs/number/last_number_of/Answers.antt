use Rattle.std.proofs.Common.{◌∙◌}
use Rattle.fts_stopwords.proofs.Numbers.{letter_of_end}
use Rattle.fts_stopwords.proofs.number.last_number_of.Goals as goal

pub returns : goal.returns
returns c = λ i less.
    c.number_of.ensures i less ∙ letter_of_end c.args.text.now c.copy_from_slice.new.self c.args.from c.requires.start c.copy_from_slice.ensures.after _ c.args.len i
