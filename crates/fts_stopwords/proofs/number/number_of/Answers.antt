use Rattle.fts_stopwords.proofs.Numbers.{letter_is_kept}
use Rattle.fts_stopwords.proofs.number.number_of.Goals as goal

pub returns : goal.returns
returns c =
    letter_is_kept c.args.text.now c.args.from c.args.len c.min.result c.bytes_at.result c.type_inv.text c.bytes_at.ensures c.fronts.result.now c.fronts.ensures
    c.min.ensures
