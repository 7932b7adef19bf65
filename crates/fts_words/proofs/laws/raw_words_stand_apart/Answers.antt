use Rattle.fts_words.proofs.WordLemmas.{words_apart}
use Rattle.fts_words.proofs.laws.raw_words_stand_apart.Goals as goal

pub returns : goal.returns
returns c = words_apart c.args.text.now
