use Rattle.std.proofs.Common.{⊎_elim, arith}
use Rattle.fts_words.proofs.WordLemmas.{words_apart, word_around}
use Rattle.fts_words.proofs.laws.word_byte_has_one_word.Goals as goal

pub returns-clause-some : goal.returns-clause-some
returns-clause-some c = word_around c.args.text.now c.args.place c.requires

pub returns-clause-one : goal.returns-clause-one
returns-clause-one h a b c d v low high w low' high' =
    ⊎_elim (λ same. same) (⊎_elim (λ less. absurd (omega arith)) (λ less. absurd (omega arith))) (words_apart h.args.text.now a b c d v w)
