use Rattle.std.proofs.Common.{◌≡◌, ℕ, ◌-◌, ◌<◌, ◌≤◌, ◌^◌, ◌∙◌, List, length, get_or, Fits, w8, arith}
use Rattle.std.specs.Prelude.{slice_range}
use Rattle.std.specs.Int.{w64, to_le_bytes}
use Rattle.std.proofs.lemmas.Simd.{length-chunk, get_or-chunk}
use Rattle.fts_words.specs.Byte.{lowered}
use Rattle.fts_words.specs.Stopwords.{default_stopwords}
use Rattle.fts_words.specs.Order.{is_among}
use Rattle.fts_stopwords.specs.Number.{is_stopword_number, letter_at}
use Rattle.fts_stopwords.proofs.Numbers.{decided_by_number}
use Rattle.fts_stopwords.proofs.is_default_at.Goals as goal

decided : (text : List ℕ) (from to n : ℕ) → ((k : ℕ) → Fits w8 (get_or text k 0)) → from ≤ to → to ≤ length text → n < 2 ^ 64
    → ((i : ℕ) → i < 8 → get_or (to_le_bytes w64 n) i 0 ≡ letter_at text from (to - from) i) → is_stopword_number n ≡ is_among default_stopwords (lowered (slice_range text from to))
decided text from to n fits order within small spells =
    decided_by_number text (slice_range text from to) from (to - from) n fits
    (length-chunk from (to - from) text (omega arith))
    (λ i less. get_or-chunk from (to - from) text i 0 less) small spells

pub returns : goal.returns
returns c =
    let word = c.args.word.now in
    c.is_stopword_number-2.ensures ∙ decided c.args.text.now word.from word.to c.number_of.result c.type_inv.text c.requires.order c.requires.within (omega arith) c.number_of.ensures

pub returns-then-word-saturating_sub : goal.returns-then-word-saturating_sub
returns-then-word-saturating_sub c =
    let word = c.args.word.now in
    c.is_stopword_number.ensures ∙ decided c.args.text.now word.from word.to c.last_number_of.result c.type_inv.text c.requires.order c.requires.within (omega arith) c.last_number_of.ensures
