use Rattle.std.proofs.Common.{◌≡◌, ℕ, ◌<◌, List, [], ◌∷◌, length, Option, None, Some, sym, ap, ◌∙◌}
use Rattle.fts_words.specs.declared.span.Span.{Span}
use Rattle.fts_words.specs.RawWords.{raw_words_from}
use Rattle.fts_token.specs.Left.{raw_words_left}
use Rattle.fts_query.specs.Ahead.{first_and, words_ahead}
use Rattle.fts_query.specs.declared.words.WordsAhead.{WordsAhead}
use Rattle.fts_query.proofs.Ahead.{Met, none_met, one_met, some_first, same_first, first_given}
use Rattle.fts_query.proofs.words.WordsAhead.take_at.Goals as goal

none_left : (words : WordsAhead) (text : List ℕ) (place : ℕ) → words.first ≡ None → words_ahead words ≡ raw_words_from text place → place < length text → Met text place None (words_ahead words)
none_left words text place none are within =
    let empty : words_ahead words ≡ [] = ap (λ (first : Option Span). first_and first (raw_words_left words.rest)) none in
    none_met text place within (words_ahead words) are (λ word rest split same. some_first word rest (sym empty ∙ split))

none_here : (words : WordsAhead) (text : List ℕ) (place : ℕ) (word : Span) → words.first ≡ Some word → (word.from ≡ place → ⊥) → words_ahead words ≡ raw_words_from text place → place < length text → Met text place None (words_ahead words)
none_here words text place word some other are within =
    let begins : words_ahead words ≡ word ∷ raw_words_left words.rest = ap (λ (first : Option Span). first_and first (raw_words_left words.rest)) some in
    none_met text place within (words_ahead words) are (λ first rest split same. other (ap (λ (w : Span). w.from) (same_first word first (raw_words_left words.rest) rest (sym begins ∙ split)) ∙ same))

one_here : (words : WordsAhead) (text : List ℕ) (place : ℕ) (word : Span) → words.first ≡ Some word → word.from ≡ place → words_ahead words ≡ raw_words_from text place → place < length text → Met text place (Some word) (raw_words_left words.rest)
one_here words text place word some here are within =
    one_met text place within (words_ahead words) are word (raw_words_left words.rest) (ap (λ (first : Option Span). first_and first (raw_words_left words.rest)) some) here

pub returns-in-None-clause-word : goal.returns-in-None-clause-word
returns-in-None-clause-word c = λ text are within. (none_left c.args.self.now text c.args.place c.in-None.is are within).word

pub returns-in-None-clause-left : goal.returns-in-None-clause-left
returns-in-None-clause-left c = λ text are within. (none_left c.args.self.now text c.args.place c.in-None.is are within).rest

pub returns-then-word-place-clause-word : goal.returns-then-word-place-clause-word
returns-then-word-place-clause-word c = λ text are within. (none_here c.args.self.now text c.args.place c.in-Some.word c.in-Some.is c.if-word-place.true are within).word

pub returns-then-word-place-clause-left : goal.returns-then-word-place-clause-left
returns-then-word-place-clause-left c = λ text are within. (none_here c.args.self.now text c.args.place c.in-Some.word c.in-Some.is c.if-word-place.true are within).rest

pub returns-clause-word : goal.returns-clause-word
returns-clause-word c = λ text are within. (one_here c.args.self.now text c.args.place c.in-Some.word c.in-Some.is c.if-word-place.false are within).word

pub returns-clause-left : goal.returns-clause-left
returns-clause-left c = λ text are within.
    first_given c.next-self.result (raw_words_left c.args.self.now.rest) (raw_words_left c.next-self.new.self) c.next-self.ensures.steps
    ∙ (one_here c.args.self.now text c.args.place c.in-Some.word c.in-Some.is c.if-word-place.false are within).rest
