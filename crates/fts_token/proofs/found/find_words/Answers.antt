use Rattle.std.proofs.Common.{◌≡◌, ◌<◌, ◌≤◌, ◌++◌, List, ℕ, length, take, ap, ap₂, sym, ◌∙◌, arith}
use Rattle.std.specs.Prelude.{filter}
use Rattle.std.proofs.lemmas.Bool.{ltb-false}
use Rattle.fts_words.specs.declared.placed.PlacedWord.{PlacedWord}
use Rattle.fts_words.specs.Indexed.{is_indexable, word_of}
use Rattle.fts_types.specs.declared.settings.Settings.{Settings}
use Rattle.fts_types.specs.Rules.{rules_of}
use Rattle.fts_token.specs.Left.{placed_words_left, placed_words_behind, indexed_among}
use Rattle.fts_token.proofs.Rows.{nothing_left}
use Rattle.fts_token.proofs.found.find_words.Goals as goal

-- the words that are indexable of the row
kept_of : Settings → List (List ℕ) → List PlacedWord → List PlacedWord
kept_of settings columns words = filter (λ word. is_indexable (rules_of settings) (word_of columns word)) words

pub loop-words-preserved : goal.loop-words-preserved
unfolding indexed_among kept_of
loop-words-preserved c =
    let settings = c.args.settings.now in
    let find = c.find_in_column-count in
    let enter = c.enter_next_column in
    let less : find.result < 32 = omega (arith, find.ensures.within, c.if-count-eq-ROOM.false) in
    let same : indexed_among settings enter.new.self ≡ indexed_among settings find.new.words =
    ap₂ (kept_of settings) enter.ensures.row (enter.ensures.left ∙ sym (find.ensures.done less)) in
    record {
      within = find.ensures.within;
      left = ap (λ (t : List PlacedWord). take find.result find.new.found ++ t) same ∙ find.ensures.left ∙ c.loop-words.invariant.left;
    }

pub returns-clause-none : goal.returns-clause-none
unfolding indexed_among kept_of placed_words_left placed_words_behind
returns-clause-none c = λ _.
    let here = c.loop-words.words in
    let over : length here.columns.now ≤ here.column = ltb-false here.column (length here.columns.now) (sym c.has_column.ensures ∙ c.loop-words-test.false) in
    ap (kept_of c.args.settings.now here.columns.now) (nothing_left here.columns.now here.column here.offset here.number here.at over)
