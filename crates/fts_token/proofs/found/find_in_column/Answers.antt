use Rattle.std.proofs.Common.{◌≡◌, Bool, List, ◌++◌, ℕ, take, sym, ap, ap₂, ◌∙◌, arith, rules}
use Rattle.std.specs.Prelude.{filter}
use Rattle.std.proofs.lemmas.List.{length-set}
use Rattle.fts_words.specs.declared.placed.PlacedWord.{PlacedWord}
use Rattle.fts_words.specs.Byte.{lowered}
use Rattle.fts_words.specs.RawWords.{bytes_of}
use Rattle.fts_words.specs.Indexed.{Rules, column_text, is_indexable, word_of}
use Rattle.fts_types.specs.declared.settings.Settings.{Settings}
use Rattle.fts_types.specs.Rules.{rules_of}
use Rattle.fts_token.specs.Left.{columns_of, indexed_among}
use Rattle.fts_token.proofs.Filtered.{filter_counted}
use Rattle.fts_token.proofs.found.find_in_column.Goals as goal

-- the word of the row is indexable
is_kept : Settings → List (List ℕ) → PlacedWord → Bool
is_kept settings columns word = is_indexable (rules_of settings) (word_of columns word)

pub loop-count-preserved : goal.loop-count-preserved
unfolding indexed_among is_kept
loop-count-preserved c =
    let settings = c.args.settings.now in
    let loop = c.loop-count in
    let word = c.in-Some.word in
    let some = c.in-Some.ensures in
    let text : c.text-text.result.now ≡ column_text (columns_of c.next_in_column.new.self) word.column =
    c.text-text.ensures ∙ ap₂ column_text (sym (some.row ∙ loop.invariant.row)) (sym (some.here ∙ loop.invariant.column)) in
    let passes : c.has_at.result ≡ is_kept settings (columns_of c.next_in_column.new.self) word =
    c.has_at.ensures ∙ ap₂ (λ (rules : Rules) (t : List ℕ). is_indexable rules (lowered (bytes_of t word.span))) c.of-choice.ensures text in
    record {
      long = length-set loop.found loop.count word ∙ loop.invariant.long;
      within = search rules;
      left = filter_counted (is_kept settings) _ _ _ _ word some.some some.row loop.found loop.count _ _ (omega (arith, loop.invariant.long)) passes c.from-count.ensures ∙ loop.invariant.left;
      column = some.column ∙ loop.invariant.column;
      row = some.row ∙ loop.invariant.row;
    }

-- the column has no more words, and nothing that is left has changed
pub returns-in_default-clause-left : goal.returns-in_default-clause-left
unfolding indexed_among is_kept
returns-in_default-clause-left c =
    let settings = c.args.settings.now in
    let loop = c.loop-count in
    let none = c.in_default.ensures in
    let same : indexed_among settings c.next_in_column.new.self ≡ indexed_among settings loop.ahead =
    ap₂ (λ (columns : List (List ℕ)) (words : List PlacedWord). filter (is_kept settings columns) words) none.row none.stays in
    ap (λ (t : List PlacedWord). take loop.count loop.found ++ t) same ∙ loop.invariant.left
