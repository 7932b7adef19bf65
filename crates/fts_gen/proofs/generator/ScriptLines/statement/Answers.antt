use Rattle.std.proofs.Common.{◌∙◌, ℕ, List, sym, ap}
use Rattle.fts_gen.specs.Draws.{draw, draws, text_behind, word_of}
use Rattle.fts_gen.specs.Script.{names_of, insert_line, update_line, search_line, key_of}
use Rattle.fts_gen.proofs.Lines.{inserts, updates, searches}
use Rattle.fts_gen.proofs.generator.ScriptLines.statement.Goals as goal

pub returns-then-kind-lt5 : goal.returns-then-kind-lt5
returns-then-kind-lt5 c =
    let names = names_of c.args.self.now.table in (
      c.in_ok-insert.ensures ∙ ap (insert_line names c.args.number) (c.deref.ensures.value ∙ c.in_ok-text.ensures.0)
          ∙ sym (inserts c.args.draw _ _ _ _ c.if-kind-lt5.true),
      c.in_ok-text.ensures.1 ∙ sym (inserts c.args.draw _ _ _ _ c.if-kind-lt5.true),
    )

pub returns-then-kind-eq5 : goal.returns-then-kind-eq5
returns-then-kind-eq5 c =
    let names = names_of c.args.self.now.table in
    let i = c.args.number in
    let first = c.next_draw-first.ensures in (
      c.in_ok-update.ensures
          ∙ ap (update_line names (key_of i c.next_draw-first.result)) (c.deref-then-kind-eq5.ensures.value ∙ c.in_ok-text-2.ensures.0)
          ∙ ap (λ (d : ℕ). update_line names (key_of i d) (text_behind d)) first
          ∙ sym (updates c.args.draw _ _ _ _ c.if-kind-eq5.true),
      c.in_ok-text-2.ensures.1 ∙ ap (draws 5) first ∙ sym (updates c.args.draw _ _ _ _ c.if-kind-eq5.true),
    )

pub returns : goal.returns
returns c =
    let names = names_of c.args.self.now.table in
    let first = c.next_draw-first.ensures in
    let second = c.next_draw-second.ensures ∙ ap draw first in
    let third = c.next_draw-third.ensures ∙ ap draw second in
    let a = c.drawn_word.ensures ∙ ap word_of first in
    let b = c.drawn_word-2.ensures ∙ ap word_of second in
    let d = c.drawn_word-3.ensures ∙ ap word_of third in (
      c.in_ok-line.ensures
          ∙ ap (λ (w : List ℕ). search_line names w c.drawn_word-2.result.now c.drawn_word-3.result.now) a
          ∙ ap (λ (w : List ℕ). search_line names (word_of (draws 1 c.args.draw)) w c.drawn_word-3.result.now) b
          ∙ ap (λ (w : List ℕ). search_line names (word_of (draws 1 c.args.draw)) (word_of (draws 2 c.args.draw)) w) d
          ∙ sym (searches c.args.draw _ _ _ _ c.if-kind-lt5.false c.if-kind-eq5.false c.if-kind-eq6.false),
      third ∙ sym (searches c.args.draw _ _ _ _ c.if-kind-lt5.false c.if-kind-eq5.false c.if-kind-eq6.false),
    )
