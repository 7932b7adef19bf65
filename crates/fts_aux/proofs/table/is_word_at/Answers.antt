use Rattle.std.proofs.Common.{ℕ, List, sym, ap, ◌∙◌}
use Rattle.std.specs.Str.{bytes_eq}
use Rattle.fts_aux.proofs.Finds.{key_at, no_key_at}
use Rattle.fts_aux.proofs.table.is_word_at.Goals as goal

pub returns-in-Some : goal.returns-in-Some
returns-in-Some c =
    c.eq.ensures ∙ ap (λ (x : List ℕ). bytes_eq c.args.word.now x) c.as_bytes.ensures
    ∙ sym (key_at c.args.words.now.entries c.args.number c.in-Some.key.now c.in-Some.field-0-1.now c.args.word.now c.in-Some.ensures.entry)

pub returns-in-None : goal.returns-in-None
returns-in-None c = sym (no_key_at c.args.words.now.entries c.args.number c.args.word.now c.in-None.ensures.entry)
