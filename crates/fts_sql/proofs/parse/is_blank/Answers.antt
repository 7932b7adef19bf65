use Rattle.std.proofs.Common.{length, sym, ◌∙◌, inl, inr}
use Rattle.std.proofs.lemmas.Bool.{cases_Bool, eqb-false}
use Rattle.fts_sql.proofs.Blanks.{blank_comment, not_blank}
use Rattle.fts_sql.proofs.parse.is_blank.Goals as goal

pub returns : goal.returns
returns c =
    let some = eqb-false (length c.skip_blanks-text.result.now) 0 (sym c.if-is_empty.ensures) in (
      λ is. blank_comment c.args.line.now c.skip_blanks-text.ensures.0 c.skip_blanks-text.result.now c.skip_blanks-text.ensures.1 (sym c.is_comment.ensures ∙ is),
      λ blank. elim (cases_Bool c.is_comment.result) [
        | inl is ↦ is
        | inr isnt ↦ absurd (not_blank c.args.line.now c.skip_blanks-text.ensures.0 c.skip_blanks-text.result.now c.skip_blanks-text.ensures.1 some (sym c.is_comment.ensures ∙ isnt) blank)
      ],
    )
