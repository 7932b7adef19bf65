use Rattle.std.proofs.Common.{[], map, refl, sym, ap, ◌∙◌, subst, inl, inr}
use Rattle.fts_sql.specs.Fault.{Viable}
use Rattle.fts_sql.specs.Statement.{statement_of}
use Rattle.fts_sql.specs.Grammar.{table_of}
use Rattle.fts_sql.specs.Table.{Says}
use Rattle.fts_sql.specs.Reading.{ending_of, token_of}
use Rattle.fts_sql.specs.Reader.{tokens_at, IsFoundIn}
use Rattle.fts_sql.proofs.Places.{tokens_in-map}
use Rattle.fts_sql.proofs.Written.{writes_viable}
use Rattle.fts_sql.proofs.parse.read_tokens.Goals as goal

pub returns-in-Unreadable : goal.returns-in-Unreadable
returns-in-Unreadable c =
    let tokens = tokens_at c.args.tokens.now in
    let taken = map token_of c.in-Whole.taken.items in
    let says = subst (IsFoundIn tokens) c.in-Whole.is c.in_ok-count.ensures in
    inr (record {
      front = subst Viable (sym (tokens_in-map c.args.tokens.now))
          (writes_viable (statement_of c.in-Whole.form taken) tokens (c.in-Whole.form, taken, says, refl));
      here = inl (ap ending_of c.in-Unreadable.is);
    })

pub returns : goal.returns
returns c =
    let taken = map token_of c.in-Whole.taken.items in
    let says = subst (IsFoundIn (tokens_at c.args.tokens.now)) c.in-Whole.is c.in_ok-count.ensures in
    let same = tokens_in-map c.args.tokens.now in (
      (c.in-Whole-ending.at, ap ending_of c.in-Whole-ending.is),
      (
        c.in-Whole.form,
        taken,
        subst (λ ts. Says (table_of c.in-Whole.form) taken ts []) (sym same) says,
        c.in_ok-statement-in-Whole-ending.ensures ∙ ap (λ ts. statement_of c.in-Whole.form (map token_of ts)) c.deref.ensures.value,
      ),
    )
