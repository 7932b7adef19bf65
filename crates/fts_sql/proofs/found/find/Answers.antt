use Rattle.std.proofs.Common.{◌≡◌, false, arith, take, map, get_or, inl, inr, sym, subst}
use Rattle.fts_sql.specs.declared.form.TheConstants.{FORMS}
use Rattle.fts_sql.specs.declared.form.Form.TheVariants.{Insert}
use Rattle.fts_sql.specs.Fault.{Viable}
use Rattle.fts_sql.specs.Reading.{token_of}
use Rattle.fts_sql.specs.Grammar.{table_of}
use Rattle.fts_sql.specs.Reader.{tokens_at, IsReached}
use Rattle.fts_sql.proofs.Written.{viable_nothing, viable_of, past_later, past_more, past_reached, furthest}
use Rattle.fts_sql.proofs.found.find.Goals as goal

pub loop-form-init : goal.loop-form-init
loop-form-init c = record {
  within = omega arith;
  front = viable_nothing;
  past = λ k less. absurd (omega (arith, less));
}

pub loop-form-preserved : goal.loop-form-preserved
loop-form-preserved c =
    let tokens = tokens_at c.args.tokens.now in
    let i = c.loop-form.form-index in
    let form = get_or FORMS i Insert in
    let kept = map token_of c.in_ok-count.field-0.taken.items in
    let whole : c.in_ok-count.field-0.whole ≡ false = cc c.if-whole.false in
    let count = c.in_ok-count.field-0.count in
    let reached : IsReached (table_of form) tokens count kept false =
    subst (λ w. IsReached (table_of form) tokens count kept w) whole c.in_ok-count.ensures in
    let past = past_reached tokens kept count form reached in
    record {
      within = elim c.later-furthest.ensures.either [
        | inl e ↦ omega (arith, e, c.loop-form.invariant.within)
        | inr e ↦ omega (arith, e, reached.within)
      ];
      front = elim c.later-furthest.ensures.either [
        | inl e ↦ subst (λ n. Viable (take n tokens)) (sym e) c.loop-form.invariant.front
        | inr e ↦ subst (λ n. Viable (take n tokens)) (sym e) (viable_of form (take count tokens) reached.front)
      ];
      past = past_more tokens c.loop-form.furthest c.later-furthest.result i Insert c.later-furthest.ensures.one c.loop-form.invariant.past
          (past_later tokens count c.later-furthest.result form c.later-furthest.ensures.other past);
    }

pub returns : goal.returns
returns c =
    furthest (tokens_at c.args.tokens.now) c.loop-form.furthest Insert c.loop-form.invariant.within c.loop-form.invariant.front
    (λ k less. c.loop-form.invariant.past k (omega (arith, less, c.loop-form-test.false)))
