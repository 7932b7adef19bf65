use Rattle.std.proofs.Common.{◌<◌, ◌≡◌, ◌++◌, take, arith, sym, ap, subst, ◌∙◌}
use Rattle.fts_ilist.specs.Number.{number_bytes}
use Rattle.fts_ilist.specs.Node.{head_size}
use Rattle.fts_ilist.specs.Reading.{postings_in, IsKept}
use Rattle.fts_ilist.specs.Cursor.{postings_until}
use Rattle.fts_ilist.proofs.Cursors.{none_at}
use Rattle.fts_ilist.proofs.Until.{none_at_first}
use Rattle.fts_ilist.proofs.cursor.Cursor.node_until.Goals as goal

pub returns-then-self-eq0-clause-none : goal.returns-then-self-eq0-clause-none
returns-then-self-eq0-clause-none c =
    ap (postings_until c.args.doc) (sym c.self.view_is ∙ none_at c.self.inside.id c.self.inside.rest.now c.if-self-eq0.true)

pub returns-then-self-doc-clause-none : goal.returns-then-self-doc-clause-none
returns-then-self-doc-clause-none c =
    let some : 0 < c.self.inside.id = omega (arith, c.if-self-eq0.false) in
    ap (postings_until c.args.doc) (sym c.self.view_is)
    ∙ none_at_first c.args.doc _ _ some (c.self.invariant.within some) (omega (arith, c.if-self-doc.true))

pub invariant_of-result : goal.invariant_of-result
invariant_of-result c =
    let i = c.self.inside in
    let span = c.span_until-span.ensures.span in
    let e : c.in_ok-bytes.bytes.items ≡ number_bytes i.id ++ take c.span_until-span.result.len i.rest.now = c.in_ok-bytes.ensures in
    let docs = ap (postings_in 0) e ∙ span.same in
    record {
      kept = subst (IsKept i.id c.span_until-span.result.last c.span_until-span.result.count) (sym e) span.kept;
      some = λ none. c.span_until-span.ensures.some (sym docs ∙ none);
      head_is = c.span_until-span.ensures.head ∙ ap head_size (sym docs);
    }

pub returns-clause-some : goal.returns-clause-some
returns-clause-some c =
    let i = c.self.inside in
    let e : c.in_ok-bytes.bytes.items ≡ number_bytes i.id ++ take c.span_until-span.result.len i.rest.now = c.in_ok-bytes.ensures in
    ap (postings_in 0) e ∙ c.span_until-span.ensures.span.same ∙ ap (postings_until c.args.doc) c.self.view_is
