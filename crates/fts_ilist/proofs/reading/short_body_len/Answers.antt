use Rattle.std.proofs.Common.{arith, ◌≡◌, ap, sym, drop, ◌∙◌}
use Rattle.std.proofs.lemmas.List.{drop_more, drop_all}
use Rattle.fts_ilist.proofs.Ends.{end_here, end_later, no_end, body_ends, end_within}
use Rattle.fts_ilist.specs.Progress.{to_end}
use Rattle.fts_ilist.proofs.reading.short_body_len.Goals as goal

pub returns-then-is_document_end : goal.returns-then-is_document_end
returns-then-is_document_end c =
    let here : to_end c.loop-at.before (drop c.loop-at.at c.args.bytes.now) ≡ 0
    = ap (to_end c.loop-at.before) (drop_more c.args.bytes.now c.loop-at.at 0 c.loop-at-test.true) ∙ end_here _ _ _ (sym c.is_document_end.ensures ∙ c.if-is_document_end.true) in
    body_ends c.args.bytes.now c.loop-at.at (omega (arith, c.loop-at.invariant, here))

pub loop-at-preserved : goal.loop-at-preserved
loop-at-preserved c =
    let on = ap (to_end c.loop-at.before) (drop_more c.args.bytes.now c.loop-at.at 0 c.loop-at-test.true) ∙ end_later _ _ _ (sym c.is_document_end.ensures ∙ c.if-is_document_end.false) in
    omega (arith, c.loop-at.invariant, on)

pub unreachable-requires : goal.unreachable-requires
unreachable-requires c =
    let none = ap (to_end c.loop-at.before) (drop_all c.loop-at.at c.args.bytes.now c.loop-at-test.false) ∙ no_end c.loop-at.before in
    omega (arith, c.loop-at.invariant, none, end_within c.args.bytes.now c.requires)
