use Rattle.std.proofs.Common.{map, [], ◌∷◌}
use Rattle.std.proofs.lemmas.List.{map-append}
use Rattle.std.proofs.lemmas.Result.{err_from_is_err_and}
use Rattle.fts_commits.specs.NewText.{new_text}
use Rattle.fts_codec.specs.Fields.{many_at}
use Rattle.fts_rowcodec.specs.Reading.{new_at}
use Rattle.fts_codec.proofs.Loop.{begins, goes_on, ends, is_done}
use Rattle.fts_rowcodec.proofs.commit.news_at.Goals as goal

pub loop-init : goal.loop-init
loop-init c = rw c.new-news.ensures.items (begins new_at c.args.count c.args.bytes.now)

pub returns-in_err-text : goal.returns-in_err-text
returns-in_err-text c =
    let p = err_from_is_err_and c.from_residual.result c.from_residual.ensures.1 in
    rw (p.1, p.2) (ends new_at (map new_text c.loop.news.items) c.args.count c.loop.counter c.loop.rest.now (many_at new_at c.args.count c.args.bytes.now) c.in_err-text.field-0.0 c.loop-test.true c.in_err-text.ensures c.loop.invariant)

pub loop-preserved : goal.loop-preserved
loop-preserved c =
    rw (c.in_ok-push.ensures.items, map-append new_text c.loop.news.items (c.in_ok-copied.field-0 ∷ []), c.in_ok-copied.ensures)
    (goes_on new_at (map new_text c.loop.news.items) c.args.count c.loop.counter c.loop.rest.now (many_at new_at c.args.count c.args.bytes.now) _ c.in_ok-text.after.now
    c.loop-test.true c.in_ok-text.ensures c.loop.invariant)

pub returns : goal.returns
returns c =
    rw c.from_vec.ensures
    (is_done new_at (map new_text c.loop.news.items) c.args.count c.loop.counter c.loop.rest.now (many_at new_at c.args.count c.args.bytes.now) c.loop-test.false c.loop.invariant)
