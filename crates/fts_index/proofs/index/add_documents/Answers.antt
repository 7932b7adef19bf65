use Rattle.std.proofs.Common.{◌≡◌, arith, drop, []}
use Rattle.std.proofs.lemmas.List.{drop_all}
use Rattle.fts_index.proofs.Adding.{all_added}
use Rattle.fts_index.proofs.index.add_documents.Goals as goal

pub returns : goal.returns
returns c =
    let all = c.args.documents.now in
    let none : drop c.loop-document.document-index all ≡ [] = drop_all c.loop-document.document-index all (omega (arith, c.loop-document-test.false)) in
    all_added c.args.cache.now c.loop-document.cache all (drop c.loop-document.document-index all) none c.loop-document.invariant
