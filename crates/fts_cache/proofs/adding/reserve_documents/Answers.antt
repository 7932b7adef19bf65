use Rattle.std.proofs.Common.{rules, ◌≡◌, ◌+◌, ◌++◌, ◌∷◌, [], List, drop, take, get_or, map, arith, ap, sym, subst, ◌∙◌}
use Rattle.std.proofs.lemmas.List.{drop_more, take_more, take_all}
use Rattle.std.proofs.lemmas.List.Sums.{sum_by-cons}
use Rattle.fts_cache.specs.Document.{Document, bytes_in, bytes_of}
use Rattle.fts_cache.proofs.Promises.{ArePromised, promised_kept, promised_more, promised_numbers, grows_again}
use Rattle.fts_cache.proofs.adding.reserve_documents.Goals as goal

pub loop-document-preserved : goal.loop-document-preserved
loop-document-preserved c =
    let ds = c.args.documents.now in
    let i = c.loop-document.document-index in
    let d = c.document-item.result in
    let is : d ≡ get_or ds i d = search rules in
    let e = c.in_ok-reserve_document.ensures in
    let p = e.numbers in
    let inv = c.loop-document.invariant in
    let rest : drop i ds ≡ d ∷ drop (i + 1) ds = drop_more ds i d c.loop-document-test.true ∙ ap (λ (x : Document). x ∷ drop (i + 1) ds) (sym is) in
    let done : take (i + 1) ds ≡ take i ds ++ d ∷ [] = take_more ds i d c.loop-document-test.true ∙ ap (λ (x : Document). take i ds ++ x ∷ []) (sym is) in
    record {
      room = λ w. omega (arith, e.room w, inv.room w, ap (bytes_of w) rest, sum_by-cons (λ (x : Document). bytes_in w x.words) d (drop (i + 1) ds));
      numbers = subst (λ (xs : List Document). ArePromised c.reserve_document.new.words xs (map (λ n. n.items) c.reserve_document.new.promised.items)) (sym done)
          (subst (ArePromised c.reserve_document.new.words (take i ds ++ d ∷ [])) (sym p.2)
          (promised_more c.reserve_document.new.words (take i ds) (map (λ n. n.items) c.loop-document.promised.items) d p.0
          (promised_kept c.loop-document.words c.reserve_document.new.words (take i ds) (map (λ n. n.items) c.loop-document.promised.items) e.grows.numbers inv.numbers) p.1));
      grows = grows_again c.args.words.now c.loop-document.words c.reserve_document.new.words inv.grows e.grows;
      few = e.few;
    }

pub returns-clause-numbers : goal.returns-clause-numbers
returns-clause-numbers c =
    promised_numbers c.loop-document.words c.args.documents.now (map (λ n. n.items) c.loop-document.promised.items)
    (subst (λ (ds : List Document). ArePromised c.loop-document.words ds (map (λ n. n.items) c.loop-document.promised.items)) (take_all c.loop-document.document-index c.args.documents.now c.loop-document-test.false) c.loop-document.invariant.numbers)
