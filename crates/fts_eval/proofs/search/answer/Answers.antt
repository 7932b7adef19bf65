use Rattle.std.proofs.Common.{ℕ, List, [], map, ap, ◌∙◌}
use Rattle.fts_ids.specs.Ids.{has}
use Rattle.fts_meaning.specs.Scan.{scan}
use Rattle.fts_query.specs.declared.query.Term.{Term}
use Rattle.fts_query.specs.View.{terms_view, tree_of}
use Rattle.fts_query.specs.Seen.{candidate_seen, postings_seen, view_seen}
use Rattle.fts_eval.proofs.Answering.{candidates_ascend, stands_at, answered}
use Rattle.fts_eval.proofs.search.answer.Goals as goal

pub returns-then-not-ascend : goal.returns-then-not-ascend
returns-then-not-ascend c =
    λ rules rows up s.
    absurd (c.ascend.ensures.no c.if-not-ascend.true (candidates_ascend rules rows (tree_of c.args.query.now) (view_seen c.args.view.now) c.as_slice-texts.result.now (ap (map candidate_seen) c.as_slice-texts.ensures.value) up s))

pub returns : goal.returns
returns c =
    λ rules rows up s.
    let terms = c.as_slice.result.now in
    let texts = map candidate_seen c.as_slice-texts.result.now in
    let postings = map postings_seen c.as_slice-2.result.now in
    let st = stands_at rules rows (tree_of c.args.query.now) (terms_view terms) (view_seen c.args.view.now) texts postings (ap terms_view c.as_slice.ensures.value) (ap (map candidate_seen) c.as_slice-texts.ensures.value) (ap (map postings_seen) c.as_slice-2.ensures.value) up s in
    let means = (c.in_ok-parts.ensures rules rows [] [] texts st).0 in
    let list = c.into_vec.result.items in
    c.new-2.ensures
    ∙ answered rules rows texts (terms_view terms) c.in_ok-parts.parts c.into_group.result list up means c.into_group.ensures c.into_vec.ensures.ascend
    (λ id. ap (λ (xs : List ℕ). has xs id) c.into_vec.ensures.value ∙ c.in_ok-ids.ensures id)
    ∙ ap (λ (ts : List Term). scan rules rows (terms_view ts)) c.as_slice.ensures.value
