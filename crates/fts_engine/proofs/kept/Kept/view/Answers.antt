use Rattle.std.proofs.Common.{List, map, ap, sym, subst, ◌∙◌}
use Rattle.fts_types.specs.Rules.{rules_of}
use Rattle.fts_commits.specs.Commit.{Rows, no_rows}
use Rattle.fts_commits.specs.Turn.{turns_from, RowsAscend}
use Rattle.fts_rows.specs.Rows.{rows_of}
use Rattle.fts_index.specs.Stands.{Indexes}
use Rattle.fts_meaning.specs.View.{Postings, Candidate, postings_of, is_looked_into}
use Rattle.fts_query.specs.declared.view.Leaf.{Leaf as Asked}
use Rattle.fts_query.specs.Seen.{leaves_seen, candidate_seen}
use Rattle.fts_index.specs.Gathered.{IsGathered}
use Rattle.fts_engine.specs.Looking.{rows_at, with_ids}
use Rattle.fts_engine.proofs.Candidates.{rows_chosen, with_own}
use Rattle.fts_engine.proofs.kept.Kept.view.Goals as goal

pub returns-in-Ok-paired-clause-right : goal.returns-in-Ok-paired-clause-right
returns-in-Ok-paired-clause-right c commits s is exact =
    let kept = c.args.self.now in
    let rules = rules_of kept.settings in
    let rows = rows_of kept.rows in
    let asked = leaves_seen c.args.leaves.items in
    let right : Indexes rules rows (turns_from no_rows commits) s kept.index =
    record {
      stands = is.stands;
      commits = is.are;
      fits = is.fits;
      exact = exact;
      ascend = subst (λ (rows : Rows). RowsAscend 0 rows.largest rows.list) (sym is.same) is.ascend;
    } in
    let told : IsGathered rules rows.list asked c.in-Ok.gathered
    = subst (λ (leaves : List Asked). IsGathered rules rows.list (leaves_seen leaves) c.in-Ok.gathered) c.as_slice.ensures.value (c.in-Ok.ensures rules rows (turns_from no_rows commits) s right) in
    let postings = c.in-Ok-paired.ensures.paired ∙ ap (with_ids asked) told.lists ∙ with_own rules rows.list asked in
    let texts = c.in-Ok-candidates.ensures ∙ ap (rows_at rows.list) (c.as_slice-2.ensures.value ∙ told.looked_into) ∙ rows_chosen (is_looked_into rules asked) rows.largest rows.list right.ascend in
    ap (λ (ps : List Postings). record { number = c.args.number; postings = ps; texts = map candidate_seen c.in-Ok-candidates.texts.items }) postings
    ∙ ap (λ (ts : List Candidate). record { number = c.args.number; postings = map (postings_of rules rows.list) asked; texts = ts }) texts
