use Rattle.std.proofs.Common.{◌≡◌, ◌≤◌, drop}
use Rattle.fts_commits.specs.Turn.{rows_but}
use Rattle.fts_rows.proofs.rows.Rows.remove_all.Given as goal

abbrev pub invariant-loop-doc : goal.invariant-loop-doc
invariant-loop-doc l = record {
  list : rows_but (drop l.doc-index l.docs) l.self.rows.list ≡ rows_but l.docs l.initial.self.rows.list;
  largest : l.self.rows.largest ≡ l.initial.self.rows.largest;
  limits : l.self.limits ≡ l.initial.self.limits;
  room : l.initial.self.room ≤ l.self.room;
}
