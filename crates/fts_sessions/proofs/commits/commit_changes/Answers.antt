use Rattle.std.proofs.Common.{List, length, subst, sym}
use Rattle.std.proofs.lemmas.Bool.{false≢true}
use Rattle.fts_commits.specs.declared.change.Change.{Change}
use Rattle.fts_commits.specs.Fits.{CanCommit}
use Rattle.fts_sessions.specs.Transaction.{Transaction, FitsTable}
use Rattle.fts_sessions.proofs.Changing.{can_all}
use Rattle.fts_sessions.proofs.commits.commit_changes.Goals as goal

pub commit-requires : goal.commit-requires
commit-requires g c =
    let columns = length (g.S.EngineSteps.sight.settings c.args.steps.now).columns in
    subst (λ (all : List Change). CanCommit columns all) (sym c.as_slice.ensures)
    (can_all columns c.in-Some.open (subst (λ (t : Transaction). FitsTable columns t) c.in-Some.is c.requires) (λ none. false≢true (c.if-is_empty.ensures.1 none)))
