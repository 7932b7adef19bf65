use Rattle.std.proofs.Math.Logic.{∥∥₁_map}
use Rattle.fts_types.specs.Rules.{rules_of}
use Rattle.fts_commits.specs.Commit.{no_rows}
use Rattle.fts_commits.specs.Turn.{turns_from}
use Rattle.fts_rows.specs.Rows.{rows_of}
use Rattle.fts_entries.specs.Entry.{after_entry}
use Rattle.fts_index.specs.Passing.{step_entry}
use Rattle.fts_engine.proofs.Indexing.{stepped_right}
use Rattle.fts_engine.proofs.kept.Kept.install_optimize.Goals as goal

pub install_optimize-requires : goal.install_optimize-requires
install_optimize-requires c = c.requires.fits

pub invariant_of-self : goal.invariant_of-self
invariant_of-self c =
    let kept = c.args.self.now in
    let entry = step_entry c.args.plan in
    record {
      right = kept.right;
      within = kept.within;
      fit = kept.fit;
      indexed = ∥∥₁_map c.requires.next (λ has. record {
        commits = has.commits;
        state = after_entry (turns_from no_rows has.commits) has.state entry;
        is = stepped_right kept.settings (rows_of kept.rows) kept.index c.install_optimize.new.self has.commits has.state entry has.is has.next
            (c.install_optimize.ensures (rules_of kept.settings) (turns_from no_rows has.commits) has.state has.is.stands);
      });
    }

pub returns-clause-index : goal.returns-clause-index
returns-clause-index c commits s is next =
    let kept = c.args.self.now in
    stepped_right kept.settings (rows_of kept.rows) kept.index c.install_optimize.new.self commits s (step_entry c.args.plan) is next
    (c.install_optimize.ensures (rules_of kept.settings) (turns_from no_rows commits) s is.stands)
