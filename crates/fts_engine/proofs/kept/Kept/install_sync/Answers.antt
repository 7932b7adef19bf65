use Rattle.std.proofs.Math.Logic.{∥∥₁_map}
use Rattle.fts_types.specs.Rules.{rules_of}
use Rattle.fts_commits.specs.Commit.{no_rows}
use Rattle.fts_commits.specs.Turn.{turns_from}
use Rattle.fts_rows.specs.Rows.{rows_of}
use Rattle.fts_entries.specs.Batch.{after_batch}
use Rattle.fts_engine.proofs.Indexing.{batch_right}
use Rattle.fts_engine.proofs.kept.Kept.install_sync.Goals as goal

pub install_sync-requires : goal.install_sync-requires
install_sync-requires c = c.requires.fits

pub invariant_of-self : goal.invariant_of-self
invariant_of-self c =
    let kept = c.args.self.now in
    let rules = rules_of kept.settings in
    let plan = c.args.plan in
    record {
      right = kept.right;
      within = kept.within;
      fit = kept.fit;
      indexed = ∥∥₁_map c.requires.next (λ has. record {
        commits = has.commits;
        state = after_batch rules kept.settings.batch_docs (turns_from no_rows has.commits) has.state;
        is = batch_right kept.settings kept.right (rows_of kept.rows) kept.index c.install_sync.new.self has.commits has.state kept.settings.batch_docs plan.through plan.synced plan.nodes.items has.is has.batch
            (c.install_sync.ensures rules kept.settings.batch_docs (turns_from no_rows has.commits) has.state has.is.stands has.is.are has.is.fits has.batch);
      });
    }

pub returns-clause-index : goal.returns-clause-index
returns-clause-index c commits s is batch =
    let kept = c.args.self.now in
    let plan = c.args.plan in
    batch_right kept.settings kept.right (rows_of kept.rows) kept.index c.install_sync.new.self commits s kept.settings.batch_docs plan.through plan.synced plan.nodes.items is batch
    (c.install_sync.ensures (rules_of kept.settings) kept.settings.batch_docs (turns_from no_rows commits) s is.stands is.are is.fits batch)
