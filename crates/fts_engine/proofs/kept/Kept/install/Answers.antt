use Rattle.std.proofs.Common.{[], ◌∷◌, ◌++◌, subst, sym, length, arith}
use Rattle.std.proofs.Math.Logic.{∥∥₁_map}
use Rattle.fts_types.specs.declared.limits.Limits.{Limits}
use Rattle.fts_types.specs.Limits.{standard_limits}
use Rattle.fts_commits.specs.Commit.{Rows}
use Rattle.fts_rows.specs.Rows.{rows_of}
use Rattle.fts_engine.specs.Bounds.{AreWithin}
use Rattle.fts_engine.specs.Fitting.{AreTableRows}
use Rattle.fts_engine.proofs.Fitting.{commit_fits}
use Rattle.fts_engine.specs.Indexed.{IsIndexOf}
use Rattle.fts_engine.proofs.kept.Kept.install.Goals as goal

pub invariant_of-self : goal.invariant_of-self
invariant_of-self c =
    let kept = c.args.self.now in
    let commit = c.requires.0 in
    let after = c.requires.1 in
    record {
      right = kept.right;
      within = subst (λ (limits : Limits). AreWithin standard_limits limits) (sym c.install_next.ensures.limits) kept.within;
      fit = subst (λ (rows : Rows). AreTableRows kept.settings rows) (sym (c.install_next.ensures.rows kept.settings commit after c.requires.2))
          (commit_fits (length kept.settings.columns) standard_limits commit (rows_of kept.rows) after (record { rows = omega arith; ids = omega arith; log_bytes = omega arith })
          c.requires.2.made.fit kept.fit c.requires.2.accepted);
      indexed = ∥∥₁_map kept.indexed (λ has. record {
        commits = has.commits ++ commit ∷ [];
        state = has.state;
        is = subst (λ (rows : Rows). IsIndexOf kept.settings rows c.install_next.new.index (has.commits ++ commit ∷ []) has.state)
            (sym (c.install_next.ensures.rows kept.settings commit after c.requires.2))
            (c.install_next.ensures.index kept.settings commit after c.requires.2 has.commits has.state has.is);
      });
    }

pub returns-clause-rows : goal.returns-clause-rows
returns-clause-rows c commit after next = c.install_next.ensures.rows c.args.self.now.settings commit after next

pub returns-clause-index : goal.returns-clause-index
returns-clause-index c commit after next commits s is =
    let kept = c.args.self.now in
    subst (λ (rows : Rows). IsIndexOf kept.settings rows c.install_next.new.index (commits ++ commit ∷ []) s)
    (sym (c.install_next.ensures.rows kept.settings commit after next))
    (c.install_next.ensures.index kept.settings commit after next commits s is)
