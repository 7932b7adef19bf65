use Rattle.std.proofs.Common.{sym, subst, arith}
use Rattle.std.proofs.Math.Logic.{∥∥₁_map}
use Rattle.fts_types.specs.declared.limits.Limits.{Limits}
use Rattle.fts_types.specs.Limits.{standard_limits}
use Rattle.fts_rows.specs.Rows.{rows_of}
use Rattle.fts_engine.specs.Bounds.{AreWithin}
use Rattle.fts_engine.proofs.Replaying.{all_flushed}
use Rattle.fts_engine.proofs.restoring.Restoring.keep.Goals as goal

pub invariant_of-result : goal.invariant_of-result
invariant_of-result c =
    let r = c.args.self in
    record {
      right = r.right;
      within = subst (λ (limits : Limits). AreWithin standard_limits limits) (sym r.standard) (record { rows = omega arith; ids = omega arith; log_bytes = omega arith });
      fit = r.fit;
      indexed = ∥∥₁_map r.noted (λ has. record {
        commits = has.commits;
        state = has.state;
        is = all_flushed r.settings (rows_of r.rows) r.index r.covered r.commits has.commits has.state has.is c.requires;
      });
    }

pub returns-clause-index : goal.returns-clause-index
returns-clause-index c commits s is =
    let r = c.args.self in
    all_flushed r.settings (rows_of r.rows) r.index r.covered r.commits commits s is c.requires
