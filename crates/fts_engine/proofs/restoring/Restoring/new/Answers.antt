use Rattle.std.proofs.Common.{[], sym, subst, length, ◌∙◌}
use Rattle.std.proofs.lemmas.List.Elements.{All-nil}
use Rattle.fts_types.specs.Rules.{rules_of}
use Rattle.fts_commits.specs.Commit.{Rows}
use Rattle.fts_entries.specs.Entry.{no_entries}
use Rattle.fts_engine.specs.Fitting.{IsTableRow, AreTableRows}
use Rattle.fts_engine.proofs.Replaying.{none_covered}
use Rattle.fts_engine.proofs.restoring.Restoring.new.Goals as goal

pub invariant_of-result : goal.invariant_of-result
invariant_of-result c = record {
  right = c.requires;
  standard = c.new.ensures.limits ∙ c.standard.ensures;
  fit = subst (λ (rows : Rows). AreTableRows c.args.settings rows) (sym c.new.ensures.rows) (All-nil (IsTableRow (length c.args.settings.columns)));
  noted = ∣ record {
    commits = [];
    state = no_entries;
    is = none_covered c.args.settings _ c.new-2.result c.new-3.result c.new.ensures.rows (c.new-2.ensures (rules_of c.args.settings)) c.new-3.ensures
        (record { ascend = c.are_turns.ensures.ascend; rows = c.are_turns.ensures.rows; once = c.are_turns.ensures.once });
  } ∣₁;
}

pub returns-clause-covers : goal.returns-clause-covers
returns-clause-covers c = none_covered c.args.settings _ c.new-2.result c.new-3.result c.new.ensures.rows (c.new-2.ensures (rules_of c.args.settings)) c.new-3.ensures
    (record { ascend = c.are_turns.ensures.ascend; rows = c.are_turns.ensures.rows; once = c.are_turns.ensures.once })
