use Rattle.std.proofs.Common.{ℕ, refl, sym, ap, ◌∙◌}
use Rattle.std.specs.Prelude.{Some}
use Rattle.fts_types.specs.declared.settings.Settings.{Settings}
use Rattle.fts_types.specs.Rules.{rules_of}
use Rattle.fts_commits.specs.Turn.{births_of}
use Rattle.fts_entries.specs.Entry.{unflushed}
use Rattle.fts_entries.specs.Words.{rows_size}
use Rattle.fts_steps.specs.State.{turns_of}
use Rattle.fts_steps.specs.Step.{to_measure, measured}
use Rattle.fts_engine.proofs.Steps.{refuses}
use Rattle.fts_engine.proofs.engine.Engine.cache_size.Goals as goal

pub returns : goal.returns
returns g c =
    refuses c.args.self.now c.args.self.now refl refl refl refl refl refl (λ commits s is. is) to_measure (measured c.cache_size.result) refl refl
    (λ running stands.
    ap (λ (settings : Settings). Some (measured (rows_size (rules_of settings) (births_of (unflushed (turns_of running.state) running.index))))) stands.has.keeps.settings
    ∙ ap (λ (n : ℕ). Some (measured n)) (sym (c.cache_size.ensures running.state.commits running.index stands.has.indexed)))
