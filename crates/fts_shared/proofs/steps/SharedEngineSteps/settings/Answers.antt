use Rattle.std.proofs.Common.{◌∙◌, sym, ap}
use Rattle.fts_steps.specs.Running.{Running}
use Rattle.fts_turn.specs.Promises.{seat_seen}
use Rattle.fts_shared.proofs.Histories.{settings_stay}
use Rattle.fts_shared.proofs.steps.SharedEngineSteps.settings.Goals as goal

pub returns-clause-some : goal.returns-clause-some
returns-clause-some g c = c.args.self.now.some

pub returns-clause-few : goal.returns-clause-few
returns-clause-few g c = c.args.self.now.few

pub returns-clause-told : goal.returns-clause-told
returns-clause-told g c running s =
    ap (λ (r : Running). r.state.settings) s.2 ∙ settings_stay s.0 (seat_seen c.args.self.now.placed.1) ∙ s.1.has.keeps.settings ∙ sym c.args.self.now.kept
