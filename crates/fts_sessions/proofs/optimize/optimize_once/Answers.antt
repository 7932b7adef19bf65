use Rattle.std.proofs.Common.{codes, None, refl, sym, ◌∙◌}
use Rattle.fts_sessions.proofs.optimize.optimize_once.Goals as goal

pub returns : goal.returns
returns g c =
    c.make_steps.ensures (g.S.EngineSteps.sight.settings c.args.steps.now) None (codes "docs")
    (sym (c.from-most.ensures ∙ c.optimize_words.ensures)) refl
