use Rattle.std.proofs.Common.{◌≡◌, List, [], refl, ap, subst, ◌∙◌}
use Rattle.std.specs.Prelude.{Err}
use Rattle.fts_io.specs.Text.{Line}
use Rattle.fts_engine.specs.Stands.{engine_settings}
use Rattle.fts_gen.specs.Script.{script_lines}
use Rattle.fts_schema.specs.Summary.{AreSums, summary_text}
use Rattle.fts_sessions.specs.Direct.{direct_sight}
use Rattle.fts_steps.specs.Step.{after_all}
use Rattle.fts_types.specs.declared.settings.Settings.{Settings}
use Rattle.fts_top.specs.Generate.{as_lines, script_of, IsPlayed, Plays}
use Rattle.fts_top.specs.Run.{sides}
use Rattle.fts_workers.proofs.Making.{run_stands}
use Rattle.fts_top.proofs.Fronts.{nothing_yet}
use Rattle.fts_top.proofs.Playing.{breaks, tells, untold, comes_to}
use Rattle.fts_top.proofs.generate.generate.Goals as goal

pub returns-in-Err-clause-generates : goal.returns-in-Err-clause-generates
returns-in-Err-clause-generates g c told start stands =
    let script = script_of (engine_settings c.args.steps.now.engine) c.args.seed c.args.count in
    breaks direct_sight start script script (g.O.Sink.holds c.args.out.now) c.args.steps.now c.args.steps.now
    (record { front = nothing_yet direct_sight start script (sides [] [] c.args.steps.now) stands; silent = refl })

pub returns-in-Err-play-clause-generates : goal.returns-in-Err-play-clause-generates
returns-in-Err-play-clause-generates g c told start stands =
    let script = script_of (engine_settings c.args.steps.now.engine) c.args.seed c.args.count in
    let same = ap as_lines (c.in-Ok.ensures ∙ ap (λ (s : Settings). script_lines s.columns c.args.seed c.args.count) c.settings.ensures.settings) in
    let played = subst (λ (lines : List Line). IsPlayed direct_sight (Err c.in-Err-play.field-0) start lines c.args.steps.now c.play.new.steps) same
    (c.in-Err-play.ensures.plays start stands) in
    breaks direct_sight start script played.0 (g.O.Sink.holds c.args.out.now) c.args.steps.now c.play.new.steps played.1

pub returns-in-Ok-write_summary-clause-generates : goal.returns-in-Ok-write_summary-clause-generates
returns-in-Ok-write_summary-clause-generates g c told start stands =
    let script = script_of (engine_settings c.args.steps.now.engine) c.args.seed c.args.count in
    let same = ap as_lines (c.in-Ok.ensures ∙ ap (λ (s : Settings). script_lines s.columns c.args.seed c.args.count) c.settings.ensures.settings) in
    let played = subst (λ (lines : List Line). (plays : Plays direct_sight start lines [] c.args.steps.now c.play.new.steps) × (plays.front.met ≡ c.in-Ok-play.played.met)
    × AreSums plays.front.replies c.in-Ok-play.played.sums) same (c.in-Ok-play.ensures.plays start stands) in
    let plays = played.0 in
    let summary = c.summary_of-summary.result in
    let comes = comes_to c.play.new.steps.engine c.args.count (after_all start plays.front.calls) plays.front.replies c.in-Ok-play.played.sums summary
    (run_stands direct_sight start plays.front.calls c.args.steps.now c.play.new.steps plays.front.runs)
    c.summary_of-summary.ensures played.2 in (
      tells direct_sight start script c.args.count (λ text all. text ≡ all) (summary_text summary) (g.O.Sink.holds c.args.out.now) (g.O.Sink.holds c.write_summary.new.out) summary
          c.args.steps.now c.play.new.steps plays comes (c.in-Ok-write_summary.ensures.writes told) refl,
      played.1,
    )

pub returns-clause-generates : goal.returns-clause-generates
returns-clause-generates g c told start stands =
    let script = script_of (engine_settings c.args.steps.now.engine) c.args.seed c.args.count in
    let same = ap as_lines (c.in-Ok.ensures ∙ ap (λ (s : Settings). script_lines s.columns c.args.seed c.args.count) c.settings.ensures.settings) in
    let played = subst (λ (lines : List Line). (plays : Plays direct_sight start lines [] c.args.steps.now c.play.new.steps) × (plays.front.met ≡ c.in-Ok-play.played.met)
    × AreSums plays.front.replies c.in-Ok-play.played.sums) same (c.in-Ok-play.ensures.plays start stands) in
    let plays = played.0 in
    let summary = c.summary_of-summary.result in
    let comes = comes_to c.play.new.steps.engine c.args.count (after_all start plays.front.calls) plays.front.replies c.in-Ok-play.played.sums summary
    (run_stands direct_sight start plays.front.calls c.args.steps.now c.play.new.steps plays.front.runs)
    c.summary_of-summary.ensures played.2 in
    untold direct_sight start script c.in-Err-write_summary.unsent c.args.count (g.O.Sink.holds c.args.out.now) (g.O.Sink.holds c.write_summary.new.out) summary
    c.args.steps.now c.play.new.steps plays comes (c.in-Err-write_summary.ensures.writes told)
