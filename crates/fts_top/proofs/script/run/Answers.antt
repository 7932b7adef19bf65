use Rattle.std.proofs.Common.{◌≡◌, true, arith, inl, inr, refl, ap, sym, subst, ◌∙◌, []}
use Rattle.std.specs.Prelude.{Err}
use Rattle.fts_io.specs.Text.{lines_of}
use Rattle.fts_io.specs.Reading.{ahead, ended_ahead, given_by}
use Rattle.fts_top.specs.declared.ends.RunEnd.{RunEnd}
use Rattle.fts_top.specs.Run.{sides, Outcome}
use Rattle.fts_top.specs.Kept.{mets}
use Rattle.fts_top.specs.Sessions.{numbers_of}
use Rattle.fts_top.proofs.Meeting.{met_more, crowded_at}
use Rattle.fts_top.proofs.Keeping.{kept_few}
use Rattle.fts_top.proofs.Fronts.{nothing_yet, again, goes_on, ends}
use Rattle.fts_steps.specs.FaultCounts.{CountsFaultOf}
use Rattle.fts_steps.proofs.FaultCounts.{counts_calm}
use Rattle.fts_workers.specs.declared.health.Health.{Health}
use Rattle.fts_workers.specs.declared.health.Health.TheVariants.{Failed}
use Rattle.fts_workers.proofs.Worse.{counted_more}
use Rattle.fts_top.proofs.Health.{counted_line}
use Rattle.fts_top.proofs.script.run.Goals as goal

pub returns-in-Err-clause-runs : goal.returns-in-Err-clause-runs
returns-in-Err-clause-runs g c tells_input tells_out start stands =
    let left = g.I.Source.left c.args.input.now in
    record {
      ahead = lines_of left;
      sent = true;
      front = nothing_yet g.S.EngineSteps.sight start (lines_of left) (sides left (g.O.Sink.holds c.args.out.now) c.args.steps.now) stands;
      written = refl;
      unread = λ is. inl refl;
      rest = ([], [], refl);
    }

pub returns-in-Err-new-clause-runs : goal.returns-in-Err-new-clause-runs
returns-in-Err-new-clause-runs g c tells_input tells_out start stands =
    let left = g.I.Source.left c.args.input.now in
    record {
      ahead = lines_of left;
      sent = true;
      front = nothing_yet g.S.EngineSteps.sight start (lines_of left) (sides left (g.O.Sink.holds c.args.out.now) c.args.steps.now) stands;
      written = refl;
      unread = λ is. inl refl;
      rest = ([], [], refl);
    }

pub lines-init : goal.lines-init
lines-init g c = record {
  front = λ tells_input tells_out start stands.
      let left = g.I.Source.left c.args.input.now in
      let here = sides left (g.O.Sink.holds c.args.out.now) c.args.steps.now in
      record {
        front = again g.S.EngineSteps.sight start (lines_of left) true (lines_of left) (ahead c.in-Ok.lines left) here here here
            (nothing_yet g.S.EngineSteps.sight start (lines_of left) here stands) (sym (c.in-Ok.ensures.lines left)) (record { unwritten = refl; unmade = refl });
        sessions_are = sym c.in-Ok-new.ensures.none;
        whole = refl;
        met_is = refl;
        counted = sym c.in-Ok.ensures.given;
        all = inr (omega (arith, c.in-Ok.ensures.given, c.in-Ok.ensures.ended left));
        kept = refl;
      };
  session = λ tells. record { lines = []; cut = sym (c.in-Ok.ensures.lines (g.I.Source.left c.args.input.now)); are = ap numbers_of c.in-Ok-new.ensures.none };
  kept = c.in-Ok-new.ensures.kept;
  fit = c.in-Ok-new.ensures.fit _;
  counts = λ tells. omega (arith, c.in-Ok.ensures.taken);
  input_calm = refl;
  out_calm = refl;
  steps_counted = counts_calm _ _ _ (λ is. cc) refl;
}

pub lines-preserved : goal.lines-preserved
lines-preserved g c = record {
  front = λ tells_input tells_out start stands.
      goes_on g.S.EngineSteps.sight start (lines_of (g.I.Source.left c.args.input.now))
      (ahead c.lines.lines (g.I.Source.left c.lines.input)) (ahead c.one_line.new.lines (g.I.Source.left c.one_line.new.input))
      (ended_ahead c.lines.lines (g.I.Source.left c.lines.input)) (ended_ahead c.one_line.new.lines (g.I.Source.left c.one_line.new.input))
      c.lines.met c.in-Ok-one_line.now c.worse-met.result (mets c.lines.sessions) (mets c.one_line.new.sessions) (given_by c.lines.lines) (given_by c.one_line.new.lines)
      (sides (g.I.Source.left c.args.input.now) (g.O.Sink.holds c.args.out.now) c.args.steps.now)
      (sides (g.I.Source.left c.lines.input) (g.O.Sink.holds c.lines.out) c.lines.steps)
      (sides (g.I.Source.left c.one_line.new.input) (g.O.Sink.holds c.one_line.new.out) c.one_line.new.steps)
      (c.lines.invariant.front tells_input tells_out start stands) (kept_few c.one_line.new.sessions c.one_line.ensures.kept) (c.in-Ok-one_line.ensures.line tells_input tells_out)
      (c.in-Ok-one_line.ensures.ended tells_input) c.worse-met.ensures (c.in-Ok-one_line.ensures.given refl);
  session = λ tells.
      met_more c.in-Ok-one_line.now (lines_of (g.I.Source.left c.args.input.now)) (ahead c.lines.lines (g.I.Source.left c.lines.input)) (ahead c.one_line.new.lines (g.I.Source.left c.one_line.new.input))
      (mets c.lines.sessions) (mets c.one_line.new.sessions) (c.lines.invariant.session tells) (c.in-Ok-one_line.ensures.session tells);
  kept = c.one_line.ensures.kept;
  fit = c.one_line.ensures.fit;
  counts = λ tells. let one = c.one_line.ensures.counts tells in let old = c.lines.invariant.counts tells in omega arith;
  input_calm = c.one_line.ensures.read.calm (λ e. let is = c.in-Ok-one_line.is in cc) ∙ c.lines.invariant.input_calm;
  out_calm = c.one_line.ensures.write.calm (λ e. let is = c.in-Ok-one_line.is in cc) ∙ c.lines.invariant.out_calm;
  steps_counted =
      let sight = g.S.EngineSteps.sight in
      let old = sight.faults c.args.steps.now in
      let mid = sight.faults c.lines.steps in
      let new = sight.faults c.one_line.new.steps in
      subst (λ (h : Health). CountsFaultOf (h ≡ Failed) old new) (sym c.worse-met.ensures)
      (counted_more c.lines.met c.in-Ok-one_line.now old mid new c.lines.invariant.steps_counted
      (counted_line c.in-Ok-one_line.now mid new (c.in-Ok-one_line.ensures.disk (λ e. cc))));
}

pub returns-in-Err-one_line-clause-runs : goal.returns-in-Err-one_line-clause-runs
returns-in-Err-one_line-clause-runs g c tells_input tells_out start stands =
    let sight = g.S.EngineSteps.sight in
    let script = lines_of (g.I.Source.left c.args.input.now) in
    let before = sides (g.I.Source.left c.args.input.now) (g.O.Sink.holds c.args.out.now) c.args.steps.now in
    let middle = sides (g.I.Source.left c.lines.input) (g.O.Sink.holds c.lines.out) c.lines.steps in
    let now = sides (g.I.Source.left c.one_line.new.input) (g.O.Sink.holds c.one_line.new.out) c.one_line.new.steps in
    subst (λ (e : RunEnd). Outcome sight e start script before now) (sym c.end_of.ensures)
    (ends sight start script c.in-Err-one_line.halt
    (ahead c.lines.lines (g.I.Source.left c.lines.input)) (ahead c.one_line.new.lines (g.I.Source.left c.one_line.new.input))
    (ended_ahead c.lines.lines (g.I.Source.left c.lines.input)) (ended_ahead c.one_line.new.lines (g.I.Source.left c.one_line.new.input))
    c.lines.met (mets c.lines.sessions) (mets c.one_line.new.sessions) (given_by c.lines.lines) before middle now
    (c.lines.invariant.front tells_input tells_out start stands) (kept_few c.one_line.new.sessions c.one_line.ensures.kept) (c.in-Err-one_line.ensures.line tells_input tells_out) (c.in-Err-one_line.ensures.ended tells_input)
    (λ number bytes e. (c.in-Err-one_line.ensures.too_long number bytes (ap Err e)).0))

pub returns-in-Err-one_line-clause-crowded : goal.returns-in-Err-one_line-clause-crowded
returns-in-Err-one_line-clause-crowded g c number is tells =
    crowded_at (lines_of (g.I.Source.left c.args.input.now)) (ahead c.lines.lines (g.I.Source.left c.lines.input)) (ahead c.one_line.new.lines (g.I.Source.left c.one_line.new.input))
    (mets c.lines.sessions) (mets c.one_line.new.sessions) c.in-Err-one_line.halt c.lines.met number (c.lines.invariant.session tells) (c.in-Err-one_line.ensures.session tells)
    (sym c.end_of.ensures ∙ is)
