use Rattle.std.proofs.Common.{refl, ap, subst, sym, length}
use Rattle.std.specs.Prelude.{Err}
use Rattle.fts_io.specs.Text.{whole, too_long}
use Rattle.fts_io.specs.Reading.{ahead, ended_ahead}
use Rattle.fts_top.specs.declared.ends.Halt.{Halt}
use Rattle.fts_types.specs.declared.settings.Settings.{Settings}
use Rattle.fts_steps.proofs.Making.{made_keeps}
use Rattle.fts_top.specs.Kept.{mets, AllFit}
use Rattle.fts_top.specs.Run.{OneLine, sides}
use Rattle.fts_workers.specs.declared.health.Health.TheVariants.{Sound}
use Rattle.fts_schema.specs.declared.reply.Reply.TheVariants.{LineTooLong}
use Rattle.fts_top.proofs.Counting.{spoken_of}
use Rattle.fts_top.proofs.Turning.{skips, no_batches, not_sent}
use Rattle.fts_top.proofs.script.one_line.Goals as goal

pub returns-in-Ok-clause-line : goal.returns-in-Ok-clause-line
returns-in-Ok-clause-line g c tells_input tells_out =
    let sight = g.S.EngineSteps.sight in
    let script = ahead c.args.lines.now (g.I.Source.left c.args.input.now) in
    let behind = ahead c.next_line.new.self (g.I.Source.left c.next_line.new.source) in
    let ended = ended_ahead c.next_line.new.self (g.I.Source.left c.next_line.new.source) in
    let old = mets c.args.sessions.now in
    let new = mets c.execute.new.self in
    let before = sides (g.I.Source.left c.args.input.now) (g.O.Sink.holds c.args.out.now) c.args.steps.now in
    let after = sides (g.I.Source.left c.next_line.new.source) (g.O.Sink.holds c.send.new.out) c.execute.new.steps in
    subst (λ (e : Halt). OneLine sight (Err e) script behind ended old new before after) (sym c.from.ensures)
    (not_sent sight c.in-Err-send.unsent (whole c.in-Line.line.items) c.in-Ok.reply script behind ended old new before after
    (c.in-Line.ensures.lines tells_input)
    (rw c.deref.ensures.value at c.in-Ok.ensures.serves)
    (c.in-Err-send.ensures.sends tells_out)
    (λ is. c.in-Err-send.ensures.fixed (ap Err is))
    (c.next_line.new.self.line.items, c.next_line.new.self.buffer, refl))

pub returns-in-Line-clause-line : goal.returns-in-Line-clause-line
returns-in-Line-clause-line g c tells_input tells_out =
    let more = rw c.deref.ensures.value at c.in-Err.ensures.unmet in (
      whole c.in-Line.line.items,
      c.in-Line.ensures.lines tells_input,
      more.0,
      more.1.unmet,
      more.1.many,
      (c.next_line.new.self.line.items, c.next_line.new.self.buffer, refl),
      record { unwritten = refl; unmade = c.in-Err.ensures.unmade },
    )

pub returns-in-Ok-send-2-clause-line : goal.returns-in-Ok-send-2-clause-line
returns-in-Ok-send-2-clause-line g c tells_input tells_out = (
  too_long,
  c.in-TooLong.ensures.lines tells_input,
  record {
    reply = LineTooLong;
    middle = c.args.steps.now;
    serves = skips g.S.EngineSteps.sight (mets c.args.sessions.now) (mets c.skip.new.self) c.args.steps.now c.in-Ok-skip.ensures.met;
    written = c.in-Ok-send-2.ensures.sends tells_out;
    later = Sound;
    batches = no_batches g.S.EngineSteps.sight c.args.steps.now;
    met_is = refl;
  },
)

pub returns-in-Ok-send-2-clause-fit : goal.returns-in-Ok-send-2-clause-fit
returns-in-Ok-send-2-clause-fit g c = c.skip.ensures.fit (length (g.S.EngineSteps.sight.settings c.args.steps.now).columns) c.requires.fit

pub returns-in-Ok-skip-clause-line : goal.returns-in-Ok-skip-clause-line
returns-in-Ok-skip-clause-line g c tells_input tells_out =
    let sight = g.S.EngineSteps.sight in
    let script = ahead c.args.lines.now (g.I.Source.left c.args.input.now) in
    let behind = ahead c.next_line.new.self (g.I.Source.left c.next_line.new.source) in
    let ended = ended_ahead c.next_line.new.self (g.I.Source.left c.next_line.new.source) in
    let old = mets c.args.sessions.now in
    let new = mets c.skip.new.self in
    let before = sides (g.I.Source.left c.args.input.now) (g.O.Sink.holds c.args.out.now) c.args.steps.now in
    let after = sides (g.I.Source.left c.next_line.new.source) (g.O.Sink.holds c.send-in-Ok-skip.new.out) c.args.steps.now in
    subst (λ (e : Halt). OneLine sight (Err e) script behind ended old new before after) (sym c.from-in-Err-send-2.ensures)
    (not_sent sight c.in-Err-send-2.unsent too_long LineTooLong script behind ended old new before after
    (c.in-TooLong.ensures.lines tells_input)
    (skips sight old new c.args.steps.now c.in-Ok-skip.ensures.met)
    (c.in-Err-send-2.ensures.sends tells_out)
    (λ is. c.in-Err-send-2.ensures.fixed (ap Err is))
    (c.next_line.new.self.line.items, c.next_line.new.self.buffer, refl))

pub returns-in-Ok-skip-clause-fit : goal.returns-in-Ok-skip-clause-fit
returns-in-Ok-skip-clause-fit g c = c.skip.ensures.fit (length (g.S.EngineSteps.sight.settings c.args.steps.now).columns) c.requires.fit

pub returns-in-TooLong-clause-fit : goal.returns-in-TooLong-clause-fit
returns-in-TooLong-clause-fit g c = c.skip.ensures.fit (length (g.S.EngineSteps.sight.settings c.args.steps.now).columns) c.requires.fit

-- ---- whose line it was

pub returns-in-Ok-send-clause-session : goal.returns-in-Ok-send-clause-session
returns-in-Ok-send-clause-session g c tells_input =
    let serves = rw c.deref.ensures.value at c.in-Ok.ensures.serves in (
      whole c.in-Line.line.items,
      c.in-Line.ensures.lines tells_input,
      spoken_of (g.S.EngineSteps.sight.settings c.args.steps.now) (whole c.in-Line.line.items) (mets c.args.sessions.now) (mets c.execute.new.self) serves.calls c.in-Ok.reply serves.says,
    )

pub returns-in-Line-clause-session : goal.returns-in-Line-clause-session
returns-in-Line-clause-session g c tells_input =
    let more = rw c.deref.ensures.value at c.in-Err.ensures.unmet in (whole c.in-Line.line.items, c.in-Line.ensures.lines tells_input, more.0, more.1)

pub returns-in-Ok-send-2-clause-session : goal.returns-in-Ok-send-2-clause-session
returns-in-Ok-send-2-clause-session g c tells_input =
    let serves = skips g.S.EngineSteps.sight (mets c.args.sessions.now) (mets c.skip.new.self) c.args.steps.now c.in-Ok-skip.ensures.met in (
      too_long,
      c.in-TooLong.ensures.lines tells_input,
      spoken_of (g.S.EngineSteps.sight.settings c.args.steps.now) too_long (mets c.args.sessions.now) (mets c.skip.new.self) serves.calls LineTooLong serves.says,
    )

pub returns-in-Ok-send-clause-fit : goal.returns-in-Ok-send-clause-fit
returns-in-Ok-send-clause-fit g c =
    let batches = c.met_behind.ensures.batches in
    subst (λ (s : Settings). AllFit (length s.columns) c.execute.new.self)
    (sym (made_keeps g.S.EngineSteps.sight batches.calls c.execute.new.steps c.met_behind.new.steps batches.steps).settings) c.in-Ok.ensures.fit
