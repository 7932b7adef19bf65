use Rattle.std.proofs.Common.{length, List, ℕ, refl, sym, subst}
use Rattle.fts_io.specs.Text.{whole}
use Rattle.fts_gen.specs.Script.{lines_left, names_of}
use Rattle.fts_sessions.specs.Transaction.{Transaction, FitsTable}
use Rattle.fts_steps.proofs.FaultCounts.{counts_calm}
use Rattle.fts_top.specs.Generate.{as_lines}
use Rattle.fts_top.proofs.Playing.{PlayedFar, first_one, starts, plays_on, line_counts}
use Rattle.fts_top.proofs.generate.play_in.Goals as goal

pub lines-init : goal.lines-init
lines-init g c = record {
  far = λ start stands. starts g.S.EngineSteps.sight start (as_lines (lines_left c.args.script.now)) _ c.args.session.now.transaction c.args.steps.now stands refl c.new.ensures c.requires;
  fits = subst (λ (t : Transaction). FitsTable (length (g.S.EngineSteps.sight.settings c.args.steps.now).columns) t) (sym c.requires) tt;
  counted = counts_calm _ _ _ (λ is. cc) refl;
}

pub lines-preserved : goal.lines-preserved
lines-preserved g c =
    let sight = g.S.EngineSteps.sight in
    let s = c.lines.script in
    let more = rw c.in-Ok-Some.field-0-is at c.in-Ok-Some.ensures.line in
    let line = rw c.deref.ensures.value at c.play_line-played.ensures.line in
    record {
      far = λ start stands.
          plays_on sight start (as_lines (lines_left c.args.script.now)) c.in-Ok-Some.line.items (as_lines (lines_left c.next_line.new.self)) c.lines.played c.play_line-played.result
          c.lines.session.transaction c.play_line-played.new.session.transaction c.args.steps.now c.lines.steps c.play_line-played.new.steps
          (subst (λ (lines : List (List ℕ)). PlayedFar sight start (as_lines (lines_left c.args.script.now)) (as_lines lines) c.lines.played c.lines.session.transaction c.args.steps.now c.lines.steps)
          more (c.lines.invariant.far start stands))
          (first_one s.sync s.optimize (names_of s.table) _ _ s.draw c.in-Ok-Some.line.items (lines_left c.next_line.new.self) more)
          line;
      fits = c.play_line-played.ensures.fits;
      counted = line_counts sight (whole c.in-Ok-Some.line.items) c.lines.played c.play_line-played.result c.lines.session.transaction c.play_line-played.new.session.transaction
          c.args.steps.now c.lines.steps c.play_line-played.new.steps c.lines.invariant.counted line;
    }

pub returns-in-Ok-None-clause-plays : goal.returns-in-Ok-None-clause-plays
returns-in-Ok-None-clause-plays g c = λ start stands.
    let end = rw c.in-Ok-None.field-0-is at c.in-Ok-None.ensures.end in
    let far = subst (λ (lines : List (List ℕ)). PlayedFar g.S.EngineSteps.sight start (as_lines (lines_left c.args.script.now)) (as_lines lines) c.lines.played c.lines.session.transaction
    c.args.steps.now c.lines.steps) end.0 (c.lines.invariant.far start stands) in
    (record { front = far.front; silent = far.silent }, far.met_is, far.sums_are)

pub returns-in-Ok-None-clause-disk : goal.returns-in-Ok-None-clause-disk
returns-in-Ok-None-clause-disk g c = c.lines.invariant.counted

pub returns-in-Ok-None-clause-never_fall : goal.returns-in-Ok-None-clause-never_fall
returns-in-Ok-None-clause-never_fall g c = c.lines.invariant.counted.never_fall

pub returns-in-Err-clause-plays : goal.returns-in-Err-clause-plays
returns-in-Err-clause-plays g c = λ start stands.
    let far = c.lines.invariant.far start stands in
    (as_lines (lines_left c.lines.script), record { front = far.front; silent = far.silent })

pub returns-in-Err-clause-never_fall : goal.returns-in-Err-clause-never_fall
returns-in-Err-clause-never_fall g c = c.lines.invariant.counted.never_fall
