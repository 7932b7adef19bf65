use Rattle.std.proofs.Common.{◌≡◌, ◌∷◌, ◌++◌, ◌+◌, ap, sym, ◌∙◌, rules}
use Rattle.fts_io.specs.Text.{lines_of, sorted, feeds}
use Rattle.fts_io.specs.Reading.{ahead, ended_ahead, lines_from}
use Rattle.fts_io.proofs.Cutting.{lines_from-some}
use Rattle.fts_io.proofs.Giving.{Gives-along, ends_one, lines_from-filled, single}
use Rattle.fts_io.proofs.lines.Lines.next_line.Goals as goal

pub returns-in-Endless-clause-endless_dry : goal.returns-in-Endless-clause-endless_dry
returns-in-Endless-clause-endless_dry g c tells bytes is =
    let lines = c.fill.new.self in
    let left = g.S.Source.left c.fill.new.source in
    let one = single lines.buffer (lines.past c.in-Endless.ensures.filled) in
    (one.0, (lines.line.items, ap (λ buffer. lines_from lines.line.items (buffer ++ left)) one.1, ap (λ buffer. feeds (buffer ++ left)) one.1))

pub returns-in-Ok-true-clause-lines : goal.returns-in-Ok-true-clause-lines
returns-in-Ok-true-clause-lines g c tells =
    let old = c.loop-self.self in
    let filled = c.fill.new.self in
    let piece = c.take_piece.new.self in
    let left = g.S.Source.left c.fill.new.source in
    Gives-along c.whole_line.result (sorted piece.line.items ∷ lines_of (piece.buffer ++ left))
    (ahead c.args.self.now (g.S.Source.left c.args.source.now))
    (lines_of (piece.buffer ++ left))
    (ahead c.whole_line.new.self left)
    (c.loop-self.invariant.lines tells
    ∙ lines_from-filled old.line.items filled.line.items old.buffer filled.buffer _ left (ap (λ v. v.items) c.in-Bytes.ensures.line) (c.in-Bytes.ensures.moved tells)
    ∙ (rw c.in-Ok-true.field-0-test at (c.in-Ok-true.ensures.lines left)).0)
    (ap (λ l. lines_from l (c.whole_line.new.self.buffer ++ left)) c.whole_line.ensures.empty ∙ ap (λ l. lines_of (l ++ left)) c.whole_line.ensures.buffer)
    (c.whole_line.ensures.gives (lines_of (piece.buffer ++ left)))

pub returns-in-Ok-true-clause-ends : goal.returns-in-Ok-true-clause-ends
returns-in-Ok-true-clause-ends g c tells =
    let left = g.S.Source.left c.fill.new.source in
    ends_one c.whole_line.result (ahead c.whole_line.new.self left)
    (ended_ahead c.args.self.now (g.S.Source.left c.args.source.now)) (ended_ahead c.whole_line.new.self left) c.whole_line.ensures.is_line
    (c.loop-self.invariant.ended tells
    ∙ ap feeds (c.in-Bytes.ensures.moved tells)
    ∙ (rw c.in-Ok-true.field-0-test at (c.in-Ok-true.ensures.lines left)).1
    ∙ ap (λ b. feeds (b ++ left) + 1) (sym c.whole_line.ensures.buffer))

pub returns-in-Err-clause-lines : goal.returns-in-Err-clause-lines
returns-in-Err-clause-lines g c tells =
    let old = c.loop-self.self in
    let filled = c.fill.new.self in
    let piece = c.take_piece.new.self in
    let left = g.S.Source.left c.fill.new.source in
    let same : ahead piece left ≡ ahead filled left =
    ap (λ l. lines_from l (piece.buffer ++ left)) c.in-Err.ensures.kept_line ∙ ap (λ b. lines_from filled.line.items (b ++ left)) c.in-Err.ensures.kept_buffer in (
      same
          ∙ sym (c.loop-self.invariant.lines tells
          ∙ lines_from-filled old.line.items filled.line.items old.buffer filled.buffer _ left (ap (λ v. v.items) c.in-Bytes.ensures.line) (c.in-Bytes.ensures.moved tells)),
      λ is. lines_from-some filled.line.items filled.buffer left c.in-Bytes.ensures.filled.0 (sym same ∙ is),
    )

pub loop-self-preserved : goal.loop-self-preserved
loop-self-preserved g c =
    let old = c.loop-self.self in
    let filled = c.fill.new.self in
    let left = g.S.Source.left c.fill.new.source in
    record {
      lines = λ tells.
          c.loop-self.invariant.lines tells
          ∙ lines_from-filled old.line.items filled.line.items old.buffer filled.buffer _ left (ap (λ v. v.items) c.in-Bytes.ensures.line) (c.in-Bytes.ensures.moved tells)
          ∙ sym (rw c.in-Ok-false.field-0-test at (c.in-Ok-false.ensures.lines left)).0;
      ended = λ tells.
          c.loop-self.invariant.ended tells
          ∙ ap feeds (c.in-Bytes.ensures.moved tells)
          ∙ (rw c.in-Ok-false.field-0-test at (c.in-Ok-false.ensures.lines left)).2;
      given = search rules;
      counts = search rules;
      work = search rules;
      calm = search rules;
    }
