use Rattle.std.proofs.Common.{◌++◌, ◌-◌, length, take, drop, ap, ◌∙◌, rules}
use Rattle.fts_io.proofs.Window.{written-more}
use Rattle.fts_io.proofs.write.write_whole.Goals as goal

pub loop-written-preserved : goal.loop-written-preserved
loop-written-preserved g c =
    let bytes = c.args.bytes.now in
    let written = c.loop-written.written in
    let count = c.in-Ok.count in
    record {
      within = search rules;
      holds = λ tells.
          c.in-Ok.ensures.appends tells
          ∙ ap (λ l. l ++ take count (take (length bytes - written) (drop written bytes))) (c.loop-written.invariant.holds tells)
          ∙ written-more written count (g.K.Sink.holds c.args.sink.now) bytes;
      calm = search rules;
    }
