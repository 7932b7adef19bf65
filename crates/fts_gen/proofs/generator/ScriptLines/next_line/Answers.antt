use Rattle.fts_gen.specs.Script.{names_of}
use Rattle.fts_gen.proofs.Lines.{next_statement}
use Rattle.fts_gen.proofs.generator.ScriptLines.next_line.Goals as goal

pub returns-clause-line : goal.returns-clause-line
returns-clause-line c =
    let s = c.args.self.now in
    next_statement (names_of s.table) s.sync s.optimize s.made s.count s.draw c.next_draw.result c.in_ok-line-3.draw
    c.in_ok-line-3.line.items c.if-self.false c.if-self-2.false c.if-self-3.false c.next_draw.ensures c.in_ok-line-3.ensures.0
    c.in_ok-line-3.ensures.1
