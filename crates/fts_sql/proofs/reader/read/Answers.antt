use Rattle.std.proofs.Common.{map, Some, None, sym, ap, ◌∙◌, arith}
use Rattle.std.specs.Option.{option_map}
use Rattle.fts_sql.specs.Reading.{token_of}
use Rattle.fts_sql.specs.Table.{parts_of}
use Rattle.fts_sql.specs.Reader.{spot_of, step_of}
use Rattle.fts_sql.proofs.Reached.{step_is, leads_to, stopped, ended}
use Rattle.fts_sql.proofs.reader.read.Goals as goal

pub returns-in_default : goal.returns-in_default
returns-in_default c =
    stopped (parts_of c.args.table.now) c.args.tokens.now c.loop-count.count _ (spot_of c.loop-count.place) (map token_of c.loop-count.taken.items) c.loop-count-test.true
    c.loop-count.invariant.leads
    (step_is (spot_of c.loop-count.place) _ None c.loop-count.invariant.table (ap (option_map step_of) (sym c.in_default.is) ∙ c.behind.ensures))

pub loop-count-preserved : goal.loop-count-preserved
loop-count-preserved c =
    let spot = spot_of c.loop-count.place in
    let taken = map token_of c.loop-count.taken.items in
    let step = step_of c.in-Some.step in
    let is = step_is spot _ (Some step) c.loop-count.invariant.table (ap (option_map step_of) (sym c.in-Some.is) ∙ c.behind.ensures) in
    record {
      table = is.1;
      leads = leads_to (parts_of c.args.table.now) c.args.tokens.now c.loop-count.count _ spot taken (map token_of c.take.new.taken.items) step c.loop-count-test.true
          c.loop-count.invariant.leads is c.in_ok-take.ensures;
    }

pub returns : goal.returns
returns c =
    ended (parts_of c.args.table.now) c.args.tokens.now c.loop-count.count (spot_of c.loop-count.place) (map token_of c.loop-count.taken.items) c.is_end.result
    (omega (arith, c.loop-count-test.false, c.loop-count.auto.count-end)) c.loop-count.invariant.table c.is_end.ensures c.loop-count.invariant.leads
