use Rattle.std.proofs.Common.{sym, ap, rules, ◌∙◌}
use Rattle.fts_ilist.specs.Reading.{postings_in}
use Rattle.fts_ilist.proofs.Postings.{postings_in-bytes}
use Rattle.fts_ilist.proofs.Lists.{read_list, list_tail}
use Rattle.fts_ilist.proofs.Nodes.{none_counted, some_counted}
use Rattle.fts_ilist.proofs.node.Node.read.Goals as goal

pub returns-then-count-eq0-clause-none : goal.returns-then-count-eq0-clause-none
returns-then-count-eq0-clause-none c = λ ps are some e.
    some (sym (postings_in-bytes 0 ps are) ∙ sym (ap (postings_in 0) e)
    ∙ none_counted (postings_in 0 c.args.bytes.now) c.in-Ok.count c.if-count-eq0.true c.in-Ok.ensures.count)

pub first_of-first-requires : goal.first_of-first-requires
first_of-first-requires c = list_tail c.in-Ok.last c.args.bytes.now (read_list c.args.bytes.now c.in-Ok.last c.in-Ok.ensures.found)

pub new-requires : goal.new-requires
new-requires c = list_tail c.in-Ok.last c.args.bytes.now (read_list c.args.bytes.now c.in-Ok.last c.in-Ok.ensures.found)

pub invariant_of-result : goal.invariant_of-result
invariant_of-result c = record {
  kept = record {
    list = read_list c.args.bytes.now c.in-Ok.last c.in-Ok.ensures.found;
    first_is = c.first_of-first.ensures;
    count_is = c.in-Ok.ensures.count;
  };
  some = some_counted (postings_in 0 c.args.bytes.now) c.in-Ok.count c.if-count-eq0.false c.in-Ok.ensures.count;
  head_is = search rules;
}

pub returns-else-count-eq0-clause-some : goal.returns-else-count-eq0-clause-some
returns-else-count-eq0-clause-some c =
    let l = read_list c.args.bytes.now c.in-Ok.last c.in-Ok.ensures.found in
    (l.are, l.spelled)
