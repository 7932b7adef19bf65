use Rattle.std.proofs.Common.{◌-◌, length, take, drop, sym, ap, subst, ◌∙◌, arith}
use Rattle.std.proofs.lemmas.List.{take_rest}
use Rattle.fts_ilist.specs.Reading.{postings_in}
use Rattle.fts_ilist.specs.NodeList.{IsLent}
use Rattle.fts_ilist.proofs.Runs.{second_is, is_size, is_count, is_rest, first_is, behind_is}
use Rattle.fts_ilist.proofs.node_list.first_node.Goals as goal

pub front_number-count-requires : goal.front_number-count-requires
front_number-count-requires c =
    let run = c.args.run.now in
    let s = c.front_number-size in
    let begins = c.requires in
    let second = take (length run - s.result.1) (drop s.result.1 run) in
    (begins.count, begins.rest, begins.few, second_is run begins s.result.0 s.result.1 s.ensures.found second (take_rest run s.result.1))

pub split_at-requires : goal.split_at-requires
split_at-requires c =
    let run = c.args.run.now in
    let s = c.front_number-size in
    let n = c.front_number-count in
    let begins = c.requires in
    let second = take (length run - s.result.1) (drop s.result.1 run) in
    let rest = take_rest second n.result.1
    ∙ is_rest run begins s.result.0 s.result.1 s.ensures.found second (take_rest run s.result.1) n.result.0 n.result.1 n.ensures.found in
    omega (arith, begins.within, is_size run begins s.result.0 s.result.1 s.ensures.found, ap length rest)

pub invariant_of-node : goal.invariant_of-node
invariant_of-node c =
    let run = c.args.run.now in
    let s = c.front_number-size in
    let n = c.front_number-count in
    let begins = c.requires in
    let second = take (length run - s.result.1) (drop s.result.1 run) in
    let rest = take_rest second n.result.1
    ∙ is_rest run begins s.result.0 s.result.1 s.ensures.found second (take_rest run s.result.1) n.result.0 n.result.1 n.ensures.found in
    let bytes = c.split_at.ensures.front ∙ ap (take s.result.0) rest
    ∙ ap (λ k. take k begins.rest) (is_size run begins s.result.0 s.result.1 s.ensures.found) in
    let count = is_count run begins s.result.0 s.result.1 s.ensures.found second (take_rest run s.result.1) n.result.0 n.result.1 n.ensures.found in
    subst (λ k. IsLent k c.split_at.result.0.now) (sym count) (subst (IsLent begins.count) (sym bytes) begins.node)

pub returns-clause-node : goal.returns-clause-node
returns-clause-node c =
    let run = c.args.run.now in
    let s = c.front_number-size in
    let n = c.front_number-count in
    let begins = c.requires in
    let second = take (length run - s.result.1) (drop s.result.1 run) in
    let rest = take_rest second n.result.1
    ∙ is_rest run begins s.result.0 s.result.1 s.ensures.found second (take_rest run s.result.1) n.result.0 n.result.1 n.ensures.found in
    let bytes = c.split_at.ensures.front ∙ ap (take s.result.0) rest
    ∙ ap (λ k. take k begins.rest) (is_size run begins s.result.0 s.result.1 s.ensures.found) in
    ap (postings_in 0) (bytes ∙ sym (first_is run begins))

pub returns-clause-rest : goal.returns-clause-rest
returns-clause-rest c =
    let run = c.args.run.now in
    let s = c.front_number-size in
    let n = c.front_number-count in
    let begins = c.requires in
    let second = take (length run - s.result.1) (drop s.result.1 run) in
    let rest = take_rest second n.result.1
    ∙ is_rest run begins s.result.0 s.result.1 s.ensures.found second (take_rest run s.result.1) n.result.0 n.result.1 n.ensures.found in
    c.split_at.ensures.back ∙ ap (drop s.result.0) rest
    ∙ ap (λ k. drop k begins.rest) (is_size run begins s.result.0 s.result.1 s.ensures.found) ∙ sym (behind_is run begins)
