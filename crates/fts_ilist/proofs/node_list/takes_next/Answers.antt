use Rattle.std.proofs.Common.{◌+◌, length, nat_le, sym, ap, ◌∙◌}
use Rattle.fts_ilist.specs.Number.{number_bytes}
use Rattle.fts_ilist.specs.Packing.{node_size}
use Rattle.fts_ilist.proofs.Loose.{size_kept, takes_none}
use Rattle.fts_ilist.proofs.node_list.takes_next.Goals as goal

pub returns-then-head-gt-NODE_LIMIT : goal.returns-then-head-gt-NODE_LIMIT
returns-then-head-gt-NODE_LIMIT c = λ docs size last. sym (takes_none docs c.args.next.now c.head-head.result c.head-head.ensures c.if-head-gt-NODE_LIMIT.true)

pub returns : goal.returns
returns c = λ docs size last.
    let increase = c.number_len.ensures.length ∙ ap (λ n. length (number_bytes n)) c.saturating_sub.ensures in
    ap (λ n. nat_le n 8192) (ap (λ n. n + (c.number_len.result + c.head-head.result)) size ∙ ap (λ n. node_size docs + (n + c.head-head.result)) increase)
    ∙ sym (size_kept docs c.args.next.now c.first.result c.args.last c.head-head.result c.first.ensures last c.head-head.ensures)
