use Rattle.std.proofs.Common.{◌≡◌, ◌+◌, ◌<◌, ◌^◌, ◌∷◌, ◌++◌, [], suc, length, sym, ap, ◌∙◌, subst, arith}
use Rattle.std.proofs.lemmas.List.{length-append}
use Rattle.fts_ilist.specs.Node.{Docs, last_of}
use Rattle.fts_ilist.specs.Packing.{node_size, are_loose}
use Rattle.fts_ilist.specs.NodeList.{IsRun, nodes_at, node_bytes, last_size}
use Rattle.fts_ilist.proofs.Runs.{run_more, nodes_more, head_within, last_size-push}
use Rattle.fts_ilist.proofs.Nodes.{last_of-push}
use Rattle.fts_ilist.proofs.Loose.{count_within}
use Rattle.fts_ilist.proofs.node_list.NodeList.put.Goals as goal

pub put_node-requires-clause-size : goal.put_node-requires-clause-size
put_node-requires-clause-size c =
    omega (arith, c.self.invariant.within_ends, c.requires.bytes, ap (λ s. s.byte_room) c.self.view_is, ap length c.node.invariant.spelled ∙ ap node_size c.node.view_is)

pub put_node-requires-clause-count : goal.put_node-requires-clause-count
put_node-requires-clause-count c =
    omega (arith, c.self.invariant.within_ends, c.requires.bytes, ap (λ s. s.byte_room) c.self.view_is, c.node.invariant.count_is, ap length c.node.view_is, count_within c.args.node.now)

pub invariant_of-self : goal.invariant_of-self
invariant_of-self c =
    let i = c.self.inside in
    let more = c.node.inside.bytes.now in
    let count = c.node.inside.count in
    let byte_room = ap (λ s. s.byte_room) c.self.view_is in
    let node_room = ap (λ s. s.node_room) c.self.view_is in
    let whole : length more ≡ node_size c.args.node.now = ap length c.node.invariant.spelled ∙ ap node_size c.node.view_is in
    let small : length more < 2 ^ 32 = omega (arith, c.self.invariant.within_ends, c.requires.bytes, byte_room, whole) in
    let few : count < 2 ^ 32 = omega (arith, small, whole, c.node.invariant.count_is, ap length c.node.view_is, count_within c.args.node.now) in
    let one : i.count + 1 ≡ suc i.count = omega arith in
    let items = c.put_node.ensures.items in
    let run = c.put_node.new.run.items in
    let nodes = ap (λ k. nodes_at k run) one
    ∙ ap (nodes_at (suc i.count)) items
    ∙ nodes_more count more (omega (arith, small)) (omega (arith, few)) c.node.invariant i.count i.run.items c.self.invariant.are
    ∙ ap (λ (d : Docs). nodes_at i.count i.run.items ++ d ∷ []) c.node.view_is
    ∙ ap (λ s. s.nodes ++ c.args.node.now ∷ []) c.self.view_is in
    record {
      are = subst (λ k. IsRun k run) (sym one)
          (subst (IsRun (suc i.count)) (sym items)
          (run_more count more (omega (arith, small)) (omega (arith, few)) c.node.invariant i.count i.run.items c.self.invariant.are));
      last_is = c.requires.last ∙ sym (last_of-push 0 c.args.self.now.nodes c.args.node.now) ∙ ap (last_of 0) (sym nodes);
      size_is = whole ∙ sym (last_size-push 0 c.args.self.now.nodes c.args.node.now) ∙ ap (last_size 0) (sym nodes);
      told = c.requires.loose ∙ ap are_loose (sym nodes);
      within = omega (arith, c.self.invariant.within, c.put_node.ensures.len, c.put_node.ensures.capacity, c.requires.nodes, c.requires.bytes, node_room, byte_room, whole);
      within_ends = omega (arith, c.self.invariant.within_ends, ap length items, length-append i.run.items (node_bytes count more), head_within count more small few, c.requires.nodes, c.requires.bytes, node_room, byte_room, whole);
      within_count = omega (arith, c.self.invariant.within_count, c.requires.nodes, node_room);
    }

pub returns : goal.returns
returns c =
    let i = c.self.inside in
    let more = c.node.inside.bytes.now in
    let count = c.node.inside.count in
    let byte_room = ap (λ s. s.byte_room) c.self.view_is in
    let node_room = ap (λ s. s.node_room) c.self.view_is in
    let whole : length more ≡ node_size c.args.node.now = ap length c.node.invariant.spelled ∙ ap node_size c.node.view_is in
    let small : length more < 2 ^ 32 = omega (arith, c.self.invariant.within_ends, c.requires.bytes, byte_room, whole) in
    let few : count < 2 ^ 32 = omega (arith, small, whole, c.node.invariant.count_is, ap length c.node.view_is, count_within c.args.node.now) in
    let one : i.count + 1 ≡ suc i.count = omega arith in
    record {
      nodes = ap (λ k. nodes_at k c.put_node.new.run.items) one
          ∙ ap (nodes_at (suc i.count)) c.put_node.ensures.items
          ∙ nodes_more count more (omega (arith, small)) (omega (arith, few)) c.node.invariant i.count i.run.items c.self.invariant.are
          ∙ ap (λ (d : Docs). nodes_at i.count i.run.items ++ d ∷ []) c.node.view_is
          ∙ ap (λ s. s.nodes ++ c.args.node.now ∷ []) c.self.view_is;
      node_room = omega (arith, node_room, c.requires.nodes);
      byte_room = omega (arith, byte_room, c.requires.bytes, whole);
    }
