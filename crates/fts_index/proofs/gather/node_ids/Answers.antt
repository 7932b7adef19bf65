use Rattle.std.proofs.Common.{List, ℕ, subst, ap, ◌++◌, ◌∙◌}
use Rattle.fts_ilist.specs.Spelling.{Posting, ArePostings}
use Rattle.fts_index.specs.Gathered.{doc_ids}
use Rattle.fts_index.proofs.Gathering.{reading_more, read_ascend}
use Rattle.fts_index.proofs.gather.node_ids.Goals as goal

pub loop-node-preserved : goal.loop-node-preserved
loop-node-preserved c = record {
  can_next = tt;
  is_finite = tt;
  reading = reading_more c.args.nodes c.loop-node.ids.items c.loop-node.node-iterator c.in-Some.node c.next.new.self c.put_ids.new.ids.items
      c.loop-node.invariant.reading c.in-Some.ensures.steps (subst ArePostings c.cursor.ensures.documents c.cursor.ensures.are)
      (c.put_ids.ensures
      ∙ ap (λ (ids : List ℕ). ids ++ doc_ids c.cursor.result) c.reserve.ensures.items
      ∙ ap (λ (ps : List Posting). c.loop-node.ids.items ++ doc_ids ps) c.cursor.ensures.documents);
}

pub returns-clause-ascend : goal.returns-clause-ascend
returns-clause-ascend c = read_ascend c.args.nodes c.loop-node.ids.items c.loop-node.node-iterator c.loop-node.invariant.reading c.in-None.ensures.steps.0 c.requires
