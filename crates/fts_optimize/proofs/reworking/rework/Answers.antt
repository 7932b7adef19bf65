use Rattle.std.proofs.Common.{◌≡◌, ◌≢◌, ◌++◌, [], List, All, ap, sym, subst, ◌∙◌}
use Rattle.std.proofs.lemmas.List.Elements.{All-from_recursion}
use Rattle.fts_ilist.specs.Changes.{postings_without}
use Rattle.fts_ilist.specs.Spelling.{Posting, ArePostings}
use Rattle.fts_ilist.specs.Node.{Docs, NodesAfter}
use Rattle.fts_optimize.proofs.Nodes.{goes_on, packed_after, after_filled, ok_leads}
use Rattle.std.specs.List.{AllByRecursion}
use Rattle.fts_entries.specs.Pass.{IsPackedNode}
use Rattle.fts_entries.proofs.Spelled.{packed_each}
use Rattle.fts_optimize.proofs.reworking.rework.Goals as goal

pub loop-node-preserved : goal.loop-node-preserved
loop-node-preserved c =
    let docs = c.in-Some.node in
    record {
      can_next = tt;
      is_finite = tt;
      reworking = goes_on c.args.being.now c.args.nodes c.loop-node.packing c.loop-node.node-iterator docs c.next.new.self c.put_node.new.packing
          c.loop-node.invariant.reworking c.in-Some.ensures.steps (subst ArePostings c.cursor.ensures.documents c.cursor.ensures.are)
          (c.in_ok-put_node.ensures ∙ ap (λ (ps : List Posting). c.loop-node.packing ++ postings_without c.args.being.now ps) c.cursor.ensures.documents);
    }

pub list_of-requires : goal.list_of-requires
list_of-requires c =
    subst (All (λ (docs : Docs). docs ≢ [])) (sym c.in_ok-finish.ensures)
    (All-from_recursion (λ (docs : Docs). docs ≢ []) _ (after_filled 0 _ (packed_after c.loop-node.packing c.loop-node.invariant.reworking.are)))

pub returns-clause-ascending : goal.returns-clause-ascending
returns-clause-ascending c =
    ok_leads c.list_of.result (λ list. list.nodes ≡ c.in_ok-finish.field-0.items) (λ list. NodesAfter 0 list.nodes)
    (λ list same. subst (NodesAfter 0) (sym (same ∙ c.in_ok-finish.ensures)) (packed_after c.loop-node.packing c.loop-node.invariant.reworking.are)) c.list_of.ensures

pub returns-clause-nodes : goal.returns-clause-nodes
returns-clause-nodes c =
    ok_leads c.list_of.result (λ list. list.nodes ≡ c.in_ok-finish.field-0.items) (λ list. AllByRecursion IsPackedNode list.nodes)
    (λ list same. subst (AllByRecursion IsPackedNode) (sym (same ∙ c.in_ok-finish.ensures)) (packed_each c.loop-node.packing c.loop-node.invariant.reworking.are)) c.list_of.ensures
