use Rattle.std.proofs.Common.{subst, sym}
use Rattle.fts_codec.specs.Reading.{Finds}
use Rattle.fts_ixcodec.proofs.ReadLists.{node_is, no_node}
use Rattle.fts_ixcodec.proofs.lists.node_in.Goals as goal

pub returns-in-Some : goal.returns-in-Some
returns-in-Some c =
    let found = c.in-Some.ensures.some in
    subst (Finds (λ node. node) c.node_with.result) (sym (node_is c.args.last c.args.bytes.now c.in-Some.node found.0 found.1)) c.node_with.ensures

pub returns-in-None : goal.returns-in-None
returns-in-None c = no_node c.args.last c.args.bytes.now c.in-None.ensures.none
