use Rattle.std.proofs.Common.{arith, ◌<◌, ap, sym, subst}
use Rattle.fts_ilist.specs.Spelling.{ArePostings, HasFirstId, last_id}
use Rattle.fts_ilist.specs.Changes.{AreDisjoint}
use Rattle.fts_ilist.proofs.Merging.{behind_last, appended_are}
use Rattle.fts_ilist.proofs.list.Ilist.join.Goals as goal

pub merged-requires-clause-disjoint : goal.merged-requires-clause-disjoint
merged-requires-clause-disjoint c =
    subst (λ ps. AreDisjoint ps c.cursor-in-Some-2-2.result) (sym c.cursor-in-Some-2.ensures.documents)
    (subst (AreDisjoint c.args.self.now) (sym c.cursor-in-Some-2-2.ensures.documents) c.requires)

pub returns-in-None-clause-ascending : goal.returns-in-None-clause-ascending
returns-in-None-clause-ascending c = subst ArePostings c.self.view_is c.self.invariant.list.are

pub returns-in-Some-clause-ascending : goal.returns-in-Some-clause-ascending
returns-in-Some-clause-ascending c =
    let are : ArePostings c.args.self.now = subst ArePostings c.self.view_is c.self.invariant.list.are in
    let others : ArePostings c.args.other.now = subst ArePostings c.cursor.ensures.documents c.cursor.ensures.are in
    let first : HasFirstId c.args.other.now c.in-Some.first = subst (λ ps. HasFirstId ps c.in-Some.first) c.cursor.ensures.documents c.in-Some.ensures.doc in
    let above : last_id c.args.self.now < c.in-Some.first = omega (arith, c.self.invariant.list.last_is, ap last_id c.self.view_is) in
    appended_are c.append.result c.args.self.now c.args.other.now c.append.new.self c.append.ensures.ok c.append.ensures.err are (behind_last c.args.self.now c.args.other.now c.in-Some.first others first above)
