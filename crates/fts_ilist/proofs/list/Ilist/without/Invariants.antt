use Rattle.fts_ilist.proofs.Merging.{IsLeaving}
use Rattle.fts_ilist.proofs.list.Ilist.without.Given as goal

abbrev pub invariant-loop-document : goal.invariant-loop-document
invariant-loop-document l = IsLeaving l.ids l.self l.left l.document-iterator
