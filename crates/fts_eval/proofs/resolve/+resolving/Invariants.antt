use Rattle.std.proofs.Common.{List, map}
use Rattle.fts_words.specs.Indexed.{Rules}
use Rattle.fts_types.specs.Row.{Row}
use Rattle.fts_meaning.specs.Leaf.{Leaf}
use Rattle.fts_meaning.specs.View.{Candidate}
use Rattle.fts_query.specs.Seen.{postings_seen}
use Rattle.fts_eval.specs.Means.{PostingsBegin}
use Rattle.fts_eval.proofs.Listing.{leaves_from}
use Rattle.fts_eval.proofs.Building.{IsBuilding}
use Rattle.fts_eval.proofs.resolve.+resolving.Given as goal

abbrev pub invariant-parts_of-loop-term : goal.invariant-parts_of-loop-term
invariant-parts_of-loop-term l =
    (rules : Rules) (rows : List Row) (before after : List Leaf) (texts : List Candidate) → PostingsBegin rules rows before (leaves_from rules l.terms 0) after texts (map postings_seen l.initial.rest)
    → IsBuilding rules rows after texts l.terms l.term-index l.parts (map postings_seen l.rest)
