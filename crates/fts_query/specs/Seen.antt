use Rattle.std.specs.Prelude.{List, map}
use Rattle.std.specs.Arc.{arc_value}
use Rattle.fts_query.specs.declared.view.Leaf.{Leaf}
use Rattle.fts_query.specs.declared.view.Leaf.TheVariants.{Nothing, Word, Prefix, Words}
use Rattle.fts_query.specs.declared.view.Postings.{Postings}
use Rattle.fts_query.specs.declared.view.Candidate.{Candidate}
use Rattle.fts_query.specs.declared.view.View.{View}
use Rattle.fts_meaning.specs.Leaf as leaf
use Rattle.fts_meaning.specs.Leaf.{no_leaf, of_word, of_prefix, of_words}
use Rattle.fts_meaning.specs.View as view

-- a leaf, as the definitions have it
abbrev pub leaf_seen : Leaf → leaf.Leaf
leaf_seen Nothing = no_leaf
leaf_seen (Word w) = of_word w.items
leaf_seen (Prefix w) = of_prefix w.items
leaf_seen (Words words) = of_words words

abbrev pub leaves_seen : List Leaf → List leaf.Leaf
leaves_seen leaves = map leaf_seen leaves

abbrev pub postings_seen : Postings → view.Postings
postings_seen postings = record { leaf = leaf_seen postings.leaf; ids = postings.ids }

abbrev pub candidate_seen : Candidate → view.Candidate
candidate_seen candidate = record { doc = candidate.doc; texts = arc_value candidate.texts }

-- a view, as the definitions have it
abbrev pub view_seen : View → view.View
view_seen v = record {
  number = v.number;
  postings = map postings_seen v.postings.items;
  texts = map candidate_seen v.texts.items;
}
