use Rattle.std.proofs.Common.{ℕ, List, refl, subst, arith}
use Rattle.fts_words.specs.Indexed.{placed_words}
use Rattle.fts_token.specs.Left.{placed_words_left, placed_words_behind}
use Rattle.fts_token.specs.Bounds.{is_inside, IsAhead}
use Rattle.fts_token.proofs.Rows.{sum_by_with_joints, words_from_column}
use Rattle.fts_token.proofs.placed.PlacedWords.new.Goals as goal

pub invariant_of-result : goal.invariant_of-result
unfolding is_inside
invariant_of-result c =
    let joined = sum_by_with_joints c.args.columns.now in
    record {
      few = c.requires.few;
      short = omega (arith, joined, c.requires.few, c.requires.short);
      column_within = omega arith;
      offset_is = refl;
      within = omega arith;
      outside = refl;
      ahead = subst (λ (t : List ℕ). IsAhead t 0 c.first.result.start c.first.result.bounds) c.text_of.ensures c.first.ensures;
      counted = omega arith;
    }

pub returns-clause-left : goal.returns-clause-left
unfolding placed_words_left placed_words_behind placed_words
returns-clause-left c = words_from_column c.args.columns.now 0 0
