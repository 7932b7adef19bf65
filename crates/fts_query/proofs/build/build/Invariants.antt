use Rattle.std.proofs.Common.{◌≡◌, ◌++◌}
use Rattle.fts_words.specs.RawWords.{raw_words_from}
use Rattle.fts_meaning.specs.Token.{tokens_from}
use Rattle.fts_meaning.specs.Nesting.{Nests}
use Rattle.fts_query.specs.Ahead.{words_ahead}
use Rattle.fts_query.specs.Built.{written_so_far, height_of}
use Rattle.fts_query.proofs.build.build.Given as goal

abbrev pub invariant-loop-place : goal.invariant-loop-place
invariant-loop-place l = record {
  same : written_so_far l.builder ++ tokens_from l.query l.text l.place ≡ tokens_from l.query l.text 0;
  words : words_ahead l.words ≡ raw_words_from l.text l.place;
  nests : Nests (height_of l.builder) (tokens_from l.query l.text l.place);
}
