use Rattle.std.specs.Prelude.{ℕ, List, []}
use Rattle.fts_stopwords.specs.declared.StopSet.{StopSet}
use Rattle.fts_stopwords.specs.declared.StopSet.TheVariants.{Empty, Default}
use Rattle.fts_words.specs.Stopwords.{default_stopwords}

-- the words of a set
abbrev pub words_of : StopSet → List (List ℕ)
words_of Empty = []
words_of Default = default_stopwords
