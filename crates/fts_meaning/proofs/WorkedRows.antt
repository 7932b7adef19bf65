-- Small queries, worked out by hand: what the definitions compute.
use Rattle.std.proofs.Common.{◌≡◌, ℕ, true, List, [], ◌∷◌, refl}
use Rattle.std.specs.Prelude.{codes}
use Rattle.fts_words.specs.Byte.{word_at, apostrophe_at}
use Rattle.fts_words.specs.Run.{runs_from}
use Rattle.fts_words.specs.RawWords.{in_word}
use Rattle.fts_words.specs.Stopwords.{default_stopwords}
use Rattle.fts_words.specs.Indexed.{Rules, placed_words}
use Rattle.fts_meaning.specs.declared.sign.Sign.TheVariants.{Optional, Required, Excluded}
use Rattle.fts_meaning.specs.Quote.{quotes_from}
use Rattle.fts_meaning.specs.Distance.{distance_tail}
use Rattle.fts_meaning.specs.Plain.{plain, with_spaces, without}
use Rattle.fts_meaning.specs.Tree.{Operand, word, prefix, phrase, distance, Term, Terms, leaf, group, none, more}
use Rattle.fts_meaning.specs.Token.{stray_at, words_in, tokens_at, tokens_from, IsTreeOf}
use Rattle.fts_types.specs.Row.{Row}
use Rattle.fts_meaning.specs.Scan.{scan}
use Rattle.fts_meaning.specs.Leaf.{no_leaf, of_word, of_prefix, of_words, leaves}
use Rattle.fts_meaning.specs.View.{view_of}

standard : Rules
standard = record { min = 3; max = 84; stopwords = default_stopwords }

one : Term → Terms
one term = more term none

two : Term → Term → Terms
two first second = more first (more second none)

optional : Operand → Term
optional operand = leaf Optional operand

row : ℕ → List ℕ → Row
row doc text = record { key = doc; doc = doc; texts = text ∷ [] }

-- what is left of a query

phrase_hidden : plain (codes "a \"b(c\" d") ≡ codes "a \"     d"
unfolding quotes_from distance_tail with_spaces without word_at
phrase_hidden = refl

distance_hidden : plain (codes "\"b\" @12 d") ≡ codes "\"       d"
unfolding quotes_from distance_tail with_spaces without word_at
distance_hidden = refl

lone_quote_hides_nothing : plain (codes "( \"abc )") ≡ codes "( \"abc )"
unfolding quotes_from distance_tail with_spaces without word_at
lone_quote_hides_nothing = refl

-- trees

hyphen_excludes : IsTreeOf (codes "a-b") (two (optional (word (codes "a"))) (leaf Excluded (word (codes "b"))))
unfolding quotes_from distance_tail with_spaces without stray_at words_in tokens_at tokens_from word_at apostrophe_at in_word runs_from two optional
hyphen_excludes = refl

word_and_phrase : IsTreeOf (codes "foo\"bar baz\"") (two (optional (word (codes "foo"))) (optional (phrase (codes "bar" ∷ codes "baz" ∷ []))))
unfolding quotes_from distance_tail with_spaces without stray_at words_in tokens_at tokens_from word_at apostrophe_at in_word runs_from two optional
word_and_phrase = refl

group_and_distance : IsTreeOf (codes "+(Pie the*) -\"x\" @7") (two (group Required (two (optional (word (codes "pie"))) (optional (prefix (codes "the"))))) (leaf Excluded (distance (codes "x" ∷ []) 7)))
unfolding quotes_from distance_tail with_spaces without stray_at words_in tokens_at tokens_from word_at apostrophe_at in_word runs_from two optional
group_and_distance = refl

-- faults

star_behind_star : stray_at (codes "a**") (codes "a**") 2 ≡ true
unfolding stray_at word_at
star_behind_star = refl

sign_before_sign : stray_at (codes "++a") (codes "++a") 0 ≡ true
unfolding stray_at word_at
sign_before_sign = refl

-- what a search finds

three_rows : List Row
three_rows = row 1 (codes "apple pie") ∷ row 2 (codes "apple theory") ∷ row 3 (codes "the theory") ∷ []

stopword_dropped : scan standard three_rows (two (leaf Required (word (codes "apple"))) (leaf Required (word (codes "the")))) ≡ 1 ∷ 2 ∷ []
unfolding three_rows row two standard default_stopwords words_in word_at apostrophe_at in_word runs_from placed_words
stopword_dropped = refl

prefix_stays : scan standard three_rows (two (leaf Required (word (codes "apple"))) (leaf Required (prefix (codes "the")))) ≡ 2 ∷ []
unfolding three_rows row two standard default_stopwords words_in word_at apostrophe_at in_word runs_from placed_words
prefix_stays = refl

nothing_left : scan standard three_rows (one (optional (word (codes "the")))) ≡ []
unfolding three_rows row one optional standard default_stopwords words_in word_at apostrophe_at in_word runs_from placed_words
nothing_left = refl

group_without_apple : scan standard three_rows (two (group Required (two (optional (word (codes "pie"))) (optional (word (codes "theory"))))) (leaf Excluded (word (codes "apple")))) ≡ 3 ∷ []
unfolding three_rows row two optional standard default_stopwords words_in word_at apostrophe_at in_word runs_from placed_words
group_without_apple = refl

excluded_alone : scan standard (row 1 (codes "pear") ∷ []) (one (leaf Excluded (word (codes "apple")))) ≡ []
unfolding row one standard default_stopwords words_in word_at apostrophe_at in_word runs_from placed_words
excluded_alone = refl

distance_rows : List Row
distance_rows = row 1 (codes "apple the pie") ∷ row 2 (codes "apple of the pie") ∷ row 3 (codes "apple apple") ∷ []

within_two : scan standard distance_rows (one (optional (distance (codes "apple" ∷ codes "pie" ∷ []) 2))) ≡ 1 ∷ []
unfolding distance_rows row one optional standard default_stopwords words_in word_at apostrophe_at in_word runs_from placed_words
within_two = refl

within_three : scan standard distance_rows (one (optional (distance (codes "apple" ∷ codes "pie" ∷ []) 3))) ≡ 1 ∷ 2 ∷ []
unfolding distance_rows row one optional standard default_stopwords words_in word_at apostrophe_at in_word runs_from placed_words
within_three = refl

one_word_twice : scan standard distance_rows (one (optional (distance (codes "apple" ∷ codes "apple" ∷ []) 0))) ≡ 1 ∷ 2 ∷ 3 ∷ []
unfolding distance_rows row one optional standard default_stopwords words_in word_at apostrophe_at in_word runs_from placed_words
one_word_twice = refl

phrase_in_one_column : scan standard (record { key = 1; doc = 1; texts = codes "x" ∷ codes "test, phrase" ∷ [] } ∷ record { key = 2; doc = 2; texts = codes "x" ∷ codes "test the phrase" ∷ [] } ∷ record { key = 3; doc = 3; texts = codes "a test" ∷ codes "phrase b" ∷ [] } ∷ []) (one (optional (phrase (codes "test" ∷ codes "phrase" ∷ [])))) ≡ 1 ∷ []
unfolding one optional standard default_stopwords words_in word_at apostrophe_at in_word runs_from placed_words
phrase_in_one_column = refl

-- a phrase of words that can't be indexed words is found nowhere, though they stand together
phrase_of_stopwords : scan standard (record { key = 1; doc = 1; texts = codes "all of the" ∷ [] } ∷ []) (one (optional (phrase (codes "of" ∷ codes "the" ∷ [])))) ≡ []
unfolding one optional standard default_stopwords
phrase_of_stopwords = refl

-- what a query asks the index for: one leaf for each operand, those in brackets too

one_leaf_an_operand : leaves standard (two (leaf Required (word (codes "the"))) (group Required (two (optional (phrase (codes "the" ∷ codes "of" ∷ []))) (optional (prefix (codes "the")))))) ≡ no_leaf ∷ no_leaf ∷ of_prefix (codes "the") ∷ []
unfolding two optional standard default_stopwords
one_leaf_an_operand = refl

indexable_words_asked : leaves standard (two (optional (word (codes "pie"))) (optional (distance (codes "a" ∷ codes "pie" ∷ codes "apple" ∷ []) 3))) ≡ of_word (codes "pie") ∷ of_words (codes "pie" ∷ codes "apple" ∷ []) ∷ []
unfolding two optional standard default_stopwords
indexable_words_asked = refl

-- what a view has: the ids of each leaf, and the texts of a phrase's candidates alone

two_rows : List Row
two_rows = row 4 (codes "pie of an apple") ∷ row 7 (codes "apple") ∷ []

texts_of_candidates : view_of standard two_rows 9 (of_word (codes "apple") ∷ no_leaf ∷ of_words (codes "apple" ∷ codes "pie" ∷ []) ∷ []) ≡ record {
  number = 9;
  postings = record { leaf = of_word (codes "apple"); ids = 4 ∷ 7 ∷ [] } ∷ record { leaf = no_leaf; ids = [] } ∷ record { leaf = of_words (codes "apple" ∷ codes "pie" ∷ []); ids = 4 ∷ [] } ∷ [];
  texts = record { doc = 4; texts = codes "pie of an apple" ∷ [] } ∷ [];
}
unfolding two_rows row standard default_stopwords words_in word_at apostrophe_at in_word runs_from placed_words
texts_of_candidates = refl
