-- Small indexes worked out by hand: what the definitions compute.
use Rattle.std.proofs.Common.{◌≡◌, ℕ, ◌+◌, Bool, true, false, cond, not, filter, bytes_eq, List, [], ◌∷◌, ◌++◌, Some, None, refl, sym, subst, arith}
use Rattle.std.specs.Prelude.{codes, take, fold}
use Rattle.std.specs.List.{All, Contains}
use Rattle.std.proofs.lemmas.Bool.{false≢true}
use Rattle.std.proofs.lemmas.List.Elements.{All-head, All-contains, All-from_recursion}
use Rattle.std.proofs.lemmas.Slice.Eq.{bytes_eq-Decides}
use Rattle.fts_words.specs.Byte.{word_at, apostrophe_at}
use Rattle.fts_words.specs.Run.{runs_from}
use Rattle.fts_words.specs.RawWords.{in_word}
use Rattle.fts_words.specs.Indexed.{Rules, placed_words}
use Rattle.fts_types.specs.Row.{Row}
use Rattle.fts_commits.specs.Turn.{Turn, births_of}
use Rattle.fts_ids.specs.Ids.{has}
use Rattle.fts_ilist.specs.Spelling.{Posting}
use Rattle.fts_ilist.specs.Node.{Docs}
use Rattle.fts_ilist.specs.Packing.{packed, joined}
use Rattle.fts_entries.specs.Entry.{IndexEntry, sealed, begun, worked, finished, no_entries, index_of, unflushed}
use Rattle.fts_entries.specs.Batch.{covers, largest_after, alive_of, words_of, next_entry}
use Rattle.fts_entries.specs.Coming.{CanSeal, AreEntries}
use Rattle.fts_entries.specs.Exact.{is_deleted, all_postings, IdsAfter, TablesAreOf}
use Rattle.fts_entries.specs.Words.{rows_postings}

abbrev row : ℕ → Row
row doc = record { key = doc; doc = doc; texts = codes "apple" ∷ [] }

abbrev turn : List Row → List ℕ → ℕ → Turn
turn births deaths largest = record { births = births; deaths = deaths; largest = largest }

-- commits with two births, with one, with none, with one
abbrev four : List Turn
four = turn (row 1 ∷ row 2 ∷ []) [] 2 ∷ turn (row 3 ∷ []) (1 ∷ []) 3 ∷ turn [] (3 ∷ []) 5 ∷ turn (row 6 ∷ []) (2 ∷ []) 6 ∷ []

-- at least one commit, whatever it bears
covers_one : covers 1 four ≡ 1
covers_one = refl

-- one without births rides along
covers_three : covers 3 four ≡ 3
covers_three = refl

covers_all : covers 4 four ≡ 4
covers_all = refl

-- the id that a commit used and took back counts
largest_used : largest_after 0 (turn (row 1 ∷ []) [] 1 ∷ turn [] [] 2 ∷ []) ≡ 2
largest_used = refl

-- a batch leaves out who is dead at its step, whether or not the death is covered
alive_in_first : alive_of four (turn (row 1 ∷ row 2 ∷ []) [] 2 ∷ []) ≡ []
alive_in_first = refl

alive_later : alive_of four (turn (row 6 ∷ []) (2 ∷ []) 6 ∷ []) ≡ row 6 ∷ []
alive_later = refl

abbrev node : ℕ → Docs
node doc = record { id = doc; positions = 0 ∷ [] } ∷ []

abbrev first : IndexEntry
first = sealed 1 2 ((codes "apple", node 1 ∷ []) ∷ [])

abbrev second : IndexEntry
second = sealed 3 5 ((codes "apple", node 3 ∷ []) ∷ (codes "pie", node 3 ∷ []) ∷ [])

-- ids 1 and 3 die in the commits of the second batch: 1 was flushed before it and enters DELETED, 3 was not
only_flushed : (index_of four (first ∷ second ∷ [])).deleted ≡ 1 ∷ []
only_flushed = refl

-- a batch puts its nodes behind those that stand
nodes_behind : (index_of four (first ∷ second ∷ [])).nodes (codes "apple") ≡ node 1 ∷ node 3 ∷ []
nodes_behind = refl

nodes_of_one : (index_of four (first ∷ second ∷ [])).nodes (codes "pie") ≡ node 3 ∷ []
nodes_of_one = refl

-- what died in a commit that is not flushed is deleted too
deleted_in_cache : is_deleted four (index_of four (first ∷ second ∷ [])) 2 ≡ true
deleted_in_cache = refl

not_deleted : is_deleted four (index_of four (first ∷ second ∷ [])) 6 ≡ false
not_deleted = refl

-- an id that enters DELETED during a pass stays there behind its finish
during_a_pass : (index_of four (first ∷ second ∷ begun ∷ sealed 4 6 [] ∷ finished ∷ [])).deleted ≡ 2 ∷ []
during_a_pass = refl

-- a pass gives a word other nodes, and stands there
a_word : (index_of four (first ∷ second ∷ begun ∷ worked (codes "apple") (node 3 ∷ []) ∷ [])).nodes (codes "apple") ≡ node 3 ∷ []
a_word = refl

a_checkpoint : (index_of four (first ∷ begun ∷ worked (codes "apple") [] ∷ [])).checkpoint ≡ Some (codes "apple")
a_checkpoint = refl

no_checkpoint : (index_of four (first ∷ begun ∷ worked (codes "apple") [] ∷ finished ∷ [])).checkpoint ≡ None
no_checkpoint = refl

-- the commits behind the last batch
not_flushed : unflushed four (index_of four (first ∷ second ∷ [])) ≡ turn (row 6 ∷ []) (2 ∷ []) 6 ∷ []
not_flushed = refl

-- ---- the next batch

abbrev rules : Rules
rules = record { min = 3; max = 84; stopwords = [] }

abbrev pies : Row
pies = record { key = 9; doc = 9; texts = codes "Pie pie" ∷ codes "apple of" ∷ [] }

-- each indexed word once, in byte order
words_once : words_of rules (pies ∷ row 6 ∷ []) ≡ codes "apple" ∷ codes "pie" ∷ []
unfolding placed_words runs_from in_word word_at apostrophe_at
words_once = refl

-- the next batch has who is alive
next_is : next_entry rules 1 four (index_of four (first ∷ second ∷ [])) ≡ sealed 4 6 ((codes "apple", node 6 ∷ []) ∷ [])
unfolding placed_words runs_from in_word word_at
next_is = refl

-- and none of the words whose documents died
next_empty : next_entry rules 3 four no_entries ≡ sealed 3 5 []
next_empty = refl

-- ---- entries that can come

-- what a batch of one word has for any word
abbrev if_asked : Docs → Bool → List Docs
if_asked docs asked = cond asked (docs ∷ []) [] ++ []

-- document 1 alone, which has the word at this position
abbrev placed : ℕ → Docs
placed position = record { id = 1; positions = position ∷ [] } ∷ []

-- whatever the position is: what can come says nothing of texts
first_can : (position : ℕ) → packed (placed position) ≡ placed position ∷ [] → CanSeal four no_entries 1 2 ((codes "apple", placed position ∷ []) ∷ [])
first_can position one = record {
  later = omega arith;
  made = omega arith;
  synced_is = refl;
  ascend = λ word. ascends (bytes_eq word (codes "apple"));
  no_empty = refl;
  packed_are = λ word. is_packed (bytes_eq word (codes "apple"));
  born = λ word. is_born (bytes_eq word (codes "apple"));
}
  where
    ascends : (asked : Bool) → IdsAfter 0 (joined (if_asked (placed position) asked))
    ascends true = (omega arith, tt)
    ascends false = tt

    is_packed : (asked : Bool) → packed (joined (if_asked (placed position) asked)) ≡ if_asked (placed position) asked
    is_packed true = one
    is_packed false = refl

    is_born : (asked : Bool) → All (λ p. has (1 ∷ 2 ∷ []) p.id ≡ true) (joined (if_asked (placed position) asked))
    is_born true = All-from_recursion (λ (p : Posting). has (1 ∷ 2 ∷ []) p.id ≡ true) (placed position) (refl, tt)
    is_born false = All-from_recursion (λ (p : Posting). has (1 ∷ 2 ∷ []) p.id ≡ true) [] tt

entries_one : AreEntries four (first ∷ [])
entries_one = (first_can 0 refl, tt)

-- not with a document that is born behind the commits that it covers
not_born : CanSeal four no_entries 1 2 ((codes "apple", node 3 ∷ []) ∷ []) → ⊥
not_born can = false≢true (All-head (λ (p : Posting). has (1 ∷ 2 ∷ []) p.id ≡ true) _ [] (can.born (codes "apple")))

-- nor with documents that do not ascend
not_ascending : CanSeal four no_entries 1 2 ((codes "apple", (record { id = 2; positions = 0 ∷ [] } ∷ node 1) ∷ []) ∷ []) → ⊥
not_ascending can = absurd (omega (arith, (can.ascend (codes "apple")).1.0))

-- nor again, once it is flushed
not_twice : CanSeal four (index_of four (first ∷ [])) 1 2 ((codes "apple", node 1 ∷ []) ∷ []) → ⊥
not_twice can = absurd (omega (arith, can.later))

-- ---- what the tables have of who is dead

-- the first batch puts document 1 there as it was born, and the second commit takes it away
as_born : TablesAreOf rules (births_of (take 1 four)) (index_of four (first ∷ []))
unfolding placed_words runs_from in_word word_at
as_born word = by (bytes_eq word (codes "apple")) refl
  where
    by : (asked : Bool) → bytes_eq word (codes "apple") ≡ asked → All (Contains (rows_postings rules word (births_of (take 1 four)))) (joined (if_asked (node 1) asked))
    by true e =
        subst (λ (w : List ℕ). All (Contains (rows_postings rules w (births_of (take 1 four)))) (joined (if_asked (node 1) true))) (sym ((bytes_eq-Decides word (codes "apple")).0 e))
        (All-from_recursion (Contains (rows_postings rules (codes "apple") (births_of (take 1 four)))) (node 1) ((0, omega arith, refl), tt))
    by false e = λ k d less. absurd (omega (arith, less))

-- a batch that has it at another position could come
abbrev elsewhere : IndexEntry
elsewhere = sealed 1 2 ((codes "apple", placed 7 ∷ []) ∷ [])

elsewhere_can : AreEntries four (elsewhere ∷ [])
elsewhere_can = (first_can 7 refl, tt)

-- what is not deleted would be the same, since it is dead
live_elsewhere : filter (λ p. not (is_deleted four (index_of four (elsewhere ∷ [])) p.id)) (all_postings rules four (index_of four (elsewhere ∷ [])) (codes "apple"))
    ≡ rows_postings rules (codes "apple") (row 6 ∷ [])
unfolding placed_words runs_from in_word word_at
live_elsewhere = refl

-- but it was not born there
not_elsewhere : TablesAreOf rules (births_of (take 1 four)) (index_of four (elsewhere ∷ [])) → ⊥
unfolding placed_words runs_from in_word word_at
not_elsewhere tables = none (All-head (Contains (node 1 ++ node 2)) (record { id = 1; positions = 7 ∷ [] }) [] (tables (codes "apple")))
  where
    none : Contains (node 1 ++ node 2) (record { id = 1; positions = 7 ∷ [] }) → ⊥
    none there = absurd (omega (
      arith,
      All-contains (λ (p : Posting). fold (λ (n m : ℕ). n + m) 0 p.positions ≡ 0) (node 1 ++ node 2) (record { id = 1; positions = 7 ∷ [] })
          (All-from_recursion (λ (p : Posting). fold (λ (n m : ℕ). n + m) 0 p.positions ≡ 0) (node 1 ++ node 2) (refl, (refl, tt))) there,
    ))
