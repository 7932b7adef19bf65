-- Documents that are taken out of the queues of their words.
use Rattle.std.proofs.Common.{◌≡◌, ◌≢◌, ⊎_elim, ℕ, zero, suc, ◌+◌, ◌-◌, ◌<◌, ◌≤◌, Bool, true, false, cond, ◌||◌, nat_eq, List, [], ◌∷◌, Option, Some, None, refl, sym, ap, ◌∙◌, arith}
use Rattle.fts_ilist.specs.Spelling.{Posting}
use Rattle.fts_ilist.specs.Queue.{Queue, postings_behind}
use Rattle.fts_cache.specs.Words.{Entries, number_in, queue_in, has_number, left_of, IsDropped, IsLess, KeepsNumbers}
use Rattle.fts_cache.proofs.Table.{has_it, which_number, some_is, queue_of_none}
use Rattle.fts_cache.proofs.Documents.{behind_again}

-- documents are taken out of queues, and these numbers are left of all to be looked at
pub record IsDropping (doc : ℕ) (rest all : List ℕ) (old now : Entries) : Type 0 where
  pub left : (w : List ℕ) → left_of doc rest (number_in now w) (queue_in now w).postings ≡ left_of doc all (number_in old w) (queue_in old w).postings
  pub numbers : KeepsNumbers now old
  pub last : (w : List ℕ) → (queue_in now w).last ≤ (queue_in old w).last

neither : (a b : Bool) → a ≡ false → b ≡ false → (a || b) ≡ false
neither true b e f = absurd cc
neither false b e f = f

either : (a b : Bool) → a ≡ true → (a || b) ≡ true
either true b e = refl
either false b e = absurd cc

rest_alone : (a b : Bool) → a ≡ false → (a || b) ≡ b
rest_alone true b e = absurd cc
rest_alone false b e = refl

same_number : (n : ℕ) → nat_eq n n ≡ true
same_number n = grind arith

-- what is behind doc loses nothing more
pub left_behind : (doc : ℕ) (numbers : List ℕ) (o : Option ℕ) (ps qs : List Posting) → qs ≡ postings_behind doc ps → left_of doc numbers o qs ≡ qs
left_behind doc numbers None ps qs e = refl
left_behind doc numbers (Some n) ps qs e = by (has_number n numbers)
  where
    by : (b : Bool) → cond b (postings_behind doc qs) qs ≡ qs
    by true = ap (postings_behind doc) e ∙ behind_again doc doc ps (omega arith) ∙ sym e
    by false = refl

-- what loses nothing behind doc
left_none : (doc : ℕ) (numbers : List ℕ) (o : Option ℕ) → left_of doc numbers o [] ≡ []
left_none doc numbers None = refl
left_none doc numbers (Some n) = by (has_number n numbers)
  where
    by : (b : Bool) → cond b (postings_behind doc []) [] ≡ []
    by true = refl
    by false = refl

-- the word with the first number
left_here : (doc n : ℕ) (rest : List ℕ) (ps : List Posting) → left_of doc (n ∷ rest) (Some n) ps ≡ postings_behind doc ps
left_here doc n rest ps = ap (λ (b : Bool). cond b (postings_behind doc ps) ps) (either (nat_eq n n) (has_number n rest) (same_number n))

-- a word with another
left_other : (doc n m : ℕ) (rest : List ℕ) (ps : List Posting) → m ≢ n → left_of doc (n ∷ rest) (Some m) ps ≡ left_of doc rest (Some m) ps
left_other doc n m rest ps differs =
    ⊎_elim
    (λ (x : (nat_eq m n ≡ true) × (m ≡ n)). absurd (differs x.1))
    (λ (x : (nat_eq m n ≡ false) × (m ≢ n)). ap (λ (b : Bool). cond b (postings_behind doc ps) ps) (rest_alone (nat_eq m n) (has_number m rest) x.0))
    (which_number m n)

none_some : (o : Option ℕ) (m : ℕ) → o ≡ None → o ≡ Some m → ⊥
none_some o m e f = cc

empty_of : (es : Entries) (w : List ℕ) → number_in es w ≡ None → (queue_in es w).postings ≡ []
empty_of es w e = ap (λ (q : Queue). q.postings) (queue_of_none es w e)

pub dropping_more : (doc n : ℕ) (rest all : List ℕ) (old now new : Entries) → IsDropping doc (n ∷ rest) all old now → ((w : List ℕ) → IsDropped n doc now new w) → IsDropping doc rest all old new
dropping_more doc n rest all old now new d h = record {
  left = λ w. step w ∙ d.left w;
  numbers = λ w m e. d.numbers w m ((h w).numbers m e);
  last = λ w. omega (arith, (h w).last, d.last w);
}
  where
    other : (w : List ℕ) → (o p : Option ℕ) → number_in now w ≡ o → number_in new w ≡ p → o ≢ Some n → (queue_in new w).postings ≡ (queue_in now w).postings
        → left_of doc rest p (queue_in new w).postings ≡ left_of doc (n ∷ rest) o (queue_in now w).postings
    other w None None e f differs same = same
    other w None (Some m) e f differs same = absurd (none_some (number_in now w) m e ((h w).numbers m f))
    other w (Some m) None e f differs same =
        let none : (queue_in new w).postings ≡ [] = empty_of new w f in
        none ∙ sym (ap (left_of doc (n ∷ rest) (Some m)) (sym same ∙ none) ∙ left_none doc (n ∷ rest) (Some m))
    other w (Some m) (Some k) e f differs same =
        let is : k ≡ m = some_is k m (sym ((h w).numbers k f) ∙ e) in
        ap (λ j. left_of doc rest (Some j) (queue_in new w).postings) is
        ∙ ap (left_of doc rest (Some m)) same
        ∙ sym (left_other doc n m rest (queue_in now w).postings (λ same. differs (ap Some same)))

    step : (w : List ℕ) → left_of doc rest (number_in new w) (queue_in new w).postings ≡ left_of doc (n ∷ rest) (number_in now w) (queue_in now w).postings
    step w =
        ⊎_elim
        (λ (e : number_in now w ≡ Some n).
        let here = (h w).here e in
        left_behind doc rest (number_in new w) (queue_in now w).postings (queue_in new w).postings here
        ∙ here
        ∙ sym (ap (λ o. left_of doc (n ∷ rest) o (queue_in now w).postings) e ∙ left_here doc n rest (queue_in now w).postings))
        (λ (e : number_in now w ≢ Some n). other w (number_in now w) (number_in new w) refl refl e ((h w).others e))
        (has_it (number_in now w) n)

-- where no number is left
pub dropping_ends : (doc : ℕ) (all : List ℕ) (old now : Entries) → IsDropping doc [] all old now → (w : List ℕ) → (queue_in now w).postings ≡ left_of doc all (number_in old w) (queue_in old w).postings
dropping_ends doc all old now d w = by (number_in now w) ∙ d.left w
  where
    by : (o : Option ℕ) → (queue_in now w).postings ≡ left_of doc [] o (queue_in now w).postings
    by None = refl
    by (Some n) = refl

pub less_again : (old now new : Entries) → IsLess old now → IsLess now new → IsLess old new
less_again old now new a b = record {
  numbers = λ w n e. a.numbers w n (b.numbers w n e);
  postings = λ w. b.postings w ∙ a.postings w;
  last = λ w. omega (arith, a.last w, b.last w);
}

-- ---- all numbers

-- so many numbers from one on
abbrev pub numbers_from : ℕ → ℕ → List ℕ
numbers_from n zero = []
numbers_from n (suc more) = n ∷ numbers_from (n + 1) more

pub numbers_step : (n end : ℕ) → n < end → numbers_from n (end - n) ≡ n ∷ numbers_from (n + 1) (end - (n + 1))
numbers_step n end lt = ap (numbers_from n) (one n end lt)
  where
    one : (a b : ℕ) → a < b → b - a ≡ suc (b - (a + 1))
    one a b l = grind arith

pub numbers_end : (n end : ℕ) → end ≤ n → numbers_from n (end - n) ≡ []
numbers_end n end le = ap (numbers_from n) (none n end le)
  where
    none : (a b : ℕ) → b ≤ a → b - a ≡ 0
    none a b l = grind arith

among_numbers : (n from more : ℕ) → from ≤ n → n < from + more → has_number n (numbers_from from more) ≡ true
among_numbers n from zero le lt = absurd (omega (arith, le, lt))
among_numbers n from (suc more) le lt =
    ⊎_elim
    (λ (x : (nat_eq n from ≡ true) × (n ≡ from)). either (nat_eq n from) (has_number n (numbers_from (from + 1) more)) x.0)
    (λ (x : (nat_eq n from ≡ false) × (n ≢ from)).
    rest_alone (nat_eq n from) (has_number n (numbers_from (from + 1) more)) x.0 ∙ among_numbers n (from + 1) more (omega (arith, le, x.1)) (omega (arith, lt)))
    (which_number n from)

-- what the walk over all numbers leaves
pub left_by_all : (doc end : ℕ) (es : Entries) → ((w : List ℕ) (n : ℕ) → number_in es w ≡ Some n → n < end)
    → (w : List ℕ) → left_of doc (numbers_from 0 end) (number_in es w) (queue_in es w).postings ≡ postings_behind doc (queue_in es w).postings
left_by_all doc end es below w = by (number_in es w) refl
  where
    by : (o : Option ℕ) → number_in es w ≡ o → left_of doc (numbers_from 0 end) o (queue_in es w).postings ≡ postings_behind doc (queue_in es w).postings
    by None e = empty_of es w e ∙ sym (ap (postings_behind doc) (empty_of es w e))
    by (Some n) e = ap (λ (b : Bool). cond b (postings_behind doc (queue_in es w).postings) (queue_in es w).postings) (among_numbers n 0 end (omega arith) (omega (arith, below w n e)))
