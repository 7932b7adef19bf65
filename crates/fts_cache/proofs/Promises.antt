-- Words that are entered, and the numbers that are noted for them.
use Rattle.std.proofs.Common.{◌≡◌, ℕ, ◌+◌, ◌<◌, suc, List, [], ◌∷◌, ◌++◌, length, drop, get_or, Some, arith, refl, ap, subst, ◌∙◌}
use Rattle.std.proofs.lemmas.List.{drop_more}
use Rattle.fts_ilist.specs.Queue.{Queue}
use Rattle.fts_cache.specs.Document.{WordPositions, Document}
use Rattle.fts_cache.specs.Cache.{AreNumbers}
use Rattle.fts_cache.specs.Words.{Entries, number_in, AreNumbersOf, Grows, Enters, KeepsNumbers}

pub numbers_kept : (old new : Entries) (vs : List WordPositions) (ns : List ℕ) → KeepsNumbers old new → AreNumbersOf old vs ns → AreNumbersOf new vs ns
numbers_kept old new [] [] k h = tt
numbers_kept old new [] (n ∷ ns) k h = h
numbers_kept old new (v ∷ vs) [] k h = h
numbers_kept old new (v ∷ vs) (n ∷ ns) k h = (k v.word n h.0, numbers_kept old new vs ns k h.1)

pub numbers_more : (es : Entries) (vs : List WordPositions) (ns : List ℕ) (v : WordPositions) (n : ℕ) → AreNumbersOf es vs ns → number_in es v.word ≡ Some n → AreNumbersOf es (vs ++ v ∷ []) (ns ++ n ∷ [])
numbers_more es [] [] v n h e = (e, tt)
numbers_more es [] (m ∷ ms) v n h e = absurd h
numbers_more es (w ∷ ws) [] v n h e = absurd h
numbers_more es (w ∷ ws) (m ∷ ms) v n h e = (h.0, numbers_more es ws ms v n h.1 e)

-- exactly these documents were promised
abbrev pub ArePromised : Entries → List Document → List (List ℕ) → Type 0
ArePromised words [] [] = Unit {0}
ArePromised words [] (n ∷ ns) = ⊥
ArePromised words (d ∷ ds) [] = ⊥
ArePromised words (d ∷ ds) (n ∷ ns) = AreNumbersOf words d.words n × ArePromised words ds ns

pub promised_kept : (old new : Entries) (ds : List Document) (ns : List (List ℕ)) → KeepsNumbers old new → ArePromised old ds ns → ArePromised new ds ns
promised_kept old new [] [] k h = tt
promised_kept old new [] (n ∷ ns) k h = h
promised_kept old new (d ∷ ds) [] k h = h
promised_kept old new (d ∷ ds) (n ∷ ns) k h = (numbers_kept old new d.words n k h.0, promised_kept old new ds ns k h.1)

pub promised_more : (es : Entries) (ds : List Document) (ns : List (List ℕ)) (d : Document) (n : List ℕ) → ArePromised es ds ns → AreNumbersOf es d.words n → ArePromised es (ds ++ d ∷ []) (ns ++ n ∷ [])
promised_more es [] [] d n h e = (e, tt)
promised_more es [] (m ∷ ms) d n h e = absurd h
promised_more es (x ∷ xs) [] d n h e = absurd h
promised_more es (x ∷ xs) (m ∷ ms) d n h e = (h.0, promised_more es xs ms d n h.1 e)

pub promised_numbers : (es : Entries) (ds : List Document) (ns : List (List ℕ)) → ArePromised es ds ns → AreNumbers es ds ns
promised_numbers es [] ns h = tt
promised_numbers es (d ∷ ds) [] h = h
promised_numbers es (d ∷ ds) (n ∷ ns) h = (h.0, promised_numbers es ds ns h.1)

pub same_numbers : (old new : Entries) → new.numbers ≡ old.numbers → KeepsNumbers old new
same_numbers old new e w n f = ap (λ ns. number_in (record { numbers = ns; slots = old.slots }) w) e ∙ f

pub grows_again : (old now new : Entries) → Grows old now → Grows now new → Grows old new
grows_again old now new a b = record {
  numbers = λ w n e. b.numbers w n (a.numbers w n e);
  more = omega (arith, a.more, b.more);
  postings = λ w. b.postings w ∙ a.postings w;
  last = λ w. b.last w ∙ a.last w;
}

pub entered_grows : (old new : Entries) → Enters old new → Grows old new
entered_grows old new h = record {
  numbers = h.numbers;
  more = h.more;
  postings = λ w. ap (λ (q : Queue). q.postings) (h.queues w);
  last = λ w. ap (λ (q : Queue). q.last) (h.queues w);
}

pub numbers_length : (es : Entries) (vs : List WordPositions) (ns : List ℕ) → AreNumbersOf es vs ns → length ns ≡ length vs
numbers_length es [] [] h = refl
numbers_length es [] (n ∷ ns) h = absurd h
numbers_length es (v ∷ vs) [] h = absurd h
numbers_length es (v ∷ vs) (n ∷ ns) h = ap suc (numbers_length es vs ns h.1)

pub numbers_step : (es : Entries) (v : WordPositions) (vs : List WordPositions) (ns : List ℕ) (i : ℕ) → i < length ns → AreNumbersOf es (v ∷ vs) (drop i ns)
    → (number_in es v.word ≡ Some (get_or ns i 0)) × AreNumbersOf es vs (drop (i + 1) ns)
numbers_step es v vs ns i lt h = subst (AreNumbersOf es (v ∷ vs)) (drop_more ns i 0 lt) h

pub promise_first : (es : Entries) (d : Document) (more : List Document) (ps : List (List ℕ)) (n : List ℕ) (rest : List (List ℕ)) → ps ≡ n ∷ rest → AreNumbers es (d ∷ more) ps → AreNumbersOf es d.words n
promise_first es d more ps n rest e h = (subst (AreNumbers es (d ∷ more)) e h).0

numbers_stay : (old new : Entries) (ds : List Document) (ps : List (List ℕ)) → KeepsNumbers old new → AreNumbers old ds ps → AreNumbers new ds ps
numbers_stay old new [] ps k h = tt
numbers_stay old new (d ∷ ds) [] k h = h
numbers_stay old new (d ∷ ds) (n ∷ ns) k h = (numbers_kept old new d.words n k h.0, numbers_stay old new ds ns k h.1)

pub promise_rest : (old new : Entries) (d : Document) (more : List Document) (ps : List (List ℕ)) (n : List ℕ) (rest : List (List ℕ)) → ps ≡ n ∷ rest → new.numbers ≡ old.numbers → AreNumbers old (d ∷ more) ps → AreNumbers new more rest
promise_rest old new d more ps n rest e same h = numbers_stay old new more rest (same_numbers old new same) (subst (AreNumbers old (d ∷ more)) e h).1
