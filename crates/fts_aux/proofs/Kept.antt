-- What is kept beside the words of a table, as calls change them.
use Rattle.std.proofs.Common.{◌≡◌, ◌≢◌, ◌⊎◌, inl, inr, ⊎_elim, ◌<◌, ◌≤◌, ℕ, zero, suc, Bool, true, false, cond, ◌||◌, List, [], ◌∷◌, ◌++◌, length, Option, Some, None, is_some, refl, sym, ap, ◌∙◌, true≢false, arith}
use Rattle.std.specs.List.{list_any}
use Rattle.std.specs.Map.{keys_of}
use Rattle.std.specs.Str.{bytes_eq}
use Rattle.std.specs.BTreeSet.{BTreeSet, contains}
use Rattle.fts_words.specs.Order.{byte_order}
use Rattle.fts_ilist.specs.Node.{Docs}
use Rattle.fts_ilist.specs.NodeList.{NodeState, Takes}
use Rattle.fts_aux.specs.Table.{Entries, find, no_list, list_in, nodes_in, is_key, is_key_at, Room, room_of, no_room, IsListed, IsFilledBut, AreFilledBut, AreFilled, IsTable, Becomes, Enters, Lists, loose_count}
use Rattle.std.specs.BTreeMap.{is_at}
use Rattle.std.specs.Option.{unwrap_or}
use Rattle.fts_aux.proofs.Finds.{which_word, list_other}
use Rattle.fts_aux.proofs.Ordered.{equal_itself, apart_in_order}
use Rattle.fts_aux.proofs.Counts.{count_kept, count_more, count_entered}
use Rattle.std.proofs.lemmas.List.{length-append, length-map}

any_left : {X : Type 0} (p : X → Bool) (xs : List X) (x : X) → list_any p xs ≡ true → list_any p (xs ++ x ∷ []) ≡ true
any_left p [] x e = absurd (true≢false (sym e))
any_left {X} p (y ∷ ys) x e = or_more (p y) (list_any p ys) (list_any p (ys ++ x ∷ [])) (any_left p ys x) e
  where
    or_more : (a b c : Bool) → (b ≡ true → c ≡ true) → (a || b) ≡ true → (a || c) ≡ true
    or_more true b c f h = refl
    or_more false b c f h = f h

any_last : {X : Type 0} (p : X → Bool) (xs : List X) (x : X) → p x ≡ true → list_any p (xs ++ x ∷ []) ≡ true
any_last p [] x e = ap (λ b. b || false) e
any_last {X} p (y ∷ ys) x e = or_right (p y) (list_any p (ys ++ x ∷ [])) (any_last p ys x e)
  where
    or_right : (a b : Bool) → b ≡ true → (a || b) ≡ true
    or_right true b h = refl
    or_right false b h = h

pub none_before : (old new : NodeState) (more : List Docs) → Takes old new more → new.nodes ≡ [] → old.nodes ≡ []
none_before old new more takes none = front_none old.nodes more (sym takes.nodes ∙ none)
  where
    front_none : (xs ys : List Docs) → xs ++ ys ≡ [] → xs ≡ []
    front_none [] ys e = refl
    front_none (x ∷ xs) ys e = absurd cc

pub room_before : (old new : NodeState) (more : List Docs) → Takes old new more → room_of old ≡ no_room → room_of new ≡ no_room
room_before old new more takes none =
    let nodes : new.node_room ≡ 0 = omega (arith, takes.node_room, ap (λ (r : Room). r.nodes) none) in
    let bytes : new.byte_room ≡ 0 = omega (arith, takes.byte_room, ap (λ (r : Room). r.bytes) none) in
    ap (λ n. let r : Room = record { nodes = n; bytes = new.byte_room } in r) nodes ∙ ap (λ n. let r : Room = record { nodes = 0; bytes = n } in r) bytes

-- whether a word is there, after a change of one
key_after : (es new : Entries) (word : List ℕ) (o : Option NodeState) → Becomes es word o new → (w : List ℕ) → w ≢ word → is_key new w ≡ is_key es w
key_after es new word o b w apart =
    ⊎_elim
    (λ (h : (bytes_eq w word ≡ true) × (w ≡ word)). absurd (apart h.1))
    (λ (h : (bytes_eq w word ≡ false) × (w ≢ word)). ap is_some (b w ∙ ap (λ (t : Bool). cond t o (find w es)) h.0))
    (which_word w word)

key_there : (es : Entries) (n : ℕ) (w : List ℕ) → is_key_at (keys_of es) n w ≡ true → is_key es w ≡ true
key_there [] n w at = absurd (true≢false (sym at))
key_there (e ∷ es) zero w at = ap (λ (b : Bool). is_some (cond b (Some e.1) (find w es))) at
key_there (e ∷ es) (suc n) w at = or_there (bytes_eq w e.0) (key_there es n w at)
  where
    or_there : (b : Bool) → is_key es w ≡ true → is_some (cond b (Some e.1) (find w es)) ≡ true
    or_there true h = refl
    or_there false h = h

module _ (es new : Entries) (order : BTreeSet (List ℕ)) (kept : ℕ) (notes : List ℕ) (word : List ℕ) (loose : ℕ) (is : IsTable es order kept notes loose)
    (keys : keys_of new ≡ keys_of es) (are : (w : List ℕ) → is_key new w ≡ is_key es w) (others : (w : List ℕ) → w ≢ word → list_in new w ≡ list_in es w)
    (nodes : nodes_in new word ≡ [] → nodes_in es word ≡ []) where
  listed_still : IsListed new order
  listed_still w = is.listed w ∙ sym (are w)

  filled_still : IsFilledBut new kept
  filled_still n w at none =
      is.filled n w (ap (λ (ks : List (List ℕ)). is_key_at ks n w) (sym keys) ∙ at) (⊎_elim
      (λ (h : (bytes_eq w word ≡ true) × (w ≡ word)). ap (nodes_in es) h.1 ∙ nodes (sym (ap (nodes_in new) h.1) ∙ none))
      (λ (h : (bytes_eq w word ≡ false) × (w ≢ word)). ap (λ (l : NodeState). l.nodes) (sym (others w h.1)) ∙ none)
      (which_word w word))

  within_still : kept ≤ length (keys_of new)
  within_still = omega (arith, is.within, ap (λ (ks : List (List ℕ)). length ks) keys)

  noted_old : (w : List ℕ) → room_of (list_in es w) ≢ no_room → list_any (λ number. is_key_at (keys_of new) number w) notes ≡ true
  noted_old w some = ap (λ (ks : List (List ℕ)). list_any (λ number. is_key_at ks number w) notes) keys ∙ is.noted w some

  -- the word has no more room than before
  pub table_appended : (count : ℕ) → count ≡ loose_count new → (room_of (list_in es word) ≡ no_room → room_of (list_in new word) ≡ no_room) → IsTable new order kept notes count
  table_appended count counted less = record {
    counted = counted;
    listed = listed_still;
    filled = filled_still;
    within = within_still;
    noted = λ w some. noted_old w (λ none. some (⊎_elim
        (λ (h : (bytes_eq w word ≡ true) × (w ≡ word)). ap (λ (x : List ℕ). room_of (list_in new x)) h.1 ∙ less (ap (λ (x : List ℕ). room_of (list_in es x)) (sym h.1) ∙ none))
        (λ (h : (bytes_eq w word ≡ false) × (w ≢ word)). ap room_of (others w h.1) ∙ none)
        (which_word w word)));
  }

  -- the word has more room, and its number is noted
  pub table_reserved : nodes_in new word ≡ nodes_in es word → (n : ℕ) → is_key_at (keys_of es) n word ≡ true → IsTable new order kept (notes ++ n ∷ []) loose
  table_reserved same n at = record {
    counted = is.counted ∙ sym (count_kept es new word keys others same);
    listed = listed_still;
    filled = filled_still;
    within = within_still;
    noted = λ w some. ⊎_elim
        (λ (h : (bytes_eq w word ≡ true) × (w ≡ word)). any_last (λ number. is_key_at (keys_of new) number w) notes n (ap (λ (ks : List (List ℕ)). is_key_at ks n w) keys ∙ ap (is_key_at (keys_of es) n) h.1 ∙ at))
        (λ (h : (bytes_eq w word ≡ false) × (w ≢ word)). any_left (λ number. is_key_at (keys_of new) number w) notes n (noted_old w (λ none. some (ap room_of (others w h.1) ∙ none))))
        (which_word w word);
  }

-- ---- the words in byte order

some_of : (b : Bool) (o p : Option NodeState) → cond b (is_some o) (is_some p) ≡ is_some (cond b o p)
some_of true o p = refl
some_of false o p = refl

-- a word comes or goes in both
pub listed_one : (es new : Entries) (order order' : BTreeSet (List ℕ)) (word : List ℕ) (o : Option NodeState)
    → Becomes es word o new → Lists order word (is_some o) order' → IsListed es order → IsListed new order'
listed_one es new order order' word o becomes lists listed w =
    lists w ∙ ap (λ (b : Bool). cond (bytes_eq w word) (is_some o) b) (listed w) ∙ some_of (bytes_eq w word) o (find w es) ∙ sym (ap is_some (becomes w))

-- the order finds a word where its bytes are the same
is_at_word : (word w : List ℕ) → is_at (byte_order word) w ≡ bytes_eq w word
is_at_word word w =
    ⊎_elim
    (λ (h : (bytes_eq w word ≡ true) × (w ≡ word)). ap (λ (x : List ℕ). is_at (byte_order word) x) h.1 ∙ equal_itself word ∙ sym h.0)
    (λ (h : (bytes_eq w word ≡ false) × (w ≢ word)). apart_in_order word w h.1 ∙ sym h.0)
    (which_word w word)

pub lists_by : (order order' : BTreeSet (List ℕ)) (word : List ℕ) (has : Bool)
    → ((w : List ℕ) → contains byte_order order' w ≡ cond (is_at (byte_order word) w) has (contains byte_order order w)) → Lists order word has order'
lists_by order order' word has updates w = updates w ∙ ap (λ (b : Bool). cond b has (contains byte_order order w)) (is_at_word word w)

-- a word that was there stays, with another list
pub kept_one : (es new : Entries) (word : List ℕ) (l : NodeState) → Becomes es word (Some l) new → is_key es word ≡ true → (w : List ℕ) → is_key new w ≡ is_key es w
kept_one es new word l becomes there w =
    ⊎_elim
    (λ (h : (bytes_eq w word ≡ true) × (w ≡ word)). ap is_some (becomes w ∙ ap (λ (t : Bool). cond t (Some l) (find w es)) h.0) ∙ sym (ap (is_key es) h.1 ∙ there))
    (λ (h : (bytes_eq w word ≡ false) × (w ≢ word)). key_after es new word (Some l) becomes w h.1)
    (which_word w word)

pub are_written : (es new : Entries) (word : List ℕ) (l : NodeState) (n : ℕ) → Becomes es word (Some l) new → is_key_at (keys_of es) n word ≡ true → (w : List ℕ) → is_key new w ≡ is_key es w
are_written es new word l n becomes at = kept_one es new word l becomes (key_there es n word at)

-- what stands at a number before the last key stood there, or it is the last
before_last : (ks : List (List ℕ)) (k : List ℕ) (n : ℕ) (w : List ℕ) → is_key_at (ks ++ k ∷ []) n w ≡ true → (is_key_at ks n w ≡ true) ⊎ (n ≡ length ks)
before_last [] k zero w at = inr refl
before_last [] k (suc n) w at = absurd (true≢false (sym at))
before_last (x ∷ ks) k zero w at = inl at
before_last (x ∷ ks) k (suc n) w at = ⊎_elim (λ (h : is_key_at ks n w ≡ true). inl h) (λ (h : n ≡ length ks). inr (ap suc h)) (before_last ks k n w at)

-- a word was entered
pub table_entered : (es new : Entries) (order order' : BTreeSet (List ℕ)) (kept : ℕ) (notes : List ℕ) (word : List ℕ) (l : NodeState)
    → (loose : ℕ) → IsTable es order kept notes loose → find word es ≡ None → l.nodes ≡ [] → Enters es new word l → Lists order word true order' → IsTable new order' kept (notes ++ length es ∷ []) loose
table_entered es new order order' kept notes word l loose is none empty en inc = record {
  counted = is.counted ∙ sym (count_more es new word l none empty en);
  listed = listed_one es new order order' word (Some l) en.becomes inc is.listed;
  filled = λ n w at bare. ⊎_elim
      (λ (h : is_key_at (keys_of es) n w ≡ true). is.filled n w h (sym (count_entered es new word l none empty en w) ∙ bare))
      (λ (h : n ≡ length (keys_of es)). let w' = is.within in omega (arith, h, w'))
      (before_last (keys_of es) en.keys.0 n w (ap (λ (ks : List (List ℕ)). is_key_at ks n w) (sym en.keys.2) ∙ at));
  within = omega (arith, is.within, ap (λ (ks : List (List ℕ)). length ks) en.keys.2, length-append (keys_of es) (en.keys.0 ∷ []));
  noted = λ w some. ⊎_elim
      (λ (h : (bytes_eq w word ≡ true) × (w ≡ word)). any_last (λ number. is_key_at (keys_of new) number w) notes (length es) (ap (is_key_at (keys_of new) (length es)) h.1 ∙ en.last))
      (λ (h : (bytes_eq w word ≡ false) × (w ≢ word)). any_left (λ number. is_key_at (keys_of new) number w) notes (length es)
      (any_stay notes w (is.noted w (λ none. some (ap room_of (list_other es new word (Some l) en.becomes w h.1) ∙ none)))))
      (which_word w word);
}
  where
    any_stay : (ns : List ℕ) (w : List ℕ) → list_any (λ number. is_key_at (keys_of es) number w) ns ≡ true → list_any (λ number. is_key_at (keys_of new) number w) ns ≡ true
    any_stay [] w e = e
    any_stay (n ∷ ns) w e = or_both (is_key_at (keys_of es) n w) (is_key_at (keys_of new) n w) (list_any (λ number. is_key_at (keys_of es) number w) ns) (list_any (λ number. is_key_at (keys_of new) number w) ns) (en.stay n w) (any_stay ns w) e
      where
        or_both : (a b c d : Bool) → (a ≡ true → b ≡ true) → (c ≡ true → d ≡ true) → (a || c) ≡ true → (b || d) ≡ true
        or_both true b c d f g h = ap (λ x. x || d) (f refl)
        or_both false true c d f g h = refl
        or_both false false c d f g h = g h

-- a word that is there has a number
number_there : (es : Entries) (w : List ℕ) → is_key es w ≡ true → (n : ℕ) × (is_key_at (keys_of es) n w ≡ true)
number_there [] w k = absurd (true≢false (sym k))
number_there (e ∷ es) w k =
    ⊎_elim
    (λ (h : (bytes_eq w e.0 ≡ true) × (w ≡ e.0)). (zero, h.0))
    (λ (h : (bytes_eq w e.0 ≡ false) × (w ≢ e.0)).
    let r = number_there es w (sym (ap (λ (b : Bool). is_some (cond b (Some e.1) (find w es))) h.0) ∙ k) in (suc r.0, r.1))
    (which_word w e.0)

-- a number of a word is below that of the words
number_within : (ks : List (List ℕ)) (n : ℕ) (w : List ℕ) → is_key_at ks n w ≡ true → n < length ks
number_within [] n w at = absurd (true≢false (sym at))
number_within (k ∷ ks) zero w at = omega arith
number_within (k ∷ ks) (suc n) w at = omega (arith, number_within ks n w at)

-- the walk over the words without nodes begins at the last one, and ends at the first
pub all_before : (es : Entries) (kept : ℕ) → IsFilledBut es kept → AreFilledBut es kept (length es)
all_before es kept filled n w at none = (filled n w at none, omega (arith, number_within (keys_of es) n w at, length-map es (λ (x : List ℕ × NodeState). x.0)))

pub all_filled : (es : Entries) (kept number : ℕ) → number ≤ kept → AreFilledBut es kept number → AreFilled es
all_filled es kept number end filled w k none =
    let there = number_there es w k in
    let f = filled there.0 w there.1 none in absurd (omega (arith, f.0, f.1, end))

-- where each word has nodes
pub filled_none : (es : Entries) (kept : ℕ) → AreFilled es → IsFilledBut es kept
filled_none es kept filled n w at none = absurd (filled w (key_there es n w at) none)

pub kept_all : (es : Entries) → length es ≤ length (keys_of es)
kept_all es = omega (arith, length-map es (λ (x : List ℕ × NodeState). x.0))

-- a word was taken out, or has other nodes
pub filled_but : (es new : Entries) (word : List ℕ) → AreFilled es → ((w : List ℕ) → is_key new w ≡ true → is_key es w ≡ true)
    → ((w : List ℕ) → w ≢ word → nodes_in new w ≡ nodes_in es w) → (is_key new word ≡ true → nodes_in new word ≢ []) → AreFilled new
filled_but es new word filled are others here w k none =
    ⊎_elim
    (λ (h : (bytes_eq w word ≡ true) × (w ≡ word)). here (ap (is_key new) (sym h.1) ∙ k) (ap (nodes_in new) (sym h.1) ∙ none))
    (λ (h : (bytes_eq w word ≡ false) × (w ≢ word)). filled w (are w k) (sym (others w h.1) ∙ none))
    (which_word w word)

-- a word with nodes is there
pub key_of : (es : Entries) (w : List ℕ) → nodes_in es w ≢ [] → is_key es w ≡ true
key_of es w some = by (find w es) refl
  where
    by : (o : Option NodeState) → find w es ≡ o → is_key es w ≡ true
    by None e = absurd (some (ap (λ (o : Option NodeState). (unwrap_or o no_list).nodes) e))
    by (Some l) e = ap is_some e
