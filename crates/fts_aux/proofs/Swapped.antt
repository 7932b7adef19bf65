-- A word that is taken out by its number, which the last word gets.
use Rattle.std.proofs.Common.{◌≡◌, ◌≢◌, ◌⊎◌, inl, inr, ⊎_elim, ℕ, ◌+◌, ◌-◌, ◌<◌, Bool, true, false, cond, List, [], length, Option, Some, None, get_or, refl, sym, ap, ◌∙◌, true≢false, arith}
use Rattle.std.specs.List.{slice_get, sum_by, swap_remove, slice_set, slice_index_or}
use Rattle.std.specs.Map.{keys_of}
use Rattle.std.specs.Option.{unwrap_or}
use Rattle.std.specs.Str.{bytes_eq}
use Rattle.std.proofs.lemmas.Bool.{cases_order}
use Rattle.std.proofs.lemmas.List.{get_or-take, get_or-set_same, get_or-set_other, length-take, length-map}
use Rattle.std.proofs.lemmas.List.Sums.{sum_by-swap_remove}
use Rattle.std.proofs.lemmas.Option.{slice_get_within, slice_get-get_or, get_or_from_slice_get}
use Rattle.indexmap.proofs.SetLemmas.{map-swap_remove}
use Rattle.fts_ilist.specs.NodeList.{NodeState}
use Rattle.fts_aux.specs.Table.{Entries, find, no_list, list_in, nodes_in, key_is, is_key_at, Room, room_of, no_room, loose_one, loose_count, Becomes, AreFilledBut}
use Rattle.fts_aux.proofs.Finds.{which_word, list_other, no_key_at}
use Rattle.fts_aux.proofs.Counts.{one_of, sums_same, over_keys}

-- which key stands at a number then: another one that stood there, or the last
swapped : (ks : List (List ℕ)) (i : ℕ) (d : List ℕ) (n : ℕ) (w : List ℕ) → i < length ks → is_key_at (swap_remove ks i d) n w ≡ true
    → (((n < i) ⊎ (i < n)) × (is_key_at ks n w ≡ true)) ⊎ ((n ≡ i) × (n < length ks - 1) × (is_key_at ks (length ks - 1) w ≡ true))
swapped ks i d n w less at = by (slice_get (swap_remove ks i d) n) refl
  where
    by : (o : Option (List ℕ)) → slice_get (swap_remove ks i d) n ≡ o
        → (((n < i) ⊎ (i < n)) × (is_key_at ks n w ≡ true)) ⊎ ((n ≡ i) × (n < length ks - 1) × (is_key_at ks (length ks - 1) w ≡ true))
    by None e = absurd (true≢false (sym at ∙ ap (λ (o : Option (List ℕ)). key_is o w) e))
    by (Some k) e =
        let last : ℕ = length ks - 1 in
        let all : List (List ℕ) = slice_set ks i (slice_index_or ks last d) in
        let within : n < last = omega (arith, slice_get_within (swap_remove ks i d) n k e, length-take last all) in
        let here : bytes_eq w k ≡ true = ap (λ (o : Option (List ℕ)). key_is o w) (sym e) ∙ at in
        let got : get_or all n k ≡ k = sym (get_or-take last all n k within) ∙ get_or_from_slice_get (swap_remove ks i d) n k k e in
        ⊎_elim
        (λ (same : n ≡ i).
        let put : get_or all n k ≡ slice_index_or ks last d = ap (λ j. get_or all j k) same ∙ get_or-set_same ks i (slice_index_or ks last d) k less in
        let found : slice_get ks last ≡ Some (get_or ks last d) = slice_get-get_or ks last d (omega (arith, less)) in
        inr (same, within, ap (λ (o : Option (List ℕ)). key_is o w) found ∙ ap (λ (x : List ℕ). bytes_eq w x) (sym put ∙ got) ∙ here))
        (λ (apart : (n < i) ⊎ (i < n)).
        let stays : get_or all n k ≡ get_or ks n k = get_or-set_other ks i n (slice_index_or ks last d) k (λ (f : n ≡ i). ⊎_elim (λ (h : n < i). absurd (omega (arith, h, f))) (λ (h : i < n). absurd (omega (arith, h, f))) apart) in
        let found : slice_get ks n ≡ Some (get_or ks n k) = slice_get-get_or ks n k (omega (arith, within)) in
        inl (apart, ap (λ (o : Option (List ℕ)). key_is o w) found ∙ ap (λ (x : List ℕ). bytes_eq w x) (sym stays ∙ got) ∙ here))
        (cases_order n i)

none_is : (l : NodeState) → l.nodes ≡ [] → room_of l ≡ no_room → l ≡ no_list
none_is l n r =
    ap (λ ns. let s : NodeState = record { nodes = ns; node_room = l.node_room; byte_room = l.byte_room } in s) n
    ∙ ap (λ (x : Room). let s : NodeState = record { nodes = []; node_room = x.nodes; byte_room = x.bytes } in s) r

-- a word that has neither nodes nor room is taken out
pub lists_out : (es new : Entries) (word : List ℕ) → Becomes es word None new → nodes_in es word ≡ [] → room_of (list_in es word) ≡ no_room → (w : List ℕ) → list_in new w ≡ list_in es w
lists_out es new word becomes none room w =
    ⊎_elim
    (λ (h : (bytes_eq w word ≡ true) × (w ≡ word)).
    ap (λ (o : Option NodeState). unwrap_or o no_list) (becomes w ∙ ap (λ (b : Bool). cond b None (find w es)) h.0)
    ∙ sym (none_is (list_in es word) none room) ∙ ap (list_in es) (sym h.1))
    (λ (h : (bytes_eq w word ≡ false) × (w ≢ word)). list_other es new word None becomes w h.1)
    (which_word w word)

pub filled_out : (es new : Entries) (i : ℕ) (e : List ℕ × NodeState) → slice_get es i ≡ Some e → new ≡ swap_remove es i e
    → ((w : List ℕ) → nodes_in new w ≡ nodes_in es w) → (kept : ℕ) → AreFilledBut es kept (i + 1) → AreFilledBut new kept i
filled_out es new i e at is same kept filled n w key none =
    let less : i < length es = slice_get_within es i e at in
    let keys : keys_of new ≡ swap_remove (keys_of es) i e.0 = ap keys_of is ∙ map-swap_remove (λ (x : List ℕ × NodeState). x.0) es i e (omega (arith, less)) in
    let empty : nodes_in es w ≡ [] = sym (same w) ∙ none in
    ⊎_elim
    (λ (h : ((n < i) ⊎ (i < n)) × (is_key_at (keys_of es) n w ≡ true)).
    let f = filled n w h.1 empty in (f.0, ⊎_elim (λ (l : n < i). l) (λ (l : i < n). absurd (omega (arith, l, f.1))) h.0))
    (λ (h : (n ≡ i) × (n < length (keys_of es) - 1) × (is_key_at (keys_of es) (length (keys_of es) - 1) w ≡ true)).
    let f = filled (length (keys_of es) - 1) w h.2 empty in absurd (omega (arith, f.1, h.0, h.1)))
    (swapped (keys_of es) i e.0 n w (omega (arith, less, length-map es (λ (x : List ℕ × NodeState). x.0))) (ap (λ (ks : List (List ℕ)). is_key_at ks n w) (sym keys) ∙ key))

pub count_out_at : (es new : Entries) (i : ℕ) (e : List ℕ × NodeState) → slice_get es i ≡ Some e → new ≡ swap_remove es i e
    → ((w : List ℕ) → nodes_in new w ≡ nodes_in es w) → nodes_in es e.0 ≡ [] → loose_count new ≡ loose_count es
count_out_at es new i e at is same none =
    let over : List ℕ × NodeState → ℕ = λ x. one_of es x.0 in
    let gone : one_of es (get_or es i e).0 ≡ 0 = ap (λ (x : List ℕ × NodeState). one_of es x.0) (get_or_from_slice_get es i e e at) ∙ ap loose_one none in
    let out = sum_by-swap_remove (λ (x : List ℕ × NodeState). one_of es x.0) es i e (slice_get_within es i e at) in
    sums_same (one_of new) (one_of es) (λ k. ap loose_one (same k)) (keys_of new)
    ∙ sym (over_keys (one_of es) new)
    ∙ ap (sum_by (λ (x : List ℕ × NodeState). one_of es x.0)) is
    ∙ omega (arith, out, gone)
    ∙ over_keys (one_of es) es

-- no word has the number
pub filled_past : (es : Entries) (i : ℕ) → None ≡ slice_get es i → (kept : ℕ) → AreFilledBut es kept (i + 1) → AreFilledBut es kept i
filled_past es i none kept filled n w key bare =
    let f = filled n w key bare in (
      f.0,
      ⊎_elim
          (λ (same : n ≡ i). absurd (true≢false (sym key ∙ no_key_at es n w (none ∙ ap (λ j. slice_get es j) (sym same)))))
          (λ (apart : (n < i) ⊎ (i < n)). ⊎_elim (λ (l : n < i). l) (λ (l : i < n). absurd (omega (arith, l, f.1))) apart)
          (cases_order n i),
    )
