-- Room, as calls ask for it and use it.
use Rattle.std.proofs.Common.{◌≡◌, ◌≢◌, ⊎_elim, ℕ, Bool, true, false, cond, List, [], ◌∷◌, ◌++◌, refl, sym, ap, subst, ◌∙◌, arith}
use Rattle.std.specs.Str.{bytes_eq}
use Rattle.std.proofs.lemmas.List.{length-append}
use Rattle.std.proofs.lemmas.List.Sums.{sum_by-append}
use Rattle.fts_ilist.specs.Node.{Docs, nodes_for}
use Rattle.fts_ilist.specs.Packing.{node_size}
use Rattle.fts_ilist.specs.NodeList.{NodeState, Takes}
use Rattle.fts_aux.proofs.Finds.{is_same, which_word}
use Rattle.fts_aux.specs.Table.{Room, no_room, room_of, with_room, needs, IsWithin}

pub room_is : (r s : Room) → r.nodes ≡ s.nodes → r.bytes ≡ s.bytes → r ≡ s
room_is r s n b = ap (λ (x : ℕ). let q : Room = record { nodes = x; bytes = r.bytes } in q) n ∙ ap (λ (x : ℕ). let q : Room = record { nodes = s.nodes; bytes = x } in q) b

pub with_none : (r : Room) → with_room r no_room ≡ r
with_none r = room_is (with_room r no_room) r (omega arith) (omega arith)

pub none_with : (r : Room) → with_room no_room r ≡ r
none_with r = room_is (with_room no_room r) r (omega arith) (omega arith)

pub room_used : (old new : NodeState) (more : List Docs) → Takes old new more → with_room (room_of new) (needs more) ≡ room_of old
room_used old new more takes = room_is (with_room (room_of new) (needs more)) (room_of old) takes.node_room takes.byte_room

pub needs_more : (ms ns : List Docs) → needs (ms ++ ns) ≡ with_room (needs ms) (needs ns)
needs_more ms ns = room_is (needs (ms ++ ns)) (with_room (needs ms) (needs ns)) (length-append ms ns) (sum_by-append node_size ms ns)

-- what a group of a batch needs for a word
pub needs_first : (w word : List ℕ) (added : List Docs) (rest : List (List ℕ × List Docs)) → needs (nodes_for w ((word, added) ∷ rest)) ≡ with_room (cond (bytes_eq w word) (needs added) no_room) (needs (nodes_for w rest))
needs_first w word added rest = needs_more (cond (bytes_eq w word) added []) (nodes_for w rest) ∙ ap (λ r. with_room r (needs (nodes_for w rest))) (of_cond (bytes_eq w word))
  where
    of_cond : (b : Bool) → needs (cond b added []) ≡ cond b (needs added) no_room
    of_cond true = refl
    of_cond false = refl

-- a group takes its room
pub gained : (old new first rest all : Room) → new ≡ with_room old first → with_room old (with_room first rest) ≡ all → with_room new rest ≡ all
gained old new first rest all e so =
    room_is (with_room new rest) all
    (omega (arith, ap (λ (r : Room). r.nodes) e, ap (λ (r : Room). r.nodes) so))
    (omega (arith, ap (λ (r : Room). r.bytes) e, ap (λ (r : Room). r.bytes) so))

pub used : (old new first rest : Room) → with_room new first ≡ old → IsWithin (with_room first rest) old → IsWithin rest new
used old new first rest e within =
    (omega (arith, ap (λ (r : Room). r.nodes) e, within.0), omega (arith, ap (λ (r : Room). r.bytes) e, within.1))

pub first_used : (old first rest : Room) → IsWithin (with_room first rest) old → IsWithin first old
first_used old first rest within = (omega (arith, within.0), omega (arith, within.1))

pub used_more : (old new first rest before all : Room) → with_room new first ≡ old → with_room old all ≡ with_room before (with_room first rest) → with_room new all ≡ with_room before rest
used_more old new first rest before all e so =
    room_is (with_room new all) (with_room before rest)
    (omega (arith, ap (λ (r : Room). r.nodes) e, ap (λ (r : Room). r.nodes) so))
    (omega (arith, ap (λ (r : Room). r.bytes) e, ap (λ (r : Room). r.bytes) so))

-- the first group's nodes have room
pub here_needs : (old : Room) (word : List ℕ) (added : List Docs) (rest : List (List ℕ × List Docs)) → IsWithin (needs (nodes_for word ((word, added) ∷ rest))) old → IsWithin (needs added) old
here_needs old word added rest within =
    first_used old (needs added) (needs (nodes_for word rest))
    (subst (λ r. IsWithin r old) (needs_first word word added rest ∙ ap (λ b. with_room (cond b (needs added) no_room) (needs (nodes_for word rest))) (is_same word)) within)

-- one word's room is used, and no other
pub uses_by : (new old : List ℕ → Room) (word : List ℕ) (more : Room) → with_room (new word) more ≡ old word → ((q : List ℕ) → q ≢ word → new q ≡ old q)
    → (q : List ℕ) → with_room (new q) (cond (bytes_eq q word) more no_room) ≡ old q
uses_by new old word more here others q =
    ⊎_elim
    (λ (h : (bytes_eq q word ≡ true) × (q ≡ word)).
    ap (λ b. with_room (new q) (cond b more no_room)) h.0 ∙ ap (λ x. with_room (new x) more) h.1 ∙ here ∙ ap old (sym h.1))
    (λ (h : (bytes_eq q word ≡ false) × (q ≢ word)).
    ap (λ b. with_room (new q) (cond b more no_room)) h.0 ∙ with_none (new q) ∙ others q h.1)
    (which_word q word)
