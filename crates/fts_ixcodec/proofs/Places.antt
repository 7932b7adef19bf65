-- Where reading an entry stops, the grammar of its payload has the first fault.
use Rattle.std.proofs.Common.{◌≡◌, ℕ, zero, suc, ◌-◌, ◌≤◌, ◌<◌, ◌^◌, Bool, true, false, cond, eqb, List, [], ◌∷◌, ◌++◌, length, Option, Some, None, Result, Ok, Err, bytes_eq, refl, sym, ap, subst, ◌∙◌, arith}
use Rattle.std.specs.Int.{w32, w64, to_be_bytes}
use Rattle.std.proofs.lemmas.Bool.{and_parts, eqb-true}
use Rattle.std.proofs.lemmas.Slice.Eq.{bytes_eq-Decides}
use Rattle.fts_codec.specs.declared.fault.Fault.{Fault}
use Rattle.fts_codec.specs.declared.fault.Fault.TheVariants.{Bad}
use Rattle.fts_codec.specs.Fault.{Lacks}
use Rattle.fts_codec.specs.Reading.{number_at, piece_at}
use Rattle.fts_codec.specs.Fields.{◌>>=◌, or_left, field, only, tested}
use Rattle.fts_codec.specs.Grammar.{Faults, InField, AtEnd, IsFrom, one_byte}
use Rattle.fts_codec.proofs.Spelled.{IsBytes, Takes, Spells, number32, number64, piece_takes, piece_again, piece_spells, tested_spells, spells_as, in_range}
use Rattle.fts_codec.proofs.Fields.{bind_bind}
use Rattle.fts_codec.proofs.Faults.{Left, stuck, passes, in_field, in_end}
use Rattle.fts_words.specs.Indexed.{Rules}
use Rattle.fts_ilist.specs.Spelling.{list_bytes, last_id}
use Rattle.fts_ilist.specs.Node.{Docs}
use Rattle.fts_entries.specs.Entry.{Batch, IndexEntry}
use Rattle.fts_entries.specs.Entry.IndexEntry.{sealed, begun, worked, finished}
use Rattle.fts_ixcodec.specs.Building.{Building, nothing, batch_of, turned_to, with_node}
use Rattle.fts_ixcodec.specs.Grammar.{MayFollow, IsNext, InWord, InList, InLists, last_of, InNodes, Kind, kind_payload, InKind, IsEntryFault}
use Rattle.fts_ixcodec.specs.Grammar.Kind.{batch, begin, word, finish}
use Rattle.fts_ixcodec.specs.Reading.{size_at, may_follow, word_at, node_in, list_at, more_at, node_at, many_at, batch_at, lists_at, sealed_at, worked_at, entry_at, entry_of}
use Rattle.fts_ixcodec.proofs.ReadWords.{size_takes, not_true}
use Rattle.fts_ixcodec.proofs.ReadLists.{node_found, node_again}

-- ---- words

pub size_spells : (rules : Rules) → Spells one_byte (IsFrom rules.min rules.max) (size_at rules)
size_spells rules = record {
  takes = λ bytes size rest fits e. (let read = size_takes rules bytes size rest fits e in ((read.0, read.1), read.2));
  again = λ size rest is. rw (in_range rules.min rules.max size is) refl;
}

follow_is : (before : List ℕ) (size : ℕ) (text : List ℕ) → (length text ≡ size) × (may_follow before text ≡ true) → MayFollow before size text
follow_is before size text is = let parts = and_parts _ _ is.1 in record { long = is.0; form = parts.0; follows = not_true _ parts.1 }

follow_told : (before : List ℕ) (size : ℕ) (text : List ℕ) → MayFollow before size text → (length text ≡ size) × (may_follow before text ≡ true)
follow_told before size text may = (may.long, rw (may.form, may.follows) refl)

pub words_spell : (before : List ℕ) (size : ℕ) → Spells (λ text. text) (MayFollow before size) (tested (may_follow before) (piece_at size))
words_spell before size =
    spells_as (λ text. text) (λ text. (length text ≡ size) × (may_follow before text ≡ true)) (MayFollow before size) (tested (may_follow before) (piece_at size))
    (follow_is before size) (follow_told before size) (tested_spells (λ text. text) (λ text. length text ≡ size) (piece_at size) (piece_spells size) (may_follow before))

-- a test behind a field is a field that passes it
as_tested : {X : Type 0} (test : X → Bool) (read : List ℕ → Option (X × List ℕ)) (bytes : List ℕ)
    → (field read bytes >>= λ x. cond (test x.0) (Ok x) (Err (length bytes))) ≡ field (tested test read) bytes
as_tested {X = X} test read bytes = by (read bytes)
  where
    chosen : (b : Bool) (x : X × List ℕ) → cond b (Ok x) (Err (length bytes)) ≡ or_left (length bytes) (cond b (Some x) None)
    chosen true x = refl
    chosen false x = refl

    by : (found : Option (X × List ℕ)) → (or_left (length bytes) found >>= λ x. cond (test x.0) (Ok x) (Err (length bytes))) ≡ or_left (length bytes) (only test found)
    by (Some x) = chosen (test x.0) x
    by None = refl

in_word : {B : Type 0} (rules : Rules) (before : List ℕ) (f : List ℕ × List ℕ → Result B ℕ) (Behind : List ℕ → Faults) (bytes : List ℕ) (left : ℕ) → IsBytes bytes
    → ((text rest : List ℕ) → IsBytes rest → f (text, rest) ≡ Err left → Left (Behind text) rest left)
    → (word_at rules before bytes >>= f) ≡ Err left → Left (InWord rules before Behind) bytes left
unfolding word_at
in_word {B = B} rules before f Behind bytes left fits next e =
    let text_of : ℕ × List ℕ → Result (List ℕ × List ℕ) ℕ = λ size. field (piece_at size.0) size.1 >>= λ text. cond (may_follow before text.0) (Ok text) (Err (length size.1)) in
    in_field one_byte (IsFrom rules.min rules.max) (size_at rules) (size_spells rules) (λ size. text_of size >>= f) (λ size. InField (λ text. text) (MayFollow before size) Behind) bytes left fits
    (λ size rest within e. in_field (λ text. text) (MayFollow before size) (tested (may_follow before) (piece_at size)) (words_spell before size) f Behind rest left within next
    (ap (λ (r : Result (List ℕ × List ℕ) ℕ). r >>= f) (sym (as_tested (may_follow before) (piece_at size) rest)) ∙ e))
    (sym (bind_bind (field (size_at rules) bytes) text_of f) ∙ e)

-- ---- lists

abbrev pub docs_with : List ℕ → Option Docs → Option (Docs × List ℕ)
docs_with rest (Some docs) = Some (docs, rest)
docs_with rest None = None

abbrev pub docs_of : ℕ → Option (List ℕ × List ℕ) → Option (Docs × List ℕ)
docs_of last (Some list) = docs_with list.1 (node_in last list.0)
docs_of last None = None

-- a list of so many bytes
abbrev pub docs_at : ℕ → ℕ → List ℕ → Option (Docs × List ℕ)
docs_at last size bytes = docs_of last (piece_at size bytes)

abbrev pub IsListOf : ℕ → ℕ → Docs → Type 0
IsListOf last size docs = IsNext last docs × (length (list_bytes docs) ≡ size)

docs_take : (last size : ℕ) (bytes : List ℕ) (docs : Docs) (rest : List ℕ) → IsBytes bytes → docs_at last size bytes ≡ Some (docs, rest) → IsListOf last size docs × Takes bytes (list_bytes docs) rest
docs_take last size bytes docs rest fits e = by (piece_at size bytes) refl e
  where
    Is : Docs × List ℕ → Type 0
    Is p = IsListOf last size p.0 × Takes bytes (list_bytes p.0) p.1

    with_docs : (list : List ℕ × List ℕ) → piece_at size bytes ≡ Some list → (node : Option Docs) → node_in last list.0 ≡ node → docs_with list.1 node ≡ Some (docs, rest) → Is (docs, rest)
    with_docs list at (Some d) is e =
        let piece = piece_takes size bytes list.0 list.1 fits at in
        let node = node_found last list.0 d is in
        let same : (d, list.1) ≡ (docs, rest) = (let e = e in cc) in
        subst Is same ((node.0, sym (ap length node.1) ∙ piece.0), subst (λ (xs : List ℕ). Takes bytes xs list.1) node.1 piece.1)
    with_docs list at None is e = absurd cc

    by : (found : Option (List ℕ × List ℕ)) → piece_at size bytes ≡ found → docs_of last found ≡ Some (docs, rest) → Is (docs, rest)
    by (Some list) at e = with_docs list at (node_in last list.0) refl e
    by None at e = absurd cc

docs_again : (last size : ℕ) (docs : Docs) (rest : List ℕ) → IsListOf last size docs → docs_at last size (list_bytes docs ++ rest) ≡ Some (docs, rest)
docs_again last size docs rest is =
    let piece : piece_at size (list_bytes docs ++ rest) ≡ Some (list_bytes docs, rest) = ap (λ (n : ℕ). piece_at n (list_bytes docs ++ rest)) (sym is.1) ∙ piece_again (list_bytes docs) rest in
    ap (docs_of last) piece ∙ ap (docs_with rest) (node_again last docs is.0)

pub docs_spell : (last size : ℕ) → Spells list_bytes (IsListOf last size) (docs_at last size)
docs_spell last size = record { takes = docs_take last size; again = docs_again last size }

as_docs : (last size : ℕ) (bytes : List ℕ)
    → (field (piece_at size) bytes >>= λ list. or_left (length bytes) (node_in last list.0) >>= λ docs. Ok (docs, list.1)) ≡ field (docs_at last size) bytes
as_docs last size bytes = by (piece_at size bytes)
  where
    given : (rest : List ℕ) (node : Option Docs) → (or_left (length bytes) node >>= λ docs. Ok (docs, rest)) ≡ or_left (length bytes) (docs_with rest node)
    given rest (Some docs) = refl
    given rest None = refl

    by : (found : Option (List ℕ × List ℕ))
        → (or_left (length bytes) found >>= λ list. or_left (length bytes) (node_in last list.0) >>= λ docs. Ok (docs, list.1)) ≡ or_left (length bytes) (docs_of last found)
    by (Some list) = given list.1 (node_in last list.0)
    by None = refl

in_list : {B : Type 0} (last : ℕ) (f : Docs × List ℕ → Result B ℕ) (Behind : Docs → Faults) (bytes : List ℕ) (left : ℕ) → IsBytes bytes
    → ((docs : Docs) (rest : List ℕ) → IsBytes rest → f (docs, rest) ≡ Err left → Left (Behind docs) rest left)
    → (list_at last bytes >>= f) ≡ Err left → Left (InList last Behind) bytes left
unfolding list_at
in_list last f Behind bytes left fits next e =
    let list_of : ℕ × List ℕ → Result (Docs × List ℕ) ℕ = λ size. field (piece_at size.0) size.1 >>= λ list. or_left (length size.1) (node_in last list.0) >>= λ docs. Ok (docs, list.1) in
    in_field (to_be_bytes w32) (λ size. size < 2 ^ 32) (number_at w32) number32 (λ size. list_of size >>= f) (λ size. InField list_bytes (IsListOf last size) Behind) bytes left fits
    (λ size rest within e. in_field list_bytes (IsListOf last size) (docs_at last size) (docs_spell last size) f Behind rest left within next
    (ap (λ (r : Result (Docs × List ℕ) ℕ). r >>= f) (sym (as_docs last size rest)) ∙ e))
    (sym (bind_bind (field (number_at w32) bytes) list_of f) ∙ e)

-- ---- nodes, one behind another

in_more : {B : Type 0} (b : Building) (f : Building × List ℕ → Result B ℕ) (Behind : Docs → Faults) (bytes : List ℕ) (left : ℕ) → IsBytes bytes
    → ((docs : Docs) (rest : List ℕ) → IsBytes rest → f (with_node b docs, rest) ≡ Err left → Left (Behind docs) rest left)
    → (more_at b bytes >>= f) ≡ Err left → Left (InList b.last Behind) bytes left
unfolding more_at
in_more b f Behind bytes left fits next e =
    let more : Docs × List ℕ → Result (Building × List ℕ) ℕ = λ list. Ok (with_node b list.0, list.1) in
    in_list b.last (λ list. f (with_node b list.0, list.1)) Behind bytes left fits next (sym (bind_bind (list_at b.last bytes) more f) ∙ e)

in_lists : {B : Type 0} (count : ℕ) (b : Building) (f : Building × List ℕ → Result B ℕ) (Behind : Faults) (bytes : List ℕ) (left : ℕ) → IsBytes bytes
    → ((b' : Building) (rest : List ℕ) → IsBytes rest → f (b', rest) ≡ Err left → Left Behind rest left)
    → (many_at more_at count b bytes >>= f) ≡ Err left → Left (InLists count b.last Behind) bytes left
unfolding many_at
in_lists zero b f Behind bytes left fits next e = next b bytes fits e
in_lists (suc count) b f Behind bytes left fits next e =
    let others : Building × List ℕ → Result (Building × List ℕ) ℕ = λ next. many_at more_at count next.0 next.1 in
    in_more b (λ next. others next >>= f) (λ docs. InLists count (last_id docs) Behind) bytes left fits
    (λ docs rest within e. in_lists count (with_node b docs) f Behind rest left within next e)
    (sym (bind_bind (more_at b bytes) others f) ∙ e)

-- what a word leaves of those before it
turned : (b : Building) (w : List ℕ) → ((turned_to b w).word ≡ w) × ((turned_to b w).last ≡ last_of b.word b.last w)
turned b w = by (bytes_eq b.word w) refl
  where
    other : Building
    other = record { closed = batch_of b; word = w; nodes = []; last = 0 }

    by : (same : Bool) → bytes_eq b.word w ≡ same → ((cond same b other).word ≡ w) × ((cond same b other).last ≡ cond same b.last 0)
    by true is = ((bytes_eq-Decides b.word w).0 is, refl)
    by false is = (refl, refl)

in_nodes : {B : Type 0} (rules : Rules) (count : ℕ) (b : Building) (f : Building × List ℕ → Result B ℕ) (Behind : Faults) (bytes : List ℕ) (left : ℕ) → IsBytes bytes
    → ((b' : Building) (rest : List ℕ) → IsBytes rest → f (b', rest) ≡ Err left → Left Behind rest left)
    → (many_at (node_at rules) count b bytes >>= f) ≡ Err left → Left (InNodes rules count b.word b.last Behind) bytes left
unfolding many_at node_at
in_nodes rules zero b f Behind bytes left fits next e = next b bytes fits e
in_nodes rules (suc count) b f Behind bytes left fits next e =
    let others : Building × List ℕ → Result (Building × List ℕ) ℕ = λ next. many_at (node_at rules) count next.0 next.1 in
    let more : List ℕ × List ℕ → Result (Building × List ℕ) ℕ = λ w. more_at (turned_to b w.0) w.1 in
    in_word rules b.word (λ w. more w >>= λ next. others next >>= f) (λ w. InList (last_of b.word b.last w) (λ docs. InNodes rules count w (last_id docs) Behind)) bytes left fits
    (λ w rest within e.
    let t = turned b w in
    subst (λ (n : ℕ). Left (InList n (λ docs. InNodes rules count w (last_id docs) Behind)) rest left) t.1
    (in_more (turned_to b w) (λ next. others next >>= f) (λ docs. InNodes rules count w (last_id docs) Behind) rest left within
    (λ docs rest within e. subst (λ (v : List ℕ). Left (InNodes rules count v (last_id docs) Behind) rest left) t.0 (in_nodes rules count (with_node (turned_to b w) docs) f Behind rest left within next e)) e))
    (sym (bind_bind (word_at rules b.word bytes) more (λ next. others next >>= f)) ∙ sym (bind_bind (word_at rules b.word bytes >>= more) others f) ∙ e)

-- ---- entries

-- all of the bytes, or what is left of them
abbrev ends : IndexEntry × List ℕ → Result IndexEntry ℕ
ends entry = cond (eqb (length entry.1) 0) (Ok entry.0) (Err (length entry.1))

in_sealed : (rules : Rules) (bytes : List ℕ) (left : ℕ) → IsBytes bytes → (sealed_at rules bytes >>= ends) ≡ Err left → Left (InKind rules batch) bytes left
unfolding sealed_at batch_at
in_sealed rules bytes left fits e =
    let entry : ℕ → ℕ → Batch × List ℕ → Result (IndexEntry × List ℕ) ℕ = λ through synced nodes. Ok (sealed through synced nodes.0, nodes.1) in
    let nodes : Building × List ℕ → Result (Batch × List ℕ) ℕ = λ nodes. Ok (batch_of nodes.0, nodes.1) in
    let with_count : ℕ → ℕ → ℕ × List ℕ → Result (IndexEntry × List ℕ) ℕ = λ through synced count. (many_at (node_at rules) count.0 nothing count.1 >>= nodes) >>= entry through synced in
    let with_synced : ℕ → ℕ × List ℕ → Result (IndexEntry × List ℕ) ℕ = λ through synced. field (number_at w32) synced.1 >>= with_count through synced.0 in
    let with_through : ℕ × List ℕ → Result (IndexEntry × List ℕ) ℕ = λ through. field (number_at w64) through.1 >>= with_synced through.0 in
    let Count : Faults = InField (to_be_bytes w32) (λ count. count < 2 ^ 32) (λ count. InNodes rules count [] 0 AtEnd) in
    let Synced : Faults = InField (to_be_bytes w64) (λ synced. synced < 2 ^ 64) (λ synced. Count) in
    in_field (to_be_bytes w64) (λ through. through < 2 ^ 64) (number_at w64) number64 (λ through. with_through through >>= ends) (λ through. Synced) bytes left fits
    (λ through r within e. in_field (to_be_bytes w64) (λ synced. synced < 2 ^ 64) (number_at w64) number64 (λ synced. with_synced through synced >>= ends) (λ synced. Count) r left within
    (λ synced r within e. in_field (to_be_bytes w32) (λ count. count < 2 ^ 32) (number_at w32) number32 (λ count. with_count through synced count >>= ends) (λ count. InNodes rules count [] 0 AtEnd) r left within
    (λ count r within e. in_nodes rules count nothing (λ all. ends (sealed through synced (batch_of all.0), all.1)) AtEnd r left within
    (λ b rest within e. in_end (sealed through synced (batch_of b)) rest left e)
    (sym (bind_bind (many_at (node_at rules) count nothing r) nodes (λ all. ends (sealed through synced all.0, all.1)))
    ∙ sym (bind_bind (many_at (node_at rules) count nothing r >>= nodes) (entry through synced) ends) ∙ e))
    (sym (bind_bind (field (number_at w32) r) (with_count through synced) ends) ∙ e))
    (sym (bind_bind (field (number_at w64) r) (with_synced through) ends) ∙ e))
    (sym (bind_bind (field (number_at w64) bytes) with_through ends) ∙ e)

in_worked : (rules : Rules) (bytes : List ℕ) (left : ℕ) → IsBytes bytes → (worked_at rules bytes >>= ends) ≡ Err left → Left (InKind rules word) bytes left
unfolding worked_at lists_at
in_worked rules bytes left fits e =
    let entry : List ℕ → List Docs × List ℕ → Result (IndexEntry × List ℕ) ℕ = λ w nodes. Ok (worked w nodes.0, nodes.1) in
    let nodes : Building × List ℕ → Result (List Docs × List ℕ) ℕ = λ nodes. Ok (nodes.0.nodes, nodes.1) in
    let with_count : List ℕ → ℕ × List ℕ → Result (IndexEntry × List ℕ) ℕ = λ w count. (many_at more_at count.0 nothing count.1 >>= nodes) >>= entry w in
    let with_word : List ℕ × List ℕ → Result (IndexEntry × List ℕ) ℕ = λ w. field (number_at w32) w.1 >>= with_count w.0 in
    let Count : Faults = InField (to_be_bytes w32) (λ count. count < 2 ^ 32) (λ count. InLists count 0 AtEnd) in
    in_word rules [] (λ w. with_word w >>= ends) (λ w. Count) bytes left fits
    (λ w r within e. in_field (to_be_bytes w32) (λ count. count < 2 ^ 32) (number_at w32) number32 (λ count. with_count w count >>= ends) (λ count. InLists count 0 AtEnd) r left within
    (λ count r within e. in_lists count nothing (λ all. ends (worked w all.0.nodes, all.1)) AtEnd r left within
    (λ b rest within e. in_end (worked w b.nodes) rest left e)
    (sym (bind_bind (many_at more_at count nothing r) nodes (λ all. ends (worked w all.0, all.1)))
    ∙ sym (bind_bind (many_at more_at count nothing r >>= nodes) (entry w) ends) ∙ e))
    (sym (bind_bind (field (number_at w32) r) (with_count w) ends) ∙ e))
    (sym (bind_bind (word_at rules [] bytes) with_word ends) ∙ e)

-- a kind, with what is read behind it, or another
choice : (b : Bool) (r s : Result (IndexEntry × List ℕ) ℕ) (left : ℕ) (P : Type 0) → (b ≡ true → (r >>= ends) ≡ Err left → P) → (b ≡ false → (s >>= ends) ≡ Err left → P)
    → (cond b r s >>= ends) ≡ Err left → P
choice true r s left P h k e = h refl e
choice false r s left P h k e = k refl e

no_kind : (kind : ℕ) (bytes : List ℕ) (k : Kind) (rest : List ℕ) → eqb kind 1 ≡ false → eqb kind 2 ≡ false → eqb kind 3 ≡ false → eqb kind 4 ≡ false → kind ∷ bytes ≡ kind_payload k ++ rest → ⊥
no_kind kind bytes batch rest a b c d same = let is : kind ≡ 1 = (let same = same in cc) in let e : eqb kind 1 ≡ true = ap (λ (n : ℕ). eqb n 1) is in let other = a in absurd cc
no_kind kind bytes begin rest a b c d same = let is : kind ≡ 2 = (let same = same in cc) in let e : eqb kind 2 ≡ true = ap (λ (n : ℕ). eqb n 2) is in let other = b in absurd cc
no_kind kind bytes word rest a b c d same = let is : kind ≡ 3 = (let same = same in cc) in let e : eqb kind 3 ≡ true = ap (λ (n : ℕ). eqb n 3) is in let other = c in absurd cc
no_kind kind bytes finish rest a b c d same = let is : kind ≡ 4 = (let same = same in cc) in let e : eqb kind 4 ≡ true = ap (λ (n : ℕ). eqb n 4) is in let other = d in absurd cc

no_byte : (k : Kind) (rest : List ℕ) → [] ≡ kind_payload k ++ rest → ⊥
no_byte batch rest same = absurd cc
no_byte begin rest same = absurd cc
no_byte word rest same = absurd cc
no_byte finish rest same = absurd cc

abbrev Any : Kind → Type 0
Any kind = Unit {0}

pub entry_place : (rules : Rules) (bytes : List ℕ) (left : ℕ) → IsBytes bytes → entry_of rules bytes ≡ Err left → Left (IsEntryFault rules) bytes left
unfolding entry_of entry_at
entry_place rules [] left fits e = stuck kind_payload Any (InKind rules) [] left (λ k rest may same. no_byte k rest same) (let e = e in cc)
entry_place rules (kind ∷ bytes) left fits e =
    let tail : IsBytes bytes = λ i. fits (suc i) in
    let P = Left (IsEntryFault rules) (kind ∷ bytes) left in
    let fourth = cond (eqb kind 4) (Ok (finished, bytes)) (Err (suc (length bytes))) in
    let third = cond (eqb kind 3) (worked_at rules bytes) fourth in
    let second = cond (eqb kind 2) (Ok (begun, bytes)) third in
    let at : (k : Kind) (n : ℕ) → kind_payload k ≡ n ∷ [] → eqb kind n ≡ true → Left (InKind rules k) bytes left → P =
    λ k n spelled is behind. passes kind_payload Any (InKind rules) (kind ∷ bytes) left k bytes tt (ap (λ (m : ℕ). m ∷ bytes) (eqb-true kind n is) ∙ ap (λ (xs : List ℕ). xs ++ bytes) (sym spelled)) behind in
    choice (eqb kind 1) (sealed_at rules bytes) second left P (λ is e. at batch 1 refl is (in_sealed rules bytes left tail e))
    (λ a e. choice (eqb kind 2) (Ok (begun, bytes)) third left P (λ is e. at begin 2 refl is (in_end begun bytes left e))
    (λ b e. choice (eqb kind 3) (worked_at rules bytes) fourth left P (λ is e. at word 3 refl is (in_worked rules bytes left tail e))
    (λ c e. choice (eqb kind 4) (Ok (finished, bytes)) (Err (suc (length bytes))) left P (λ is e. at finish 4 refl is (in_end finished bytes left e))
    (λ d e. stuck kind_payload Any (InKind rules) (kind ∷ bytes) left (λ k rest may same. no_kind kind bytes k rest a b c d same) (let e = e in cc)) e) e) e) e

-- ---- what a reader returned

-- what it tells of a fault
pub left_told : (fault : Fault) (left : ℕ) (read : Result IndexEntry ℕ) → fault ≡ Bad left → Lacks fault read → read ≡ Err left
left_told fault left read is lacks = subst (λ (f : Fault). Lacks f read) is lacks

pub told : (rules : Rules) (bytes : List ℕ) (left : ℕ) → Left (IsEntryFault rules) bytes left → (length bytes - left ≤ length bytes) × IsEntryFault rules bytes (length bytes - left)
told rules bytes left at = (omega arith, at.1)
