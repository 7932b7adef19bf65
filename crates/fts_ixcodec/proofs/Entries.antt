-- What is read is spelled so, and what is spelled so is read: entries.
use Rattle.std.proofs.Common.{◌≡◌, ℕ, suc, ◌+◌, ◌<◌, ◌≤◌, ◌-◌, ◌^◌, Bool, true, false, cond, eqb, List, [], ◌∷◌, ◌++◌, length, Result, Ok, Err, Less, refl, sym, ap, subst, ◌∙◌, append-nil, arith}
use Rattle.std.specs.Prelude.{All}
use Rattle.std.specs.List.{flat_map, AllByRecursion}
use Rattle.std.specs.Map.{keys_of}
use Rattle.std.specs.Int.{w32, w64, to_be_bytes}
use Rattle.std.proofs.lemmas.Bool.{eqb-true}
use Rattle.std.proofs.lemmas.List.{nil_from_length}
use Rattle.std.proofs.lemmas.List.Elements.{All-nil, All-head, All-tail}
use Rattle.fts_codec.specs.Reading.{number_at}
use Rattle.fts_codec.proofs.Spelled.{IsBytes, Takes, takes_both, number32, number64}
use Rattle.fts_words.specs.Indexed.{Rules}
use Rattle.fts_words.specs.Order.{byte_order}
use Rattle.fts_ilist.specs.Node.{Docs}
use Rattle.fts_entries.specs.Entry.{Batch, IndexEntry}
use Rattle.fts_entries.specs.Entry.IndexEntry.{sealed, begun, worked, finished}
use Rattle.fts_ixcodec.specs.Payload.{word_payload, list_payload, nodes_payload, node_count, entry_payload, IsNode, AreNodes, IsGroup, AreGroups, IsEntry}
use Rattle.fts_ixcodec.specs.Building.{nothing, batch_of}
use Rattle.fts_codec.specs.Fields.{◌>>=◌, field}
use Rattle.fts_ixcodec.specs.Reading.{word_at, more_at, node_at, many_at, batch_at, lists_at, sealed_at, worked_at, entry_at, entry_of}
use Rattle.fts_codec.specs.declared.fault.Fault.{Fault}
use Rattle.fts_codec.specs.declared.fault.Fault.TheVariants.{Bad}
use Rattle.fts_codec.specs.Fault.{Lacks}
use Rattle.fts_codec.proofs.Fields.{bind_ok, field_ok, passed_ok, ok_is}
use Rattle.fts_ixcodec.proofs.ReadWords.{word_takes, word_again, not_before_nothing, behind_nothing}
use Rattle.fts_ixcodec.proofs.Nodes.{IsLast, lists_take, lists_again, nodes_take, nothing_read, groups_read, groups_again}

none_before : (n : ℕ) → 0 + n ≡ n
none_before n = omega arith

batch_takes : (rules : Rules) (count : ℕ) (bytes : List ℕ) (batch : Batch) (rest : List ℕ) → IsBytes bytes → batch_at rules count bytes ≡ Ok (batch, rest)
    → AreGroups rules batch × (node_count batch ≡ count) × Takes bytes (flat_map nodes_payload batch) rest
unfolding batch_at
batch_takes rules count bytes batch rest fits e =
    let a = bind_ok (many_at (node_at rules) count nothing bytes) (λ nodes. Ok (batch_of nodes.0, nodes.1)) (batch, rest) e in
    let adds = nodes_take rules count nothing bytes a.0.0 a.0.1 fits (nothing_read rules) a.1 in
    let takes : Takes bytes (flat_map nodes_payload (batch_of a.0.0)) a.0.1 = subst (λ (text : List ℕ). Takes bytes text a.0.1) (sym adds.spelled) adds.takes in
    subst (λ (p : Batch × List ℕ). AreGroups rules p.0 × (node_count p.0 ≡ count) × Takes bytes (flat_map nodes_payload p.0) p.1) (ok_is (batch_of a.0.0, a.0.1) (batch, rest) a.2)
    (groups_read rules a.0.0 adds.is, adds.counted ∙ none_before count, takes)

lists_takes : (count : ℕ) (bytes : List ℕ) (nodes : List Docs) (rest : List ℕ) → IsBytes bytes → lists_at count bytes ≡ Ok (nodes, rest)
    → AreNodes nodes × (length nodes ≡ count) × Takes bytes (flat_map list_payload nodes) rest
unfolding lists_at
lists_takes count bytes nodes rest fits e =
    let a = bind_ok (many_at more_at count nothing bytes) (λ nodes. Ok (nodes.0.nodes, nodes.1)) (nodes, rest) e in
    let none : IsLast nothing = record { nodes = record { ascend = tt; each = All-nil IsNode }; last = refl } in
    let read = lists_take count nothing bytes a.0.0 a.0.1 fits none a.1 in
    subst (λ (p : List Docs × List ℕ). AreNodes p.0 × (length p.0 ≡ count) × Takes bytes (flat_map list_payload p.0) p.1) (ok_is (a.0.0.nodes, a.0.1) (nodes, rest) a.2)
    (read.last.nodes, ap length read.more ∙ read.counted, subst (λ (ns : List Docs). Takes bytes (flat_map list_payload ns) a.0.1) (sym read.more) read.takes)

-- an entry behind its kind
abbrev IsBehind : Rules → ℕ → List ℕ → IndexEntry → List ℕ → Type 0
IsBehind rules kind bytes entry rest = IsEntry rules entry × Takes (kind ∷ bytes) (entry_payload entry) rest

behind_kind : (kind : ℕ) (bytes text rest : List ℕ) → Takes bytes text rest → Takes (kind ∷ bytes) (kind ∷ text) rest
behind_kind kind bytes text rest t = (ap (λ (xs : List ℕ). kind ∷ xs) t.0, t.1)

abbrev with_count : Rules → ℕ → ℕ → ℕ × List ℕ → Result (IndexEntry × List ℕ) ℕ
with_count rules through synced count = batch_at rules count.0 count.1 >>= λ batch. Ok (sealed through synced batch.0, batch.1)

abbrev with_synced : Rules → ℕ → ℕ × List ℕ → Result (IndexEntry × List ℕ) ℕ
with_synced rules through synced = field (number_at w32) synced.1 >>= λ count. with_count rules through synced.0 count

abbrev with_through : Rules → ℕ × List ℕ → Result (IndexEntry × List ℕ) ℕ
with_through rules through = field (number_at w64) through.1 >>= λ synced. with_synced rules through.0 synced

sealed_takes : (rules : Rules) (bytes : List ℕ) (entry : IndexEntry) (rest : List ℕ) → IsBytes bytes → sealed_at rules bytes ≡ Ok (entry, rest) → IsBehind rules 1 bytes entry rest
unfolding sealed_at
sealed_takes rules bytes entry rest fits e =
    let a = bind_ok (field (number_at w64) bytes) (with_through rules) (entry, rest) e in
    let b = bind_ok (field (number_at w64) a.0.1) (with_synced rules a.0.0) (entry, rest) a.2 in
    let d = bind_ok (field (number_at w32) b.0.1) (with_count rules a.0.0 b.0.0) (entry, rest) b.2 in
    let f = bind_ok (batch_at rules d.0.0 d.0.1) (λ batch. Ok (sealed a.0.0 b.0.0 batch.0, batch.1)) (entry, rest) d.2 in
    let through = number64.takes bytes a.0.0 a.0.1 fits (field_ok (length bytes) (number_at w64 bytes) a.0 a.1) in
    let synced = number64.takes a.0.1 b.0.0 b.0.1 through.1.1 (field_ok (length a.0.1) (number_at w64 a.0.1) b.0 b.1) in
    let count = number32.takes b.0.1 d.0.0 d.0.1 synced.1.1 (field_ok (length b.0.1) (number_at w32 b.0.1) d.0 d.1) in
    let batch = batch_takes rules d.0.0 d.0.1 f.0.0 f.0.1 count.1.1 f.1 in
    let nodes = flat_map nodes_payload f.0.0 in
    let three = takes_both b.0.1 (to_be_bytes w32 d.0.0) d.0.1 nodes f.0.1 count.1 batch.2 in
    let counted : Takes b.0.1 (to_be_bytes w32 (node_count f.0.0) ++ nodes) f.0.1 = subst (λ (n : ℕ). Takes b.0.1 (to_be_bytes w32 n ++ nodes) f.0.1) (sym batch.1) three in
    let two = takes_both a.0.1 (to_be_bytes w64 b.0.0) b.0.1 (to_be_bytes w32 (node_count f.0.0) ++ nodes) f.0.1 synced.1 counted in
    let one = takes_both bytes (to_be_bytes w64 a.0.0) a.0.1 (to_be_bytes w64 b.0.0 ++ (to_be_bytes w32 (node_count f.0.0) ++ nodes)) f.0.1 through.1 two in
    let few : node_count f.0.0 < 2 ^ 32 = omega (arith, batch.1, count.0) in
    subst (λ (p : IndexEntry × List ℕ). IsBehind rules 1 bytes p.0 p.1) (ok_is (sealed a.0.0 b.0.0 f.0.0, f.0.1) (entry, rest) f.2)
    ((through.0, synced.0, few, batch.0), behind_kind 1 bytes (to_be_bytes w64 a.0.0 ++ (to_be_bytes w64 b.0.0 ++ (to_be_bytes w32 (node_count f.0.0) ++ nodes))) f.0.1 one)

abbrev with_lists : List ℕ → ℕ × List ℕ → Result (IndexEntry × List ℕ) ℕ
with_lists word count = lists_at count.0 count.1 >>= λ nodes. Ok (worked word nodes.0, nodes.1)

worked_takes : (rules : Rules) (bytes : List ℕ) (entry : IndexEntry) (rest : List ℕ) → IsBytes bytes → worked_at rules bytes ≡ Ok (entry, rest) → IsBehind rules 3 bytes entry rest
unfolding worked_at
worked_takes rules bytes entry rest fits e =
    let a = bind_ok (word_at rules [] bytes) (λ word. field (number_at w32) word.1 >>= λ count. with_lists word.0 count) (entry, rest) e in
    let b = bind_ok (field (number_at w32) a.0.1) (with_lists a.0.0) (entry, rest) a.2 in
    let d = bind_ok (lists_at b.0.0 b.0.1) (λ nodes. Ok (worked a.0.0 nodes.0, nodes.1)) (entry, rest) b.2 in
    let word = word_takes rules [] bytes a.0.0 a.0.1 fits a.1 in
    let count = number32.takes a.0.1 b.0.0 b.0.1 word.2.1 (field_ok (length a.0.1) (number_at w32 a.0.1) b.0 b.1) in
    let nodes = lists_takes b.0.0 b.0.1 d.0.0 d.0.1 count.1.1 d.1 in
    let lists = flat_map list_payload d.0.0 in
    let two = takes_both a.0.1 (to_be_bytes w32 b.0.0) b.0.1 lists d.0.1 count.1 nodes.2 in
    let counted : Takes a.0.1 (to_be_bytes w32 (length d.0.0) ++ lists) d.0.1 = subst (λ (n : ℕ). Takes a.0.1 (to_be_bytes w32 n ++ lists) d.0.1) (sym nodes.1) two in
    let one = takes_both bytes (word_payload a.0.0) a.0.1 (to_be_bytes w32 (length d.0.0) ++ lists) d.0.1 word.2 counted in
    let few : length d.0.0 < 2 ^ 32 = omega (arith, nodes.1, count.0) in
    subst (λ (p : IndexEntry × List ℕ). IsBehind rules 3 bytes p.0 p.1) (ok_is (worked a.0.0 d.0.0, d.0.1) (entry, rest) d.2)
    ((word.0, few, nodes.0), behind_kind 3 bytes (word_payload a.0.0 ++ (to_be_bytes w32 (length d.0.0) ++ lists)) d.0.1 one)

-- a kind with a field for each
choice : {X : Type 0} (b : Bool) (r s : Result X ℕ) (x : X) (P : Type 0) → (b ≡ true → r ≡ Ok x → P) → (s ≡ Ok x → P) → cond b r s ≡ Ok x → P
choice true r s x P h k e = h refl e
choice false r s x P h k e = k e

abbrev read_ok : IndexEntry × List ℕ → Result (IndexEntry × List ℕ) ℕ
read_ok x = Ok x

plain : (rules : Rules) (kind : ℕ) (text : List ℕ) (entry given : IndexEntry) (rest behind : List ℕ) → IsBytes rest → IsEntry rules entry → entry_payload entry ≡ kind ∷ [] → read_ok (entry, rest) ≡ Ok (given, behind) → IsBehind rules kind rest given behind
plain rules kind text entry given rest behind fits is e same =
    subst (λ (p : IndexEntry × List ℕ). IsBehind rules kind rest p.0 p.1) (ok_is (entry, rest) (given, behind) same)
    (is, subst (λ (text : List ℕ). Takes (kind ∷ rest) text rest) (sym e) (refl, fits))

entry_at_takes : (rules : Rules) (bytes : List ℕ) (entry : IndexEntry) (rest : List ℕ) → IsBytes bytes → entry_at rules bytes ≡ Ok (entry, rest) → IsEntry rules entry × Takes bytes (entry_payload entry) rest
unfolding entry_at
entry_at_takes rules [] entry rest fits e = absurd cc
entry_at_takes rules (kind ∷ bytes) entry rest fits e =
    let tail : IsBytes bytes = λ i. fits (suc i) in
    let P = IsBehind rules kind bytes entry rest in
    let fourth = cond (eqb kind 4) (Ok (finished, bytes)) (Err (suc (length bytes))) in
    let third = cond (eqb kind 3) (worked_at rules bytes) fourth in
    let second = cond (eqb kind 2) (Ok (begun, bytes)) third in
    let at : (n : ℕ) → eqb kind n ≡ true → IsBehind rules n bytes entry rest → P = λ n is given. subst (λ (k : ℕ). IsBehind rules k bytes entry rest) (sym (eqb-true kind n is)) given in
    choice (eqb kind 1) (sealed_at rules bytes) second (entry, rest) P (λ is read. at 1 is (sealed_takes rules bytes entry rest tail read))
    (choice (eqb kind 2) (Ok (begun, bytes)) third (entry, rest) P (λ is read. at 2 is (plain rules 2 [] begun entry bytes rest tail tt refl read))
    (choice (eqb kind 3) (worked_at rules bytes) fourth (entry, rest) P (λ is read. at 3 is (worked_takes rules bytes entry rest tail read))
    (choice (eqb kind 4) (Ok (finished, bytes)) (Err (suc (length bytes))) (entry, rest) P (λ is read. at 4 is (plain rules 4 [] finished entry bytes rest tail tt refl read)) (λ read. absurd cc)))) e

-- what is read is an entry that the index log can hold, and its payload
pub entry_takes : (rules : Rules) (bytes : List ℕ) (entry : IndexEntry) → IsBytes bytes → entry_of rules bytes ≡ Ok entry → IsEntry rules entry × (bytes ≡ entry_payload entry)
unfolding entry_of
entry_takes rules bytes entry fits e =
    let a = bind_ok (entry_at rules bytes) (λ entry. cond (eqb (length entry.1) 0) (Ok entry.0) (Err (length entry.1))) entry e in
    let g = passed_ok (eqb (length a.0.1) 0) (length a.0.1) a.0.0 entry a.2 in
    let nothing_left : a.0.1 ≡ [] = nil_from_length a.0.1 (eqb-true _ _ g.0) in
    let read = entry_at_takes rules bytes a.0.0 a.0.1 fits a.1 in
    subst (λ (y : IndexEntry). IsEntry rules y × (bytes ≡ entry_payload y)) g.1
    (read.0, read.1.0 ∙ ap (λ (r : List ℕ). entry_payload a.0.0 ++ r) nothing_left ∙ append-nil (entry_payload a.0.0))

-- ---- what is spelled so is read

words_some : (rules : Rules) (batch : Batch) → All (IsGroup rules) batch → AllByRecursion (λ w. byte_order [] w ≡ Less) (keys_of batch)
words_some rules [] each = tt
words_some rules (g ∷ batch) each = (behind_nothing rules g.0 (All-head (IsGroup rules) g batch each).word, words_some rules batch (All-tail (IsGroup rules) g batch each))

batch_again : (rules : Rules) (batch : Batch) (rest : List ℕ) → AreGroups rules batch → batch_at rules (node_count batch) (flat_map nodes_payload batch ++ rest) ≡ Ok (batch, rest)
unfolding batch_at
batch_again rules batch rest are =
    let all = groups_again rules batch nothing rest (words_some rules batch are.each) are.ascend are.each in
    rw all.reads (ap (λ (b : Batch). Ok (b, rest)) all.batch)

lists_at_again : (nodes : List Docs) (rest : List ℕ) → AreNodes nodes → lists_at (length nodes) (flat_map list_payload nodes ++ rest) ≡ Ok (nodes, rest)
unfolding lists_at
lists_at_again nodes rest are = rw (lists_again nodes nothing rest are.ascend are.each) refl

pub entry_again : (rules : Rules) (entry : IndexEntry) → IsEntry rules entry → entry_of rules (entry_payload entry) ≡ Ok entry
unfolding entry_of entry_at sealed_at worked_at
entry_again rules (sealed through synced batch) is =
    let nodes = flat_map nodes_payload batch in
    let read : batch_at rules (node_count batch) nodes ≡ Ok (batch, []) = ap (batch_at rules (node_count batch)) (sym (append-nil nodes)) ∙ batch_again rules batch [] is.3 in
    rw (number64.again through (to_be_bytes w64 synced ++ (to_be_bytes w32 (node_count batch) ++ nodes)) is.0, number64.again synced (to_be_bytes w32 (node_count batch) ++ nodes) is.1, number32.again (node_count batch) nodes is.2, read) refl
entry_again rules begun is = refl
entry_again rules (worked word nodes) is =
    let lists = flat_map list_payload nodes in
    let read : lists_at (length nodes) lists ≡ Ok (nodes, []) = ap (lists_at (length nodes)) (sym (append-nil lists)) ∙ lists_at_again nodes [] is.2 in
    rw (word_again rules [] word (to_be_bytes w32 (length nodes) ++ lists) is.0 (not_before_nothing word), number32.again (length nodes) lists is.1, read) refl
entry_again rules finished is = refl

-- a payload is of one entry alone
pub payload_has_one_entry : (rules : Rules) (x y : IndexEntry) → IsEntry rules x → IsEntry rules y → entry_payload x ≡ entry_payload y → x ≡ y
payload_has_one_entry rules x y is_x is_y e = ok_is x y (sym (entry_again rules x is_x) ∙ ap (entry_of rules) e ∙ entry_again rules y is_y)

pub same_entry : (rules : Rules) (bytes : List ℕ) (read entry : IndexEntry) → entry_of rules bytes ≡ Ok read → IsEntry rules entry → bytes ≡ entry_payload entry → read ≡ entry
same_entry rules bytes read entry given is e = ok_is read entry (sym given ∙ ap (entry_of rules) e ∙ entry_again rules entry is)

pub never_refused : (rules : Rules) (bytes : List ℕ) (left : ℕ) (entry : IndexEntry) → entry_of rules bytes ≡ Err left → IsEntry rules entry → bytes ≡ entry_payload entry → ⊥
never_refused rules bytes left entry given is e = let whole : entry_of rules bytes ≡ Ok entry = ap (entry_of rules) e ∙ entry_again rules entry is in absurd cc
