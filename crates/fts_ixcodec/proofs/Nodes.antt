-- What is read is spelled so, and what is spelled so is read: nodes one behind another.
use Rattle.std.proofs.Common.{◌≡◌, ◌≢◌, ℕ, zero, suc, ◌+◌, Bool, true, false, cond, List, [], ◌∷◌, ◌++◌, length, Ok, bytes_eq, Less, Equal, Greater, Ordering, is_lt, is_eq, refl, sym, ap, subst, ◌∙◌, append_assoc, append-nil, length-append, arith, ⊎_elim}
use Rattle.std.specs.Prelude.{All}
use Rattle.std.specs.Ordering.{ordering_reverse}
use Rattle.std.specs.List.{flat_map, AllByRecursion}
use Rattle.std.specs.List.Sorted.{IsStrictlySortedBy}
use Rattle.std.specs.Map.{keys_of}
use Rattle.std.proofs.lemmas.Bool.{cases_Bool, true≢false, false≢true}
use Rattle.std.proofs.lemmas.Cmp.{nat_list_cmp_total}
use Rattle.std.proofs.lemmas.Slice.Eq.{bytes_eq-Decides}
use Rattle.std.proofs.lemmas.List.Elements.{All-nil, All-push, All-head, All-tail}
use Rattle.std.proofs.lemmas.List.Concat.{flat_map-cons, flat_map-append}
use Rattle.std.proofs.lemmas.List.Sums.{sum_by-cons, sum_by-append}
use Rattle.std.proofs.lemmas.Map.Text.{is_eq-slice_cmp}
use Rattle.fts_codec.proofs.Spelled.{IsBytes, Takes, takes_both}
use Rattle.fts_words.specs.Indexed.{Rules}
use Rattle.fts_words.specs.Order.{byte_order}
use Rattle.fts_ilist.specs.Spelling.{last_id, id_at_end}
use Rattle.fts_ilist.specs.Node.{Docs, BeginsAfter, NodesAfter, last_of}
use Rattle.fts_ilist.proofs.Nodes.{last_of-push}
use Rattle.fts_entries.specs.Entry.{Batch}
use Rattle.fts_ixcodec.specs.Payload.{word_payload, list_payload, node_payload, nodes_payload, node_count, IsWord, IsNode, AreNodes, IsGroup, AreGroups}
use Rattle.fts_ixcodec.specs.Building.{Building, nothing, group_of, batch_of, turned_to, with_node}
use Rattle.fts_ixcodec.specs.Reading.{word_at, list_at, more_at, node_at, many_at}
use Rattle.fts_codec.proofs.Fields.{bind_ok, ok_is}
use Rattle.fts_ixcodec.proofs.ReadWords.{word_takes, word_again}
use Rattle.fts_ixcodec.proofs.ReadLists.{list_takes, list_again}

-- ---- the nodes of a word

after-push : (before : ℕ) (ns : List Docs) (docs : Docs) → NodesAfter before ns → BeginsAfter (last_of before ns) docs → NodesAfter before (ns ++ docs ∷ [])
after-push before [] docs h k = (k, tt)
after-push before (n ∷ ns) docs h k = (h.0, after-push (id_at_end 0 n) ns docs h.1 k)

-- the nodes of the last word that came, and their last id
pub record IsLast (b : Building) : Type 0 where
  pub nodes : AreNodes b.nodes
  pub last : b.last ≡ last_of 0 b.nodes

last_on : (b : Building) (docs : Docs) → IsLast b → IsNode docs → BeginsAfter b.last docs → IsLast (with_node b docs)
last_on b docs is node after = record {
  nodes = record {
    ascend = after-push 0 b.nodes docs is.nodes.ascend (subst (λ (n : ℕ). BeginsAfter n docs) is.last after);
    each = All-push IsNode b.nodes docs is.nodes.each node;
  };
  last = sym (last_of-push 0 b.nodes docs);
}

-- one node more
pub record TakesNode (b b' : Building) (bytes rest : List ℕ) : Type 0 where
  pub docs : Docs
  pub node : IsNode docs
  pub after : BeginsAfter b.last docs
  pub is : b' ≡ with_node b docs
  pub takes : Takes bytes (list_payload docs) rest

pub more_takes : (b : Building) (bytes : List ℕ) (b' : Building) (rest : List ℕ) → IsBytes bytes → more_at b bytes ≡ Ok (b', rest) → TakesNode b b' bytes rest
unfolding more_at
more_takes b bytes b' rest fits e =
    let a = bind_ok (list_at b.last bytes) (λ list. Ok (with_node b list.0, list.1)) (b', rest) e in
    let list = list_takes b.last bytes a.0.0 a.0.1 fits a.1 in
    subst (λ (p : Building × List ℕ). TakesNode b p.0 bytes p.1) (ok_is (with_node b a.0.0, a.0.1) (b', rest) a.2)
    (record { docs = a.0.0; node = list.0; after = list.1; is = refl; takes = list.2 })

-- so many nodes of a word
pub record TakesNodes (b b' : Building) (bytes rest : List ℕ) (count : ℕ) : Type 0 where
  pub nodes : List Docs
  pub counted : length nodes ≡ count
  pub more : b'.nodes ≡ b.nodes ++ nodes
  pub last : IsLast b'
  pub takes : Takes bytes (flat_map list_payload nodes) rest

pub lists_take : (count : ℕ) (b : Building) (bytes : List ℕ) (b' : Building) (rest : List ℕ) → IsBytes bytes → IsLast b → many_at more_at count b bytes ≡ Ok (b', rest) → TakesNodes b b' bytes rest count
unfolding many_at
lists_take zero b bytes b' rest fits is e =
    subst (λ (p : Building × List ℕ). TakesNodes b p.0 bytes p.1 0) (ok_is (b, bytes) (b', rest) e)
    (record { nodes = []; counted = refl; more = sym (append-nil b.nodes); last = is; takes = (refl, fits) })
lists_take (suc count) b bytes b' rest fits is e =
    let a = bind_ok (more_at b bytes) (λ next. many_at more_at count next.0 next.1) (b', rest) e in
    let one = more_takes b bytes a.0.0 a.0.1 fits a.1 in
    let next_is : IsLast a.0.0 = subst IsLast (sym one.is) (last_on b one.docs is one.node one.after) in
    let others = lists_take count a.0.0 a.0.1 b' rest one.takes.1 next_is a.2 in
    record {
      nodes = one.docs ∷ others.nodes;
      counted = ap suc others.counted;
      more = others.more ∙ ap (λ (n : Building). n.nodes ++ others.nodes) one.is ∙ append_assoc b.nodes (one.docs ∷ []) others.nodes;
      last = others.last;
      takes = subst (λ (text : List ℕ). Takes bytes text rest) (sym (flat_map-cons list_payload one.docs others.nodes)) (takes_both bytes (list_payload one.docs) a.0.1 (flat_map list_payload others.nodes) rest one.takes others.takes);
    }

-- the last word got these nodes
abbrev pub grown : Building → List Docs → Building
grown b ns = record b { nodes = b.nodes ++ ns; last = last_of b.last ns }

grown_none : (b : Building) → grown b [] ≡ b
grown_none b = ap (λ (ns : List Docs). record b { nodes = ns }) (append-nil b.nodes)

grown_one : (b : Building) (docs : Docs) (ns : List Docs) → grown (with_node b docs) ns ≡ grown b (docs ∷ ns)
grown_one b docs ns = ap (λ (ms : List Docs). record b { nodes = ms; last = last_of (last_id docs) ns }) (append_assoc b.nodes (docs ∷ []) ns)

pub lists_again : (ns : List Docs) (b : Building) (rest : List ℕ) → NodesAfter b.last ns → All IsNode ns → many_at more_at (length ns) b (flat_map list_payload ns ++ rest) ≡ Ok (grown b ns, rest)
unfolding many_at more_at
lists_again [] b rest after each = ap (λ (n : Building). Ok (n, rest)) (sym (grown_none b))
lists_again (docs ∷ ns) b rest after each =
    let regrouped : flat_map list_payload (docs ∷ ns) ++ rest ≡ list_payload docs ++ (flat_map list_payload ns ++ rest) = ap (λ (y : List ℕ). y ++ rest) (flat_map-cons list_payload docs ns) ∙ append_assoc (list_payload docs) (flat_map list_payload ns) rest in
    let one : list_at b.last (list_payload docs ++ (flat_map list_payload ns ++ rest)) ≡ Ok (docs, flat_map list_payload ns ++ rest) = list_again b.last docs (flat_map list_payload ns ++ rest) (All-head IsNode docs ns each) after.0 in
    ap (many_at more_at (suc (length ns)) b) regrouped ∙ rw one (lists_again ns (with_node b docs) rest after.1 (All-tail IsNode docs ns each))
    ∙ ap (λ (n : Building). Ok (n, rest)) (grown_one b docs ns)

-- ---- words of a batch

same_text : (v w : List ℕ) → bytes_eq v w ≡ true → v ≡ w
same_text v w e = (bytes_eq-Decides v w).0 e

is_less : (o : Ordering) → is_lt (ordering_reverse o) ≡ false → is_eq o ≡ false → o ≡ Less
is_less Less lt eq = refl
is_less Equal lt eq = absurd (true≢false eq)
is_less Greater lt eq = absurd (true≢false lt)

-- a word that is another and does not stand before it stands behind it
behind : (v w : List ℕ) → is_lt (byte_order w v) ≡ false → bytes_eq v w ≡ false → byte_order v w ≡ Less
behind v w follows apart = is_less (byte_order v w) (sym (ap is_lt (nat_list_cmp_total.antisymm w v)) ∙ follows) (is_eq-slice_cmp v w ∙ apart)

not_before : (v w : List ℕ) → byte_order v w ≡ Less → is_lt (byte_order w v) ≡ false
not_before v w less = ap is_lt (nat_list_cmp_total.antisymm w v ∙ ap ordering_reverse less)

apart : (v w : List ℕ) → byte_order v w ≡ Less → bytes_eq v w ≡ false
apart v w less = sym (is_eq-slice_cmp v w) ∙ ap is_eq less

itself : (w : List ℕ) → bytes_eq w w ≡ true
itself w = (bytes_eq-Decides w w).1 refl

not_before_itself : (w : List ℕ) → is_lt (byte_order w w) ≡ false
not_before_itself w = equal_lt (byte_order w w) (is_eq-slice_cmp w w ∙ itself w)
  where
    equal_lt : (o : Ordering) → is_eq o ≡ true → is_lt o ≡ false
    equal_lt Less e = absurd (false≢true e)
    equal_lt Equal e = refl
    equal_lt Greater e = refl

-- all of these words stand before one
abbrev AllBefore : List (List ℕ) → List ℕ → Type 0
AllBefore ws word = AllByRecursion (λ v. byte_order v word ≡ Less) ws

before_more : (ws : List (List ℕ)) (v w : List ℕ) → byte_order v w ≡ Less → AllBefore ws v → AllBefore ws w
before_more [] v w less h = tt
before_more (u ∷ ws) v w less h = (nat_list_cmp_total.trans u v w h.0 less, before_more ws v w less h.1)

all_push : (P : List ℕ → Type 0) (ws : List (List ℕ)) (w : List ℕ) → AllByRecursion P ws → P w → AllByRecursion P (ws ++ w ∷ [])
all_push P [] w h p = (p, tt)
all_push P (v ∷ ws) w h p = (h.0, all_push P ws w h.1 p)

sorted_push : (ws : List (List ℕ)) (w : List ℕ) → IsStrictlySortedBy byte_order ws → AllBefore ws w → IsStrictlySortedBy byte_order (ws ++ w ∷ [])
unfolding IsStrictlySortedBy
sorted_push [] w h k = (tt, tt)
sorted_push (v ∷ ws) w h k = (all_push (λ y. byte_order v y ≡ Less) ws w h.0 k.0, sorted_push ws w h.1 k.1)

keys_push : (batch : Batch) (g : List ℕ × List Docs) → keys_of (batch ++ g ∷ []) ≡ keys_of batch ++ g.0 ∷ []
keys_push [] g = refl
keys_push (h ∷ batch) g = ap (λ (ws : List (List ℕ)). h.0 ∷ ws) (keys_push batch g)

-- ---- a batch that is read

pub record IsBuilding (rules : Rules) (b : Building) : Type 0 where
  pub ascend : IsStrictlySortedBy byte_order (keys_of b.closed)
  pub before : AllBefore (keys_of b.closed) b.word
  pub each : All (IsGroup rules) b.closed
  pub word : b.nodes ≢ [] → IsWord rules b.word
  pub last : IsLast b

pub nothing_read : (rules : Rules) → IsBuilding rules nothing
unfolding IsStrictlySortedBy
nothing_read rules = record {
  ascend = tt;
  before = tt;
  each = All-nil (IsGroup rules);
  word = λ some. absurd (some refl);
  last = record { nodes = record { ascend = tt; each = All-nil IsNode }; last = refl };
}

-- words with all their nodes, and one more where it has nodes
record AreClosed (rules : Rules) (batch : Batch) (word : List ℕ) : Type 0 where
  ascend : IsStrictlySortedBy byte_order (keys_of batch)
  before : AllBefore (keys_of batch) word
  each : All (IsGroup rules) batch

closed_more : (rules : Rules) (batch : Batch) (word : List ℕ) (nodes : List Docs) (w : List ℕ) → AreClosed rules batch word → (nodes ≢ [] → IsWord rules word) → AreNodes nodes → byte_order word w ≡ Less → AreClosed rules (batch ++ group_of word nodes) w
closed_more rules batch word [] w is named are less =
    subst (λ (b : Batch). AreClosed rules b w) (sym (append-nil batch)) (record { ascend = is.ascend; before = before_more (keys_of batch) word w less is.before; each = is.each })
closed_more rules batch word (n ∷ ns) w is named are less =
    let some : n ∷ ns ≢ [] = λ e. absurd cc in
    let keys = keys_push batch (word, n ∷ ns) in
    record {
      ascend = subst (IsStrictlySortedBy byte_order) (sym keys) (sorted_push (keys_of batch) word is.ascend is.before);
      before = subst (λ (ws : List (List ℕ)). AllBefore ws w) (sym keys) (all_push (λ v. byte_order v w ≡ Less) (keys_of batch) word (before_more (keys_of batch) word w less is.before) less);
      each = All-push (IsGroup rules) batch (word, n ∷ ns) is.each (record { word = named some; some = some; nodes = are });
    }

all_groups : (rules : Rules) (batch : Batch) (word : List ℕ) (nodes : List Docs) → AreClosed rules batch word → (nodes ≢ [] → IsWord rules word) → AreNodes nodes → AreGroups rules (batch ++ group_of word nodes)
all_groups rules batch word [] is named are = subst (AreGroups rules) (sym (append-nil batch)) (record { ascend = is.ascend; each = is.each })
all_groups rules batch word (n ∷ ns) is named are =
    let some : n ∷ ns ≢ [] = λ e. absurd cc in
    record {
      ascend = subst (IsStrictlySortedBy byte_order) (sym (keys_push batch (word, n ∷ ns))) (sorted_push (keys_of batch) word is.ascend is.before);
      each = All-push (IsGroup rules) batch (word, n ∷ ns) is.each (record { word = named some; some = some; nodes = are });
    }

closed_of : (rules : Rules) (b : Building) → IsBuilding rules b → AreClosed rules b.closed b.word
closed_of rules b is = record { ascend = is.ascend; before = is.before; each = is.each }

-- what was read is a batch
pub groups_read : (rules : Rules) (b : Building) → IsBuilding rules b → AreGroups rules (batch_of b)
groups_read rules b is = all_groups rules b.closed b.word b.nodes (closed_of rules b is) is.word is.last.nodes

-- a word comes
record Turns (rules : Rules) (b t : Building) (word : List ℕ) : Type 0 where
  is : IsBuilding rules t
  word_is : t.word ≡ word
  batch_is : batch_of t ≡ batch_of b

turns : (rules : Rules) (b : Building) (word : List ℕ) → IsBuilding rules b → is_lt (byte_order word b.word) ≡ false → Turns rules b (turned_to b word) word
turns rules b word is follows = ⊎_elim same other (cases_Bool (bytes_eq b.word word))
  where
    other_word : Building
    other_word = record { closed = batch_of b; word = word; nodes = []; last = 0 }

    same : bytes_eq b.word word ≡ true → Turns rules b (turned_to b word) word
    same e = subst (λ (c : Bool). Turns rules b (cond c b (record { closed = batch_of b; word = word; nodes = []; last = 0 })) word) (sym e) (record { is = is; word_is = same_text b.word word e; batch_is = refl })

    other : bytes_eq b.word word ≡ false → Turns rules b (turned_to b word) word
    other e =
        let closed = closed_more rules b.closed b.word b.nodes word (closed_of rules b is) is.word is.last.nodes (behind b.word word follows e) in
        subst (λ (c : Bool). Turns rules b (cond c b (record { closed = batch_of b; word = word; nodes = []; last = 0 })) word) (sym e) (record {
          is = record {
            ascend = closed.ascend;
            before = closed.before;
            each = closed.each;
            word = λ some. absurd (some refl);
            last = record { nodes = record { ascend = tt; each = All-nil IsNode }; last = refl };
          };
          word_is = refl;
          batch_is = append-nil (batch_of b);
        })

-- what a batch spells, and how many nodes it has, with one word more
abbrev flat : Batch → List ℕ
flat batch = flat_map nodes_payload batch

abbrev count_of : List ℕ × List Docs → ℕ
count_of group = length group.1

flat_group : (word : List ℕ) (nodes : List Docs) → flat (group_of word nodes) ≡ flat_map (node_payload word) nodes
flat_group word [] = refl
flat_group word (n ∷ ns) = flat_map-cons nodes_payload (word, n ∷ ns) [] ∙ append-nil (nodes_payload (word, n ∷ ns))

count_group : (word : List ℕ) (nodes : List Docs) → node_count (group_of word nodes) ≡ length nodes
count_group word [] = refl
count_group word (n ∷ ns) = omega (arith, sum_by-cons count_of (word, n ∷ ns) [])

flat_with : (b : Building) (docs : Docs) → flat (batch_of (with_node b docs)) ≡ flat (batch_of b) ++ node_payload b.word docs
flat_with b docs =
    let here = flat_map (node_payload b.word) b.nodes in
    let old : flat (batch_of b) ≡ flat b.closed ++ here = flat_map-append nodes_payload b.closed (group_of b.word b.nodes) ∙ ap (λ (xs : List ℕ). flat b.closed ++ xs) (flat_group b.word b.nodes) in
    let more : flat_map (node_payload b.word) (b.nodes ++ docs ∷ []) ≡ here ++ node_payload b.word docs = flat_map-append (node_payload b.word) b.nodes (docs ∷ []) ∙ ap (λ (xs : List ℕ). here ++ xs) (append-nil (node_payload b.word docs)) in
    let new : flat (batch_of (with_node b docs)) ≡ flat b.closed ++ (here ++ node_payload b.word docs) = flat_map-append nodes_payload b.closed (group_of b.word (b.nodes ++ docs ∷ [])) ∙ ap (λ (xs : List ℕ). flat b.closed ++ xs) (flat_group b.word (b.nodes ++ docs ∷ []) ∙ more) in
    new ∙ sym (append_assoc (flat b.closed) here (node_payload b.word docs)) ∙ ap (λ (xs : List ℕ). xs ++ node_payload b.word docs) (sym old)

count_with : (b : Building) (docs : Docs) → node_count (batch_of (with_node b docs)) ≡ node_count (batch_of b) + 1
count_with b docs =
    omega (
      arith,
      sum_by-append count_of b.closed (group_of b.word (b.nodes ++ docs ∷ [])),
      sum_by-append count_of b.closed (group_of b.word b.nodes),
      count_group b.word (b.nodes ++ docs ∷ []),
      count_group b.word b.nodes,
      length-append b.nodes (docs ∷ []),
    )

-- nodes were read
pub record Adds (rules : Rules) (b b' : Building) (bytes rest : List ℕ) (count : ℕ) : Type 0 where
  pub is : IsBuilding rules b'
  pub text : List ℕ
  pub takes : Takes bytes text rest
  pub spelled : flat_map nodes_payload (batch_of b') ≡ flat_map nodes_payload (batch_of b) ++ text
  pub counted : node_count (batch_of b') ≡ node_count (batch_of b) + count

node_takes : (rules : Rules) (b : Building) (bytes : List ℕ) (b' : Building) (rest : List ℕ) → IsBytes bytes → IsBuilding rules b → node_at rules b bytes ≡ Ok (b', rest) → Adds rules b b' bytes rest 1
unfolding node_at
node_takes rules b bytes b' rest fits is e =
    let a = bind_ok (word_at rules b.word bytes) (λ word. more_at (turned_to b word.0) word.1) (b', rest) e in
    let word = a.0.0 in
    let t = turned_to b word in
    let named = word_takes rules b.word bytes word a.0.1 fits a.1 in
    let turn = turns rules b word is named.1 in
    let one = more_takes t a.0.1 b' rest named.2.1 a.2 in
    let node = with_node t one.docs in
    let is_node : IsBuilding rules node = record {
      ascend = turn.is.ascend;
      before = turn.is.before;
      each = turn.is.each;
      word = λ some. subst (IsWord rules) (sym turn.word_is) named.0;
      last = last_on t one.docs turn.is.last one.node one.after;
    } in
    let spelled : flat (batch_of node) ≡ flat (batch_of b) ++ node_payload word one.docs = flat_with t one.docs ∙ ap (λ (xs : List ℕ). xs ++ node_payload t.word one.docs) (ap flat turn.batch_is) ∙ ap (λ (w : List ℕ). flat (batch_of b) ++ node_payload w one.docs) turn.word_is in
    let counted : node_count (batch_of node) ≡ node_count (batch_of b) + 1 = count_with t one.docs ∙ ap (λ (batch : Batch). node_count batch + 1) turn.batch_is in
    subst (λ (n : Building). Adds rules b n bytes rest 1) (sym one.is)
    (record { is = is_node; text = node_payload word one.docs; takes = takes_both bytes (word_payload word) a.0.1 (list_payload one.docs) rest named.2 one.takes; spelled = spelled; counted = counted })

pub nodes_take : (rules : Rules) (count : ℕ) (b : Building) (bytes : List ℕ) (b' : Building) (rest : List ℕ) → IsBytes bytes → IsBuilding rules b → many_at (node_at rules) count b bytes ≡ Ok (b', rest) → Adds rules b b' bytes rest count
unfolding many_at
nodes_take rules zero b bytes b' rest fits is e =
    subst (λ (p : Building × List ℕ). Adds rules b p.0 bytes p.1 0) (ok_is (b, bytes) (b', rest) e)
    (record { is = is; text = []; takes = (refl, fits); spelled = sym (append-nil (flat (batch_of b))); counted = omega arith })
nodes_take rules (suc count) b bytes b' rest fits is e =
    let a = bind_ok (node_at rules b bytes) (λ next. many_at (node_at rules) count next.0 next.1) (b', rest) e in
    let one = node_takes rules b bytes a.0.0 a.0.1 fits is a.1 in
    let others = nodes_take rules count a.0.0 a.0.1 b' rest one.takes.1 one.is a.2 in
    record {
      is = others.is;
      text = one.text ++ others.text;
      takes = takes_both bytes one.text a.0.1 others.text rest one.takes others.takes;
      spelled = others.spelled ∙ ap (λ (xs : List ℕ). xs ++ others.text) one.spelled ∙ append_assoc (flat (batch_of b)) one.text others.text;
      counted = omega (arith, others.counted, one.counted);
    }

-- ---- what is spelled so is read

abbrev lists_none : List Docs
lists_none = []

more_counted : (docs : Docs) (ns : List Docs) (k : ℕ) → length (docs ∷ ns) + k ≡ suc (length ns + k)
more_counted docs ns k = omega arith

run_again : (rules : Rules) (ns : List Docs) (k : ℕ) (b : Building) (rest : List ℕ) → IsWord rules b.word → NodesAfter b.last ns → All IsNode ns
    → many_at (node_at rules) (length ns + k) b (flat_map (node_payload b.word) ns ++ rest) ≡ many_at (node_at rules) k (grown b ns) rest
unfolding many_at node_at more_at
run_again rules [] k b rest word after each =
    let same : length (lists_none) + k ≡ k = omega arith in
    ap (λ (n : ℕ). many_at (node_at rules) n b rest) same ∙ ap (λ (n : Building). many_at (node_at rules) k n rest) (sym (grown_none b))
run_again rules (docs ∷ ns) k b rest word after each =
    let tail = flat_map (node_payload b.word) ns ++ rest in
    let regrouped : flat_map (node_payload b.word) (docs ∷ ns) ++ rest ≡ word_payload b.word ++ (list_payload docs ++ tail) =
    ap (λ (y : List ℕ). y ++ rest) (flat_map-cons (node_payload b.word) docs ns) ∙ append_assoc (node_payload b.word docs) (flat_map (node_payload b.word) ns) rest
    ∙ append_assoc (word_payload b.word) (list_payload docs) tail in
    let named : word_at rules b.word (word_payload b.word ++ (list_payload docs ++ tail)) ≡ Ok (b.word, list_payload docs ++ tail) = word_again rules b.word b.word (list_payload docs ++ tail) word (not_before_itself b.word) in
    let one : list_at b.last (list_payload docs ++ tail) ≡ Ok (docs, tail) = list_again b.last docs tail (All-head IsNode docs ns each) after.0 in
    ap (λ (n : ℕ). many_at (node_at rules) n b (flat_map (node_payload b.word) (docs ∷ ns) ++ rest)) (more_counted docs ns k) ∙ ap (many_at (node_at rules) (suc (length ns + k)) b) regrouped ∙ rw (named, itself b.word, one) (run_again rules ns k (with_node b docs) rest word after.1 (All-tail IsNode docs ns each))
    ∙ ap (λ (n : Building). many_at (node_at rules) k n rest) (grown_one b docs ns)

-- behind a word
abbrev begun_with : Building → List ℕ → Docs → Building
begun_with b word docs = record { closed = batch_of b; word = word; nodes = docs ∷ []; last = last_id docs }

first_again : (rules : Rules) (b : Building) (word : List ℕ) (docs : Docs) (k : ℕ) (rest : List ℕ) → byte_order b.word word ≡ Less → IsWord rules word → IsNode docs → BeginsAfter 0 docs
    → many_at (node_at rules) (suc k) b (node_payload word docs ++ rest) ≡ many_at (node_at rules) k (begun_with b word docs) rest
unfolding many_at node_at more_at
first_again rules b word docs k rest less is node after =
    let regrouped : node_payload word docs ++ rest ≡ word_payload word ++ (list_payload docs ++ rest) = append_assoc (word_payload word) (list_payload docs) rest in
    let named : word_at rules b.word (word_payload word ++ (list_payload docs ++ rest)) ≡ Ok (word, list_payload docs ++ rest) = word_again rules b.word word (list_payload docs ++ rest) is (not_before b.word word less) in
    let one : list_at 0 (list_payload docs ++ rest) ≡ Ok (docs, rest) = list_again 0 docs rest node after in
    ap (many_at (node_at rules) (suc k) b) regrouped ∙ rw (named, apart b.word word less, one) refl

abbrev after_group : Building → List ℕ × List Docs → Building
after_group b g = record { closed = batch_of b; word = g.0; nodes = g.1; last = last_of 0 g.1 }

group_again : (rules : Rules) (b : Building) (word : List ℕ) (nodes : List Docs) (k : ℕ) (rest : List ℕ) → byte_order b.word word ≡ Less → IsGroup rules (word, nodes)
    → many_at (node_at rules) (length nodes + k) b (nodes_payload (word, nodes) ++ rest) ≡ many_at (node_at rules) k (after_group b (word, nodes)) rest
group_again rules b word [] k rest less is = absurd (is.some refl)
group_again rules b word (docs ∷ ns) k rest less is =
    let tail = flat_map (node_payload word) ns ++ rest in
    let regrouped : nodes_payload (word, docs ∷ ns) ++ rest ≡ node_payload word docs ++ tail = ap (λ (y : List ℕ). y ++ rest) (flat_map-cons (node_payload word) docs ns) ∙ append_assoc (node_payload word docs) (flat_map (node_payload word) ns) rest in
    ap (λ (n : ℕ). many_at (node_at rules) n b (nodes_payload (word, docs ∷ ns) ++ rest)) (more_counted docs ns k) ∙ ap (many_at (node_at rules) (suc (length ns + k)) b) regrouped
    ∙ first_again rules b word docs (length ns + k) tail less is.word (All-head IsNode docs ns is.nodes.each) is.nodes.ascend.0
    ∙ run_again rules ns k (begun_with b word docs) rest is.word is.nodes.ascend.1 (All-tail IsNode docs ns is.nodes.each)

-- all words of a batch
pub record ReadsAll (rules : Rules) (b : Building) (gs : Batch) (rest : List ℕ) : Type 0 where
  pub end : Building
  pub reads : many_at (node_at rules) (node_count gs) b (flat_map nodes_payload gs ++ rest) ≡ Ok (end, rest)
  pub batch : batch_of end ≡ batch_of b ++ gs

group_is : (word : List ℕ) (nodes : List Docs) → nodes ≢ [] → group_of word nodes ≡ (word, nodes) ∷ []
group_is word [] some = absurd (some refl)
group_is word (n ∷ ns) some = refl

pub groups_again : (rules : Rules) (gs : Batch) (b : Building) (rest : List ℕ) → AllByRecursion (λ w. byte_order b.word w ≡ Less) (keys_of gs) → IsStrictlySortedBy byte_order (keys_of gs) → All (IsGroup rules) gs → ReadsAll rules b gs rest
unfolding many_at IsStrictlySortedBy
groups_again rules [] b rest less sorted each = record { end = b; reads = refl; batch = sym (append-nil (batch_of b)) }
groups_again rules (g ∷ gs) b rest less sorted each =
    let group = All-head (IsGroup rules) g gs each in
    let others = groups_again rules gs (after_group b g) rest sorted.0 sorted.1 (All-tail (IsGroup rules) g gs each) in
    let counted : node_count (g ∷ gs) ≡ length g.1 + node_count gs = sum_by-cons count_of g gs in
    let regrouped : flat (g ∷ gs) ++ rest ≡ nodes_payload g ++ (flat gs ++ rest) = ap (λ (y : List ℕ). y ++ rest) (flat_map-cons nodes_payload g gs) ∙ append_assoc (nodes_payload g) (flat gs) rest in
    record {
      end = others.end;
      reads = ap (λ (n : ℕ). many_at (node_at rules) n b (flat (g ∷ gs) ++ rest)) counted ∙ ap (many_at (node_at rules) (length g.1 + node_count gs) b) regrouped
          ∙ group_again rules b g.0 g.1 (node_count gs) (flat gs ++ rest) less.0 group ∙ others.reads;
      batch = others.batch ∙ ap (λ (one : Batch). (batch_of b ++ one) ++ gs) (group_is g.0 g.1 group.some) ∙ append_assoc (batch_of b) (g ∷ []) gs;
    }
