-- That a batch can come just where it passes the tests, and what an index stands for behind it.
use Rattle.std.proofs.Common.{◌≡◌, ℕ, suc, ◌+◌, ◌-◌, ◌<◌, ◌≤◌, Bool, true, false, cond, not, ◌&&◌, ◌||◌, List, [], ◌∷◌, ◌++◌, map, length, take, drop, append-nil, nat_lt, nat_le, nat_eq, bytes_eq, Less, refl, sym, ap, ap₂, subst, ◌∙◌, arith, ⊎_elim}
use Rattle.std.specs.List.{All, AllByRecursion, list_all}
use Rattle.std.specs.List.Sorted.{IsStrictlySortedBy}
use Rattle.std.specs.Map.{keys_of}
use Rattle.std.specs.Global.{Vec}
use Rattle.std.proofs.lemmas.Grind.{flat_map-append}
use Rattle.std.proofs.lemmas.Bool.{false≢true, eq-eqb, eqb-true, leb-true, le-leb, and_parts, or_cases}
use Rattle.std.proofs.lemmas.List.{drop_all, length-append, map-append}
use Rattle.std.proofs.lemmas.List.Elements.{All-from_recursion, recursion_from_All}
use Rattle.std.proofs.lemmas.Map.Keys.{sorted_head, sorted_tail}
use Rattle.std.proofs.lemmas.Slice.Eq.{bytes_eq-Decides}
use Rattle.std.proofs.Math.Seq.{drop-append_seam, take-length}
use Rattle.fts_words.specs.Indexed.{Rules}
use Rattle.fts_words.specs.Order.{byte_order}
use Rattle.fts_types.specs.Row.{Row, row_of}
use Rattle.fts_types.specs.declared.row.Row.{Row as Kept}
use Rattle.fts_ids.specs.Ids.{has, AscendFrom}
use Rattle.fts_ids.proofs.Ascending.{same_ids, has-filter}
use Rattle.fts_lists.specs.Ids.{with_ids}
use Rattle.fts_lists.specs.State.{ids_of}
use Rattle.fts_lists.specs.declared.lists.DeleteList.TheVariants.{Deleted}
use Rattle.fts_lists.proofs.Merging.{has-with_ids, AscendFrom-with_ids}
use Rattle.fts_ilist.specs.Spelling.{Posting}
use Rattle.fts_ilist.specs.Node.{Docs, nodes_for, NodesAfter, last_of}
use Rattle.fts_ilist.specs.Packing.{packed, joined, are_loose}
use Rattle.fts_ilist.proofs.Loose.{keeps, told_loose}
use Rattle.fts_aux.specs.Tables as tables
use Rattle.fts_commits.specs.Turn.{Turn, RowsAscend, births_of, deaths_of}
use Rattle.fts_entries.specs.Entry.{Batch, IndexState, sealed, after_entry, unflushed, unflushed_through, flushed_deaths}
use Rattle.fts_entries.specs.Batch.{largest_after}
use Rattle.fts_entries.specs.Coming.{CanSeal, born_ids}
use Rattle.fts_entries.specs.Exact.{IdsAfter}
use Rattle.fts_entries.specs.Words.{rows_postings}
use Rattle.fts_entries.proofs.Batches.{fails}
use Rattle.fts_entries.proofs.Filters.{leads, all_joined}
use Rattle.fts_entries.proofs.Packing.{last_within}
use Rattle.fts_entries.proofs.Turns.{AreTwo, two_parts, births_ascend, ids_rise, largest_behind}
use Rattle.fts_index.specs.declared.index.Index.{Index}
use Rattle.fts_index.specs.declared.restore.Covered.{Covered}
use Rattle.fts_index.specs.Index.{pending_seen, pending_of, cached_row, Represents}
use Rattle.fts_index.specs.Stands.{StandsFor}
use Rattle.fts_index.specs.Births.{turn_of}
use Rattle.fts_index.specs.Parts.{HasSame}
use Rattle.fts_aux.specs.Tables.{begins_above, begin_behind}
use Rattle.fts_index.specs.Restore.{Covers, AreRead, are_born, is_new, is_fit, is_next, can_restore, Restores, IsAdded}
use Rattle.fts_index.proofs.Commits.{stands_still}
use Rattle.fts_entries.proofs.Groups.{own_nodes, no_nodes_for, word_apart}

-- ---- one commit more

docs_of : (rows : List Kept) → map (λ row. row.doc) (map row_of rows) ≡ map (λ row. row.doc) rows
docs_of [] = refl
docs_of (row ∷ rows) = ap (λ (ids : List ℕ). row.doc ∷ ids) (docs_of rows)

-- what is noted of some commits, with one more behind them
pub noted : (old : Covered) (born died : Vec ℕ) (births : List Kept) (deaths : List ℕ) (largest count : ℕ) → born.items ≡ old.births.items ++ map (λ row. row.doc) births → died.items ≡ old.deaths.items ++ deaths
    → count ≡ old.count + 1 → (turns : List Turn) → Covers turns old
    → Covers (turns ++ turn_of (map row_of births) deaths largest ∷ []) (record { births = born; deaths = died; count = count; largest = largest })
noted old born died births deaths largest count is_born is_dead is_count turns covers =
    let turn = turn_of (map row_of births) deaths largest in
    let both : births_of (turns ++ turn ∷ []) ≡ births_of turns ++ map row_of births =
    flat_map-append (λ (t : Turn). t.births) turns (turn ∷ []) ∙ ap (λ (rows : List Row). births_of turns ++ rows) (append-nil (map row_of births)) in
    record {
      births = is_born
          ∙ ap₂ (λ (ids more : List ℕ). ids ++ more) covers.births (sym (docs_of births))
          ∙ sym (map-append (λ (row : Row). row.doc) (births_of turns) (map row_of births))
          ∙ ap (map (λ (row : Row). row.doc)) (sym both);
      deaths = is_dead
          ∙ ap₂ (λ (ids more : List ℕ). ids ++ more) covers.deaths (sym (append-nil deaths))
          ∙ sym (flat_map-append (λ (t : Turn). t.deaths) turns (turn ∷ []));
      count = (let e = length-append turns (turn ∷ []) in let so_far = covers.count in omega (arith, e, so_far, is_count));
      largest = sym (largest_behind 0 turns (turn ∷ []));
    }

-- ---- tests of all elements

passes : {X : Type 0} (test : X → Bool) (xs : List X) → list_all test xs ≡ true → AllByRecursion (λ x. test x ≡ true) xs
passes test [] e = tt
passes test (x ∷ xs) e = let both = and_parts (test x) (list_all test xs) e in (both.0, passes test xs both.1)

all_pass : {X : Type 0} (test : X → Bool) (xs : List X) → AllByRecursion (λ x. test x ≡ true) xs → list_all test xs ≡ true
all_pass test [] h = refl
all_pass test (x ∷ xs) h = ap₂ (λ (b c : Bool). b && c) h.0 (all_pass test xs h.1)

apart : (a b c d : Bool) → ((a && b) && (c && d)) ≡ ((a && c) && (b && d))
apart true true c d = refl
apart true false true d = refl
apart true false false d = refl
apart false b c d = refl

both_pass : {X : Type 0} (test other : X → Bool) (xs : List X) → list_all (λ x. test x && other x) xs ≡ (list_all test xs && list_all other xs)
both_pass test other [] = refl
both_pass test other (x ∷ xs) =
    ap (λ (b : Bool). (test x && other x) && b) (both_pass test other xs) ∙ apart (test x) (other x) (list_all test xs) (list_all other xs)

front_all : (P : Posting → Type 0) (front rest : List Posting) → AllByRecursion P (front ++ rest) → AllByRecursion P front
front_all P [] rest h = tt
front_all P (p ∷ front) rest h = (h.0, front_all P front rest h.1)

rest_all : (P : Posting → Type 0) (front rest : List Posting) → AllByRecursion P (front ++ rest) → AllByRecursion P rest
rest_all P [] rest h = h
rest_all P (p ∷ front) rest h = rest_all P front rest h.1

born_joined : (born : ℕ → Bool) (nodes : List Docs) → are_born born nodes ≡ true → AllByRecursion (λ p. born p.id ≡ true) (joined nodes)
born_joined born [] e = tt
born_joined born (n ∷ ns) e =
    let both = and_parts (list_all (λ (p : Posting). born p.id) n) (are_born born ns) e in
    all_joined (λ p. born p.id ≡ true) n (joined ns) (passes (λ (p : Posting). born p.id) n both.0) (born_joined born ns both.1)

joined_born : (born : ℕ → Bool) (nodes : List Docs) → AllByRecursion (λ p. born p.id ≡ true) (joined nodes) → are_born born nodes ≡ true
joined_born born [] h = refl
joined_born born (n ∷ ns) h =
    ap₂ (λ (b c : Bool). b && c)
    (all_pass (λ (p : Posting). born p.id) n (front_all (λ p. born p.id ≡ true) n (joined ns) h))
    (joined_born born ns (rest_all (λ p. born p.id ≡ true) n (joined ns) h))

not_true : (b : Bool) → not b ≡ true → b ≡ false
not_true true e = sym e
not_true false e = refl

-- ---- the first id of nodes

begins_then : (last : ℕ) (nodes : List Docs) → NodesAfter 0 nodes → begins_above last nodes ≡ true → NodesAfter last nodes
begins_then last [] after e = tt
begins_then last ([] ∷ ns) after e = absurd after.0
begins_then last ((p ∷ ps) ∷ ns) after e = (let above = leb-true (suc last) p.id e in omega (arith, above), after.1)

then_begins : (last : ℕ) (nodes : List Docs) → NodesAfter 0 nodes → AllByRecursion (λ p. last < p.id) (joined nodes) → begins_above last nodes ≡ true
then_begins last [] after above = refl
then_begins last ([] ∷ ns) after above = absurd after.0
then_begins last ((p ∷ ps) ∷ ns) after above = le-leb (suc last) p.id (let first = above.0 in omega (arith, first))

-- ---- the words of a batch

-- what each word of a batch has, the nodes of any word have
for_words : (P : List ℕ → List Docs → Type 0) (batch : Batch) → IsStrictlySortedBy byte_order (keys_of batch) → AllByRecursion (λ g. P g.0 g.1) batch → ((word : List ℕ) → P word [])
    → (word : List ℕ) → P word (nodes_for word batch)
for_words P [] up all none word = none word
for_words P (g ∷ batch) up all none word =
    by (bytes_eq word g.0) refl (for_words P batch (sorted_tail byte_order g.0 (keys_of batch) up) all.1 none word)
  where
    others : (ws : List (List ℕ)) → AllByRecursion (λ y. byte_order g.0 y ≡ Less) ws → AllByRecursion (λ v. bytes_eq g.0 v ≡ false) ws
    others [] later = tt
    others (v ∷ ws) later = (word_apart g.0 v later.0, others ws later.1)

    by : (b : Bool) → bytes_eq word g.0 ≡ b → P word (nodes_for word batch) → P word (cond b g.1 [] ++ nodes_for word batch)
    by true e rest =
        let same : word ≡ g.0 = (bytes_eq-Decides word g.0).0 e in
        let alone : nodes_for word batch ≡ [] =
        ap (λ (w : List ℕ). nodes_for w batch) same ∙ no_nodes_for g.0 batch (others (keys_of batch) (sorted_head byte_order g.0 (keys_of batch) up)) in
        subst (P word) (sym (ap (λ (ns : List Docs). g.1 ++ ns) alone ∙ append-nil g.1)) (subst (λ (w : List ℕ). P w g.1) (sym same) all.0)
    by false e rest = rest

module _ (held : tables.Held) (born : ℕ → Bool) where
  fit_begins : (g : List ℕ × List Docs) → is_fit held born g ≡ true → begins_above (last_of 0 (tables.nodes held g.0)) g.1 ≡ true
  fit_begins g e = (and_parts (begins_above (last_of 0 (tables.nodes held g.0)) g.1) (not (are_loose g.1) && are_born born g.1) e).0

  fit_more : (g : List ℕ × List Docs) → is_fit held born g ≡ true → (not (are_loose g.1) && are_born born g.1) ≡ true
  fit_more g e = (and_parts (begins_above (last_of 0 (tables.nodes held g.0)) g.1) (not (are_loose g.1) && are_born born g.1) e).1

  fit_packed : (g : List ℕ × List Docs) → is_fit held born g ≡ true → packed (joined g.1) ≡ g.1
  fit_packed g e = keeps g.1 (not_true (are_loose g.1) (and_parts (not (are_loose g.1)) (are_born born g.1) (fit_more g e)).0)

  fit_born : (g : List ℕ × List Docs) → is_fit held born g ≡ true → AllByRecursion (λ p. born p.id ≡ true) (joined g.1)
  fit_born g e = born_joined born g.1 (and_parts (not (are_loose g.1)) (are_born born g.1) (fit_more g e)).1

  after_all : (batch : Batch) → AllByRecursion (λ g. is_fit held born g ≡ true) batch → AllByRecursion (λ g. NodesAfter 0 g.1) batch
      → AllByRecursion (λ g. NodesAfter (last_of 0 (tables.nodes held g.0)) g.1) batch
  after_all [] fit after = tt
  after_all (g ∷ batch) fit after = (begins_then (last_of 0 (tables.nodes held g.0)) g.1 after.0 (fit_begins g fit.0), after_all batch fit.1 after.1)

-- all words fit where they are new and begin behind those of the tables
pub all_fit : (held : tables.Held) (born : ℕ → Bool) (batch : Batch) → list_all (is_new born) batch ≡ true → list_all (is_fit held born) batch ≡ begin_behind held batch
all_fit held born batch new =
    both_pass (λ (g : List ℕ × List Docs). begins_above (last_of 0 (tables.nodes held g.0)) g.1) (is_new born) batch
    ∙ ap (λ (b : Bool). begin_behind held batch && b) new ∙ and_true (begin_behind held batch)
  where
    and_true : (b : Bool) → (b && true) ≡ b
    and_true true = refl
    and_true false = refl

pub none_fit : (held : tables.Held) (born : ℕ → Bool) (batch : Batch) → list_all (is_new born) batch ≡ false → list_all (is_fit held born) batch ≡ false
none_fit held born batch old =
    both_pass (λ (g : List ℕ × List Docs). begins_above (last_of 0 (tables.nodes held g.0)) g.1) (is_new born) batch
    ∙ ap (λ (b : Bool). begin_behind held batch && b) old ∙ and_false (begin_behind held batch)
  where
    and_false : (b : Bool) → (b && false) ≡ false
    and_false true = refl
    and_false false = refl

-- nodes that fit come behind those of the tables, also where these have other room
pub comes : (index middle : Index) (covered : Covered) (through synced : ℕ) (batch : Batch) → HasSame index middle → AreRead batch → can_restore index covered through synced batch ≡ true
    → tables.ComesAfter middle.tables batch
comes index middle covered through synced batch same read can =
    let born = has covered.births.items in
    let fit = (and_parts (is_next index covered through synced) (list_all (is_fit index.tables born) batch) can).1 in
    All-from_recursion _ batch
    (leads (λ (g : List ℕ × List Docs). NodesAfter (last_of 0 (tables.nodes index.tables g.0)) g.1) (λ g. NodesAfter (last_of 0 (tables.nodes middle.tables g.0)) g.1) batch
    (λ g h. subst (λ (ns : List Docs). NodesAfter (last_of 0 ns) g.1) (sym (same.nodes g.0)) h)
    (after_all index.tables born batch (passes (is_fit index.tables born) batch fit) (recursion_from_All (λ (g : List ℕ × List Docs). NodesAfter 0 g.1) batch read.nodes)))

-- ---- commits behind those that are flushed

any_begin : (n m : ℕ) (turns : List Turn) → 0 < length turns → largest_after n turns ≡ largest_after m turns
any_begin n m [] some = absurd (omega (arith, some))
any_begin n m (turn ∷ turns) some = refl

above_rows : (low high id : ℕ) (rows : List Row) → RowsAscend low high rows → has (map (λ row. row.doc) rows) id ≡ true → low < id
above_rows low high id [] ids there = absurd (false≢true there)
above_rows low high id (row ∷ rows) ids there =
    ⊎_elim
    (λ (here : nat_eq id row.doc ≡ true). (let same : id ≡ row.doc = eqb-true id row.doc here in let first = ids.0 in omega (arith, same, first)))
    (λ (later : has (map (λ (r : Row). r.doc) rows) id ≡ true). (let above = above_rows row.doc high id rows ids.1 later in let first = ids.0 in omega (arith, above, first)))
    (or_cases (nat_eq id row.doc) (has (map (λ (r : Row). r.doc) rows) id) there)

and_none : (a : Bool) → (a && false) ≡ false
and_none true = refl
and_none false = refl

module _ (rules : Rules) (turns more : List Turn) (s : IndexState) (old : Index) (covered : Covered) (restores : Restores rules turns more s old covered)
    (through synced : ℕ) (batch : Batch) (read : AreRead batch) where
  abbrev all : List Turn
  all = turns ++ more

  abbrev born : ℕ → Bool
  born = has covered.births.items

  stands : Represents rules turns s old
  unfolding StandsFor
  stands = restores.stands

  unflushed_is : unflushed all s ≡ more
  unflushed_is = ap (λ (n : ℕ). drop n all) restores.flushed ∙ drop-append_seam turns more

  none_left : unflushed turns s ≡ []
  none_left = drop_all s.flushed turns (let e = restores.flushed in omega (arith, e))

  long : length all ≡ s.flushed + length more
  long = let e = length-append turns more in let f = restores.flushed in omega (arith, e, f)

  parts : AreTwo 0 turns more
  parts = two_parts 0 turns more restores.ascend

  synced_at : s.synced ≡ largest_after 0 turns
  synced_at =
      restores.fits.synced
      ∙ ap (λ (n : ℕ). largest_after 0 (take n turns)) restores.flushed
      ∙ ap (largest_after 0) (take-length turns)

  largest_all : 0 < length more → largest_after 0 all ≡ largest_after 0 more
  largest_all some = largest_behind 0 turns more ∙ any_begin (largest_after 0 turns) 0 more some

  all_at : through ≡ length all → take through all ≡ all
  all_at e = ap (λ (n : ℕ). take n all) e ∙ take-length all

  covered_at : through ≡ length all → unflushed_through through all s ≡ more
  covered_at e =
      ap (take (through - s.flushed)) unflushed_is
      ∙ ap (λ (n : ℕ). take n more) (let l = long in let few : through - s.flushed ≡ length more = omega (arith, l, e) in few)
      ∙ take-length more

  born_same : (id : ℕ) → born id ≡ has (born_ids more) id
  born_same id = ap (λ (ids : List ℕ). has ids id) restores.covers.births

  -- ---- what passes can come

  module _ (can : can_restore old covered through synced batch ≡ true) where
    next : is_next old covered through synced ≡ true
    next = (and_parts (is_next old covered through synced) (list_all (is_fit old.tables born) batch) can).0

    fit : AllByRecursion (λ g. is_fit old.tables born g ≡ true) batch
    fit = passes (is_fit old.tables born) batch (and_parts (is_next old covered through synced) (list_all (is_fit old.tables born) batch) can).1

    numbers : (nat_eq through (old.lists.flushed + covered.count) && nat_eq synced covered.largest) ≡ true
    numbers = (and_parts (nat_lt 0 covered.count) (nat_eq through (old.lists.flushed + covered.count) && nat_eq synced covered.largest) next).1

    some : 0 < length more
    some =
        let first = leb-true 1 covered.count (and_parts (nat_lt 0 covered.count) (nat_eq through (old.lists.flushed + covered.count) && nat_eq synced covered.largest) next).0 in
        let e = restores.covers.count in omega (arith, first, e)

    pub through_at : through ≡ length all
    through_at =
        let e = eqb-true through (old.lists.flushed + covered.count) (and_parts (nat_eq through (old.lists.flushed + covered.count)) (nat_eq synced covered.largest) numbers).0 in
        let flushed = stands.flushed in let count = restores.covers.count in let l = long in omega (arith, e, flushed, count, l)

    largest_at : synced ≡ covered.largest
    largest_at = eqb-true synced covered.largest (and_parts (nat_eq through (old.lists.flushed + covered.count)) (nat_eq synced covered.largest) numbers).1

    filled : AllByRecursion (λ g. g.0 ≡ [] → g.1 ≡ []) batch
    filled = leads (λ g. g.0 ≡ [] → ⊥) (λ g. g.0 ≡ [] → g.1 ≡ []) batch (λ g h e. absurd (h e)) (recursion_from_All (λ (g : List ℕ × List Docs). g.0 ≡ [] → ⊥) batch read.filled)

    pub seals : CanSeal all s through synced batch
    seals = record {
      later = (let e = through_at in let l = long in let first = some in omega (arith, e, l, first));
      made = (let e = through_at in omega (arith, e));
      synced_is = largest_at ∙ restores.covers.largest ∙ sym (largest_all some) ∙ ap (largest_after 0) (sym (all_at through_at));
      ascend = for_words (λ word ns. IdsAfter 0 (joined ns)) batch read.ascend (recursion_from_All (λ (g : List ℕ × List Docs). IdsAfter 0 (joined g.1)) batch read.ids) (λ word. tt);
      no_empty = for_words (λ word ns. word ≡ [] → ns ≡ []) batch read.ascend filled (λ word e. refl) [] refl;
      packed_are = for_words (λ word ns. packed (joined ns) ≡ ns) batch read.ascend
          (leads (λ g. is_fit old.tables born g ≡ true) (λ g. packed (joined g.1) ≡ g.1) batch (fit_packed old.tables born) fit) (λ word. refl);
      born = λ word. subst (λ (ts : List Turn). All (λ p. has (born_ids ts) p.id ≡ true) (joined (nodes_for word batch))) (sym (covered_at through_at))
          (All-from_recursion (λ (p : Posting). has (born_ids more) p.id ≡ true) (joined (nodes_for word batch))
          (for_words (λ w ns. AllByRecursion (λ p. has (born_ids more) p.id ≡ true) (joined ns)) batch read.ascend
          (leads (λ g. is_fit old.tables born g ≡ true) (λ g. AllByRecursion (λ p. has (born_ids more) p.id ≡ true) (joined g.1)) batch
          (λ g h. leads (λ (p : Posting). born p.id ≡ true) (λ p. has (born_ids more) p.id ≡ true) (joined g.1) (λ p b. sym (born_same p.id) ∙ b) (fit_born old.tables born g h)) fit)
          (λ w. tt) word));
    }

    rest_none : drop through all ≡ []
    rest_none = drop_all through all (let e = through_at in omega (arith, e))

    pub stands_restored : (middle new : Index) (dead : List ℕ) → HasSame old middle → ((id : ℕ) → has dead id ≡ has covered.deaths.items id) → IsAdded middle through synced batch dead new
        → Represents rules all (after_entry all s (sealed through synced batch)) new
    stands_restored middle new dead same each is =
        let kept = stands_still old middle same rules turns s stands in
        let taken = flushed_deaths s.synced (unflushed_through through all s) in
        let none : unflushed turns s ≡ drop through all = none_left ∙ sym rest_none in
        record {
          within = (let e = through_at in omega (arith, e));
          tables = λ word. is.nodes word ∙ ap (λ (ns : List Docs). ns ++ nodes_for word batch) (kept.tables word);
          flushed = is.flushed;
          synced = is.synced_is;
          deleted = same_ids 0 0 (ids_of Deleted new.lists) (with_ids s.deleted taken) is.lists.ascend_now
              (AscendFrom-with_ids s.deleted taken (subst (AscendFrom 0) kept.deleted is.lists.ascend_then))
              (λ id. is.lists.deleted id
              ∙ ap₂ (λ (b c : Bool). b || c) (ap (λ (ids : List ℕ). has ids id) kept.deleted)
              (ap₂ (λ (n : ℕ) (b : Bool). nat_le id n && b) kept.synced (each id ∙ ap (λ (ids : List ℕ). has ids id) restores.covers.deaths)
              ∙ ap (λ (ts : List Turn). nat_le id s.synced && has (deaths_of ts) id) (sym (covered_at through_at))
              ∙ sym (has-filter (λ other. nat_le other s.synced) (deaths_of (unflushed_through through all s)) id))
              ∙ sym (has-with_ids s.deleted taken id));
          being = is.lists.being ∙ kept.being;
          is_open = is.lists.is_open ∙ kept.is_open;
          checkpoint = is.lists.checkpoint ∙ kept.checkpoint;
          dead = λ id. is.lists.dead id
              ∙ ap (λ (b : Bool). not (has dead id) && b) (kept.dead id ∙ ap (λ (ts : List Turn). has (deaths_of ts) id) none_left)
              ∙ and_none (not (has dead id))
              ∙ ap (λ (ts : List Turn). has (deaths_of ts) id) (sym rest_none);
          cache = λ word. is.cache.postings word ∙ kept.cache word ∙ ap (λ (ts : List Turn). rows_postings rules word (births_of ts)) none;
          documents = is.cache.documents ∙ kept.documents ∙ ap (λ (ts : List Turn). map (cached_row rules) (births_of ts)) none;
          pending = ap (map pending_seen) is.pending ∙ kept.pending ∙ ap (map pending_of) none;
          last = (let e = is.cache.last in let le = kept.last in let up = ids_rise (largest_after 0 turns) more parts.of_rest in
              let behind = largest_behind 0 turns more in omega (arith, e, le, up, behind));
        }

  -- ---- what can come passes

  module _ (here : length all ≤ through) (seal : CanSeal all s through synced batch) where
    ends_here : through ≡ length all
    ends_here = let most = seal.made in omega (arith, most, here)

    some_more : 0 < length more
    some_more = let e = ends_here in let l = long in let later = seal.later in omega (arith, e, l, later)

    born_here : (word : List ℕ) → AllByRecursion (λ p. has (born_ids more) p.id ≡ true) (joined (nodes_for word batch))
    born_here word =
        recursion_from_All (λ (p : Posting). has (born_ids more) p.id ≡ true) (joined (nodes_for word batch))
        (subst (λ (ts : List Turn). All (λ p. has (born_ids ts) p.id ≡ true) (joined (nodes_for word batch))) (covered_at ends_here) (seal.born word))

    low : (word : List ℕ) → last_of 0 (tables.nodes old.tables word) ≤ s.synced
    low word =
        subst (λ (ns : List Docs). last_of 0 ns ≤ s.synced) (sym (stands.tables word))
        (last_within 0 s.synced (s.nodes word) (omega arith) (recursion_from_All (λ (p : Posting). p.id ≤ s.synced) (joined (s.nodes word)) (restores.fits.tables word)))

    above : (id : ℕ) → has (born_ids more) id ≡ true → s.synced < id
    above id there =
        let up = above_rows (largest_after 0 turns) (largest_after (largest_after 0 turns) more) id (births_of more) (births_ascend (largest_after 0 turns) more parts.of_rest) there in
        let e = synced_at in omega (arith, up, e)

    fits_word : (word : List ℕ) → is_fit old.tables born (word, nodes_for word batch) ≡ true
    fits_word word =
        let ns : List Docs = nodes_for word batch in
        let begins : begins_above (last_of 0 (tables.nodes old.tables word)) ns ≡ true =
        then_begins (last_of 0 (tables.nodes old.tables word)) ns
        (for_words (λ word ns. NodesAfter 0 ns) batch read.ascend (recursion_from_All (λ (g : List ℕ × List Docs). NodesAfter 0 g.1) batch read.nodes) (λ word. tt) word)
        (leads (λ (p : Posting). has (born_ids more) p.id ≡ true) (λ p. last_of 0 (tables.nodes old.tables word) < p.id) (joined ns)
        (λ p b. let up = above p.id b in let most = low word in omega (arith, up, most)) (born_here word)) in
        let tight : are_loose ns ≡ false = fails (are_loose ns) (λ yes. told_loose ns yes (seal.packed_are word)) in
        let all_born : are_born born ns ≡ true =
        joined_born born ns (leads (λ (p : Posting). has (born_ids more) p.id ≡ true) (λ p. born p.id ≡ true) (joined ns) (λ p b. born_same p.id ∙ b) (born_here word)) in
        ap₂ (λ (b c : Bool). b && c) begins (ap₂ (λ (b c : Bool). not b && c) tight all_born)

    is_next_here : is_next old covered through synced ≡ true
    is_next_here =
        let count = restores.covers.count in
        let flushed = stands.flushed in
        let first = some_more in
        let l = long in
        let e = ends_here in
        ap₂ (λ (b c : Bool). b && c) (le-leb 1 covered.count (omega (arith, first, count)))
        (ap₂ (λ (b c : Bool). b && c)
        (eq-eqb through (old.lists.flushed + covered.count) (omega (arith, e, l, flushed, count)))
        (eq-eqb synced covered.largest (seal.synced_is ∙ ap (largest_after 0) (all_at ends_here) ∙ largest_all some_more ∙ sym restores.covers.largest)))

    pub passes_all : can_restore old covered through synced batch ≡ true
    passes_all =
        ap₂ (λ (b c : Bool). b && c) is_next_here
        (all_pass (is_fit old.tables born) batch (own_nodes (λ word ns. is_fit old.tables born (word, ns) ≡ true) batch read.ascend fits_word))

  -- what does not pass can't come
  pub cannot : can_restore old covered through synced batch ≡ false → length all ≤ through → CanSeal all s through synced batch → ⊥
  cannot fails here seal = false≢true (sym fails ∙ passes_all here seal)
