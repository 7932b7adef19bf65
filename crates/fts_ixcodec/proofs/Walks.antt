-- A walk over nodes, from the first on.
use Rattle.std.proofs.Common.{◌≡◌, ℕ, ◌+◌, ◌-◌, ◌<◌, ◌≤◌, ◌^◌, List, [], ◌∷◌, ◌++◌, length, take, drop, get_or, refl, sym, ap, subst, ◌∙◌, append_assoc, length-append, append-nil, arith}
use Rattle.std.specs.List.{flat_map}
use Rattle.std.proofs.lemmas.List.{take_more}
use Rattle.std.specs.Prelude.{All, Option, Some, None, IfSome, IfNone}
use Rattle.fts_entries.specs.Entry.{IndexEntry}
use Rattle.fts_entries.specs.Entry.IndexEntry.{sealed}
use Rattle.std.proofs.lemmas.List.Elements.{All-push}
use Rattle.std.proofs.lemmas.List.Concat.{flat_map-append, flat_map-cons}
use Rattle.std.specs.Int.{w32, to_be_bytes}
use borrow.Rule.Slice.PartMut.{put_mid}
use Rattle.fts_codec.specs.Writing.{Puts}
use Rattle.fts_codec.proofs.Puts.{left_of, left_size, puts_both}
use Rattle.fts_ilist.specs.Spelling.{list_bytes}
use Rattle.fts_ilist.specs.Node.{Docs}
use Rattle.std.proofs.lemmas.List.Sums.{sum_by-cons, sum_by-append}
use Rattle.fts_codec.proofs.Puts.{pieces_within, front_within}
use Rattle.fts_ixcodec.specs.Payload.{word_payload, list_payload, node_payload, nodes_payload, node_count, HasShortWord, HasSize, HasNoSize}
use Rattle.fts_ixcodec.specs.Measure.{IsSum}

-- how long a list with its length is
pub list_length : (docs : Docs) → length (list_payload docs) ≡ 4 + length (list_bytes docs)
list_length docs = length-append (to_be_bytes w32 (length (list_bytes docs))) (list_bytes docs)

-- some nodes were passed, and these are left
pub record Passes (all rest : List Docs) : Type 0 where
  pub done : List Docs
  pub parts : done ++ rest ≡ all

-- the lists of all, where one of those that are left comes next
abbrev flat : List Docs → List ℕ
flat nodes = flat_map list_payload nodes

module _ (all rest next : List Docs) (docs : Docs) (step : rest ≡ docs ∷ next) (p : Passes all rest) where
  abbrev pub passes_on : Passes all next
  passes_on = record {
    done = p.done ++ docs ∷ [];
    parts = append_assoc p.done (docs ∷ []) next ∙ ap (λ (ns : List Docs). p.done ++ ns) (sym step) ∙ p.parts;
  }

  pub one_more : flat (p.done ++ docs ∷ []) ≡ flat p.done ++ list_payload docs
  one_more = flat_map-append list_payload p.done (docs ∷ []) ∙ ap (λ (xs : List ℕ). flat p.done ++ xs) (append-nil (list_payload docs))

  whole : flat all ≡ flat p.done ++ (list_payload docs ++ flat next)
  whole = ap flat (sym p.parts) ∙ flat_map-append list_payload p.done rest ∙ ap (λ (ns : List Docs). flat p.done ++ flat ns) step ∙ ap (λ (xs : List ℕ). flat p.done ++ xs) (flat_map-cons list_payload docs next)

  pub within : length (flat p.done) + length (list_payload docs) ≤ length (flat all)
  within = omega (arith, ap length whole, length-append (flat p.done) (list_payload docs ++ flat next), length-append (list_payload docs) (flat next))

-- the lists of those that were passed are written
pub record IsWriting (all rest : List Docs) (old now : List ℕ) (at : ℕ) : Type 0 where
  pub passes : Passes all rest
  pub put : Puts (flat passes.done) old now at

pub nothing_written : (all rest : List Docs) (buf : List ℕ) → rest ≡ all → IsWriting all rest buf buf 0
nothing_written all rest buf e = record { passes = record { done = []; parts = e }; put = (refl, refl) }

module _ (all rest next : List Docs) (docs : Docs) (step : rest ≡ docs ∷ next) (old now : List ℕ) (at : ℕ) (w : IsWriting all rest old now at) (room : length (flat all) ≤ length old) where
  here : length (flat w.passes.done) + length (list_payload docs) ≤ length (flat all)
  here = within all rest next docs step w.passes

  pub room_left : length (list_payload docs) ≤ length (left_of now at)
  room_left = omega (arith, here, room, left_size (flat w.passes.done) old now at (omega (arith, here, room)) w.put)

  pub short_list : length (flat all) < 2 ^ 32 → length (list_bytes docs) < 2 ^ 32
  short_list short = omega (arith, here, short, list_length docs)

  pub written_on : (sub new : List ℕ) (m : ℕ) → Puts (list_payload docs) (left_of now at) sub m → new ≡ put_mid at (length now - at) now sub → IsWriting all next old new (at + m)
  written_on sub new m put new_is = record {
    passes = passes_on all rest next docs step w.passes;
    put = subst (λ (xs : List ℕ). Puts xs old new (at + m)) (sym (one_more all rest next docs step w.passes)) (puts_both (flat w.passes.done) old now at (omega (arith, here, room)) w.put (list_payload docs) sub new m put new_is);
  }

-- the place is within the buffer
pub place_within : (all rest : List Docs) (old now : List ℕ) (at : ℕ) → IsWriting all rest old now at → length (flat all) ≤ length old → at ≤ length now
place_within all rest old now at w room =
    let parts : flat all ≡ flat w.passes.done ++ flat rest = ap flat (sym w.passes.parts) ∙ flat_map-append list_payload w.passes.done rest in
    omega (arith, w.put.1, ap length w.put.0, length-append (flat w.passes.done) (drop (length (flat w.passes.done)) old), ap length parts, length-append (flat w.passes.done) (flat rest), room)

-- ---- sums

-- the sizes of those that were passed are summed
pub record IsSumming (all rest : List Docs) (start size : ℕ) : Type 0 where
  pub passes : Passes all rest
  pub sum : IsSum start (flat passes.done) size

module _ (all rest next : List Docs) (docs : Docs) (step : rest ≡ docs ∷ next) (start size : ℕ) (s : IsSumming all rest start size) where
  pub summed_on : (sum : ℕ) → sum ≡ size + (4 + length (list_bytes docs)) → IsSumming all next start sum
  summed_on sum is = record {
    passes = passes_on all rest next docs step s.passes;
    sum = omega (arith, is, s.sum, list_length docs, ap length (one_more all rest next docs step s.passes), length-append (flat s.passes.done) (list_payload docs));
  }

  pub sum_too_long : 2 ^ 64 ≤ size + (4 + length (list_bytes docs)) → 2 ^ 64 ≤ start + length (flat all)
  sum_too_long long = omega (arith, long, s.sum, list_length docs, within all rest next docs step s.passes)

-- ---- sums of the pieces of a list

module _ {X : Type 0} (f : X → List ℕ) (xs : List X) (i : ℕ) (d : X) (less : i < length xs) where
  pub flat_more : flat_map f (take (i + 1) xs) ≡ flat_map f (take i xs) ++ f (get_or xs i d)
  flat_more = ap (flat_map f) (take_more xs i d less) ∙ flat_map-append f (take i xs) (get_or xs i d ∷ []) ∙ ap (λ (y : List ℕ). flat_map f (take i xs) ++ y) (append-nil (f (get_or xs i d)))

  pub sum_more : (start size sum : ℕ) → IsSum start (flat_map f (take i xs)) size → sum ≡ size + length (f (get_or xs i d)) → IsSum start (flat_map f (take (i + 1) xs)) sum
  sum_more start size sum so_far is = omega (arith, so_far, is, ap length flat_more, length-append (flat_map f (take i xs)) (f (get_or xs i d)))

-- how long a node with its word is
pub node_length : (word : List ℕ) (docs : Docs) → length (node_payload word docs) ≡ 5 + length word + length (list_bytes docs)
node_length word docs = omega (arith, length-append (word_payload word) (list_payload docs), list_length docs)

module _ (word : List ℕ) (nodes items : List Docs) (i : ℕ) (node d : Docs) (list : List ℕ) (start size beside : ℕ)
    (same : items ≡ nodes) (less : i < length items) (at : node ≡ get_or items i d) (spelled : list ≡ list_bytes node) (beside_is : beside ≡ 5 + length word)
    (so_far : IsSum start (flat_map (node_payload word) (take i nodes)) size) where
  less_here : i < length nodes
  less_here = subst (λ (ns : List Docs). i < length ns) same less

  node_is : node ≡ get_or nodes i d
  node_is = at ∙ ap (λ (ns : List Docs). get_or ns i d) same

  long_is : beside + length list ≡ length (node_payload word (get_or nodes i d))
  long_is = omega (arith, beside_is, ap length spelled, ap (λ (n : Docs). length (list_bytes n)) node_is, node_length word (get_or nodes i d))

  pub nodes_too_long : 2 ^ 64 ≤ size + (beside + length list) → 2 ^ 64 ≤ start + length (flat_map (node_payload word) nodes)
  nodes_too_long long = omega (arith, long, long_is, so_far, pieces_within (node_payload word) nodes i d less_here)

  pub nodes_summed : (sum : ℕ) → sum ≡ size + (beside + length list) → IsSum start (flat_map (node_payload word) (take (i + 1) nodes)) sum
  nodes_summed sum is = sum_more (node_payload word) nodes i d less_here start size sum so_far (is ∙ ap (λ (n : ℕ). size + n) long_is)

-- ---- how many nodes

each_counts : {X : Type 0} (f : X → List ℕ) → ((x : X) → 1 ≤ length (f x)) → (xs : List X) → length xs ≤ length (flat_map f xs)
each_counts f some [] = omega arith
each_counts f some (x ∷ xs) = omega (arith, each_counts f some xs, some x, length-append (f x) (flat_map f xs), ap length (flat_map-cons f x xs))

pub lists_count : (nodes : List Docs) → length nodes ≤ length (flat_map list_payload nodes)
lists_count nodes = each_counts list_payload (λ docs. omega (arith, list_length docs)) nodes

group_counts : (word : List ℕ) (nodes : List Docs) → length nodes ≤ length (nodes_payload (word, nodes))
group_counts word nodes = each_counts (node_payload word) (λ docs. omega (arith, node_length word docs)) nodes

abbrev Group : Type 0
Group = List ℕ × List Docs

abbrev count_of : Group → ℕ
count_of group = length group.1

pub count_within : (batch : List Group) → node_count batch ≤ length (flat_map nodes_payload batch)
count_within [] = omega arith
count_within (g ∷ batch) = omega (arith, count_within batch, group_counts g.0 g.1, sum_by-cons count_of g batch, length-append (nodes_payload g) (flat_map nodes_payload batch), ap length (flat_map-cons nodes_payload g batch))

module _ (batch : List Group) (i : ℕ) (d g : Group) (nodes : List Docs) (less : i < length batch) (at : g ≡ get_or batch i d) (same : nodes ≡ g.1) where
  pub counted_on : node_count (take (i + 1) batch) ≡ node_count (take i batch) + length nodes
  counted_on =
      omega (
        arith,
        ap node_count (take_more batch i d less),
        sum_by-append count_of (take i batch) (get_or batch i d ∷ []),
        sum_by-cons count_of (get_or batch i d) [],
        ap length same,
        ap count_of at,
      )

  pub counted_within : node_count (take i batch) + length nodes ≤ length (flat_map nodes_payload batch)
  counted_within = omega (arith, counted_on, count_within (take (i + 1) batch), front_within nodes_payload batch (i + 1))

pub front_count : (batch : List Group) (i : ℕ) → node_count (take i batch) ≤ length (flat_map nodes_payload batch)
front_count batch i = omega (arith, count_within (take i batch), front_within nodes_payload batch i)

-- ---- words whose lengths fit

words_on : (batch : List Group) (i : ℕ) (d g : Group) → i < length batch → g ≡ get_or batch i d → All HasShortWord (take i batch) → HasShortWord g → All HasShortWord (take (i + 1) batch)
words_on batch i d g less at words word =
    subst (All HasShortWord) (sym (take_more batch i d less))
    (All-push HasShortWord (take i batch) (get_or batch i d) words (subst HasShortWord at word))

-- the sizes of the words before one of a batch, and that they fit
pub record AreSized (batch : List Group) (i size : ℕ) : Type 0 where
  pub sum : IsSum 21 (flat_map nodes_payload (take i batch)) size
  pub words : All HasShortWord (take i batch)

module _ (batch : List Group) (i size : ℕ) (d g : Group) (less : i < length batch) (at : g ≡ get_or batch i d) where
  pub sized_on : (sum : ℕ) → AreSized batch i size → HasShortWord g → IsSum size (nodes_payload g) sum → AreSized batch (i + 1) sum
  sized_on sum so_far word more = record {
    sum = sum_more nodes_payload batch i d less 21 size sum so_far.sum (more ∙ ap (λ (x : Group). size + length (nodes_payload x)) at);
    words = words_on batch i d g less at so_far.words word;
  }

  pub batch_too_long : IsSum 21 (flat_map nodes_payload (take i batch)) size → 2 ^ 64 ≤ size + length (nodes_payload g) → 2 ^ 64 ≤ 21 + length (flat_map nodes_payload batch)
  batch_too_long so_far long = omega (arith, long, ap (λ (x : Group). length (nodes_payload x)) at, so_far, pieces_within nodes_payload batch i d less)

  pub word_is_short : All HasShortWord batch → HasShortWord g
  word_is_short words = subst HasShortWord (sym at) (words i d less)

-- items that are the nodes of a word
pub nodes_less : (nodes items : List Docs) (i : ℕ) → items ≡ nodes → i < length items → i < length nodes
nodes_less nodes items i same less = subst (λ (ns : List Docs). i < length ns) same less

pub nodes_item : (nodes items : List Docs) (i : ℕ) (node d : Docs) → items ≡ nodes → node ≡ get_or items i d → node ≡ get_or nodes i d
nodes_item nodes items i node d same at = at ∙ ap (λ (ns : List Docs). get_or ns i d) same

-- ---- the size of a batch, whatever its marks are

module _ (o : Option ℕ) (batch : List Group) (through synced : ℕ) (entry : IndexEntry) (is : entry ≡ sealed through synced batch) where
  pub size_some : IfSome o (λ size. (t : ℕ) → (s : ℕ) → HasSize (sealed t s batch) size) → IfSome o (HasSize entry)
  size_some h = subst (λ (e : IndexEntry). IfSome o (HasSize e)) (sym is) (here o h)
    where
      here : (o : Option ℕ) → IfSome o (λ size. (t : ℕ) → (s : ℕ) → HasSize (sealed t s batch) size) → IfSome o (HasSize (sealed through synced batch))
      here (Some size) h = h through synced
      here None h = tt

  pub size_none : IfNone o ((t : ℕ) → (s : ℕ) → HasNoSize (sealed t s batch)) → IfNone o (HasNoSize entry)
  size_none h = subst (λ (e : IndexEntry). IfNone o (HasNoSize e)) (sym is) (here o h)
    where
      here : (o : Option ℕ) → IfNone o ((t : ℕ) → (s : ℕ) → HasNoSize (sealed t s batch)) → IfNone o (HasNoSize (sealed through synced batch))
      here (Some size) h = tt
      here None h = h through synced
