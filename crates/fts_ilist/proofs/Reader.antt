-- What a reader of bytes keeps, item by item.
use Rattle.std.proofs.Common.{◌≡◌, ℕ, ◌+◌, ◌-◌, ◌^◌, ◌<◌, ◌≤◌, List, [], ◌∷◌, ◌++◌, length, get_or, drop, refl, sym, ap, subst, ◌∙◌, append_assoc, arith}
use Rattle.std.proofs.lemmas.List.{drop_more, append-nil, length-drop}
use Rattle.fts_ilist.specs.Number.{number_bytes}
use Rattle.fts_ilist.specs.Spelling.{Posting, Item, item_bytes, items_bytes, position_items, posting_items, next_at_end}
use Rattle.fts_ilist.specs.Spelling.Item.{increase, document_end}
use Rattle.fts_ilist.specs.Reading.{State}
use Rattle.fts_ilist.specs.Reading.State.{between, inside}
use Rattle.fts_ilist.specs.Progress.{Runs, ReadsItems, IsStuck, GetsStuck, ReadsIncrease, HasNoIncrease, ReadsPositions, ReadsDocument}
use Rattle.fts_ilist.proofs.Items.{bytes_append}
use Rattle.fts_ilist.proofs.Codec.{one_number}
use Rattle.fts_ilist.proofs.Postings.{position_items-append, PositionsFrom-push, next_at_end-push, next_limit}
use Rattle.fts_ilist.proofs.Running.{runs_append, positions_run, posting_runs}

-- ---- the number at a place is one

pub same_increase : (m n : ℕ) (x y bytes : List ℕ) → bytes ≡ number_bytes m ++ x → bytes ≡ number_bytes n ++ y → m ≡ n
same_increase m n x y bytes e f = (one_number m n x y (sym e ∙ f)).0

-- ---- from place to place

pub reads_nothing : (bytes : List ℕ) (at : ℕ) (s : State) → at ≤ length bytes → ReadsItems bytes at s at s
reads_nothing bytes at s h = record { items = []; parts = refl; within = h; order = omega arith; runs = refl }

pub reads_on : (bytes : List ℕ) (a b c : ℕ) (s t u : State) → ReadsItems bytes a s b t → ReadsItems bytes b t c u → ReadsItems bytes a s c u
reads_on bytes a b c s t u p q = record {
  items = p.items ++ q.items;
  parts = p.parts ∙ ap (λ (w : List ℕ). items_bytes p.items ++ w) q.parts ∙ sym (bytes_append p.items q.items (drop c bytes));
  within = q.within;
  order = omega (arith, p.order, q.order);
  runs = runs_append p.items q.items s t u p.runs q.runs;
}

pub stuck_later : (bytes : List ℕ) (a b : ℕ) (s t : State) (at : ℕ) → ReadsItems bytes a s b t → GetsStuck bytes b t at → GetsStuck bytes a s at
stuck_later bytes a b s t at p g = record { state = g.state; reads = reads_on bytes a b at s t g.state p g.reads; stuck = g.stuck }

-- ---- positions

pub positions_limit : (bytes : List ℕ) (start at next : ℕ) → ReadsPositions bytes start at next → next ≤ 131072
positions_limit bytes start at next r = omega (arith, r.next_is, next_limit 0 r.positions (omega arith) r.from)

pub one_more_position : (bytes : List ℕ) (start at next value end : ℕ) → ReadsPositions bytes start at next → ReadsIncrease bytes at next 131072 value end → ReadsPositions bytes start end value
one_more_position bytes start at next value end r i =
    let p : ℕ = value - 1 in
    let e : p + 1 ≡ value = omega (arith, i.above) in
    let le : next_at_end 0 r.positions ≤ p = omega (arith, i.above, r.next_is) in
    let small : p ≤ 131071 = omega (arith, i.above, i.within_limit) in
    let one : number_bytes (value - next) ≡ items_bytes (position_items (next_at_end 0 r.positions) (p ∷ []))
    = ap (λ (w : ℕ). number_bytes (w - next)) (sym e) ∙ ap (λ (w : ℕ). number_bytes (p + 1 - w)) r.next_is ∙ sym (append-nil (number_bytes (p + 1 - next_at_end 0 r.positions))) in
    record {
      positions = r.positions ++ p ∷ [];
      from = PositionsFrom-push 0 r.positions p r.from le small;
      next_is = sym e ∙ sym (next_at_end-push 0 r.positions p);
      parts = r.parts
          ∙ ap (λ (w : List ℕ). items_bytes (position_items 0 r.positions) ++ w) (i.parts ∙ ap (λ (w : List ℕ). w ++ drop end bytes) one)
          ∙ sym (bytes_append (position_items 0 r.positions) (position_items (next_at_end 0 r.positions) (p ∷ [])) (drop end bytes))
          ∙ ap (λ (w : List Item). items_bytes w ++ drop end bytes) (sym (position_items-append 0 r.positions (p ∷ [])));
      order = omega (arith, r.order, i.order);
      within = i.within;
    }

pub reads_positions : (bytes : List ℕ) (start at next id : ℕ) → ReadsPositions bytes start at next → ReadsItems bytes start (inside id 0) at (inside id next)
reads_positions bytes start at next id r = record {
  items = position_items 0 r.positions;
  parts = r.parts;
  within = r.within;
  order = r.order;
  runs = subst (λ (w : ℕ). Runs (inside id 0) (position_items 0 r.positions) (inside id w)) (sym r.next_is) (positions_run id 0 r.positions r.from);
}

inside_is_not_between : (id next last : ℕ) → inside id next ≡ between last → ⊥
inside_is_not_between id next last e = absurd cc

within_bytes : (bytes : List ℕ) (at : ℕ) (b : ℕ) (rest : List ℕ) → drop at bytes ≡ b ∷ rest → at < length bytes
within_bytes bytes at b rest e = omega (arith, ap length e, length-drop at bytes)

head_is : (b c : ℕ) (x y : List ℕ) → b ∷ x ≡ c ∷ y → b ≡ c
head_is b c x y e = cc

-- inside a document a reader is stuck where no increase stands, and no end that may stand there
pub stuck_inside : (bytes : List ℕ) (at id next : ℕ) → HasNoIncrease bytes at next 131072 → (0 < next → at < length bytes → get_or bytes at 0 ≡ 0 → ⊥) → IsStuck bytes at (inside id next)
stuck_inside bytes at id next no_increase no_end = record {
  none = λ item. elim item as (λ i. (rest : List ℕ) (t : State) → drop at bytes ≡ item_bytes i ++ rest → Runs (inside id next) (i ∷ []) t → ⊥) [
    | increase n ↦ λ rest t e run. no_increase n rest e run.0 run.1
    | document_end ↦ λ rest t e run.
        let within : at < length bytes = within_bytes bytes at 0 rest e in
        no_end run.0 within (head_is (get_or bytes at 0) 0 (drop (at + 1) bytes) rest (sym (drop_more bytes at 0 within) ∙ e))
  ];
  unfinished = λ last e same. inside_is_not_between id next last same;
}

-- ---- documents

pub reads_increase : (bytes : List ℕ) (at last id start : ℕ) → ReadsIncrease bytes at last 9223372036854775807 id start → ReadsItems bytes at (between last) start (inside id 0)
reads_increase bytes at last id start i =
    let e : last + (id - last) ≡ id = omega (arith, i.above) in
    let positive : 0 < id - last = omega (arith, i.above) in
    let small : last + (id - last) < 2 ^ 63 = omega (arith, i.above, i.within_limit) in
    record {
      items = increase (id - last) ∷ [];
      parts = i.parts ∙ ap (λ (w : List ℕ). w ++ drop start bytes) (sym (append-nil (number_bytes (id - last))));
      within = i.within;
      order = omega (arith, i.order);
      runs = (positive, small, ap (λ (w : ℕ). inside w 0) e);
    }

pub stuck_between : (bytes : List ℕ) (at last : ℕ) → at < length bytes → HasNoIncrease bytes at last 9223372036854775807 → IsStuck bytes at (between last)
stuck_between bytes at last within no_increase = record {
  none = λ item. elim item as (λ i. (rest : List ℕ) (t : State) → drop at bytes ≡ item_bytes i ++ rest → Runs (between last) (i ∷ []) t → ⊥) [
    | increase n ↦ λ rest t e run. no_increase n rest e run.0 (omega (arith, run.1))
    | document_end ↦ λ rest t e run. run
  ];
  unfinished = λ l e same. absurd (omega (arith, ap length e, length-drop at bytes));
}

pub stuck_here : (bytes : List ℕ) (at : ℕ) (s : State) → at ≤ length bytes → IsStuck bytes at s → GetsStuck bytes at s at
stuck_here bytes at s h stuck = record { state = s; reads = reads_nothing bytes at s h; stuck = stuck }

-- the bytes of a document are those of its items
pub document_bytes : (last id : ℕ) (positions rest : List ℕ) → number_bytes (id - last) ++ (items_bytes (position_items 0 positions) ++ 0 ∷ rest) ≡ items_bytes (posting_items last (record { id = id; positions = positions })) ++ rest
document_bytes last id positions rest =
    ap (λ (w : List ℕ). number_bytes (id - last) ++ w) (sym (bytes_append (position_items 0 positions) (document_end ∷ []) rest))
    ∙ sym (append_assoc (number_bytes (id - last)) (items_bytes (position_items 0 positions ++ document_end ∷ [])) rest)

pub reads_document : (bytes : List ℕ) (at last id start end : ℕ) → ReadsDocument bytes at last id start end → ReadsItems bytes at (between last) end (between id)
reads_document bytes at last id start end d =
    let posting : Posting = record { id = id; positions = d.positions } in
    record {
      items = posting_items last posting;
      parts = d.front ∙ ap (λ (w : List ℕ). number_bytes (id - last) ++ w) d.body ∙ document_bytes last id d.positions (drop end bytes);
      within = d.within;
      order = omega (arith, d.front_order, d.order);
      runs = posting_runs last posting d.above d.limit d.are_positions;
    }
