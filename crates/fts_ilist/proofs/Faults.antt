-- Where a reader gets stuck is the first fault, and there is one first fault.
use Rattle.std.proofs.Common.{◌≡◌, ℕ, ◌<◌, List, [], ◌∷◌, ◌++◌, length, drop, refl, sym, ap, subst, ◌∙◌, append_assoc, arith, inl, inr}
use Rattle.std.proofs.lemmas.Bool.{cases_order}
use Rattle.std.proofs.lemmas.List.{append-nil, length-append, length-drop}
use Rattle.fts_ilist.specs.Spelling.{Item, item_bytes, items_bytes, postings_items, last_id}
use Rattle.fts_ilist.specs.Reading.{State}
use Rattle.fts_ilist.specs.Reading.State.{between}
use Rattle.fts_ilist.specs.Fault.{BeginsList, IsFirstFault}
use Rattle.fts_ilist.specs.Progress.{Runs, IsStuck, GetsStuck}
use Rattle.fts_ilist.proofs.Items.{bytes_cons, item_first, item_positive}
use Rattle.fts_ilist.proofs.Running.{runs_split, runs_same, postings_run, runs_begin, begins_runs}

-- ---- fronts of spelled items

pub record Longer (a b : List Item) (x y : List ℕ) : Type 0 where
  pub item : Item
  pub more : List Item
  pub items_are : b ≡ a ++ item ∷ more
  pub bytes_are : x ≡ item_bytes item ++ (items_bytes more ++ y)

pub longer : (a b : List Item) (x y : List ℕ) → items_bytes a ++ x ≡ items_bytes b ++ y → length y < length x → Longer a b x y
longer [] [] x y e lt = absurd (omega (arith, ap length e))
longer [] (i ∷ b) x y e lt = record { item = i; more = b; items_are = refl; bytes_are = e ∙ bytes_cons i b y }
longer (i ∷ a) [] x y e lt =
    absurd (omega (arith, ap length (sym (bytes_cons i a x) ∙ e), length-append (item_bytes i) (items_bytes a ++ x), length-append (items_bytes a) x))
longer (i ∷ a) (j ∷ b) x y e lt =
    let same = item_first i j (items_bytes a ++ x) (items_bytes b ++ y) (sym (bytes_cons i a x) ∙ e ∙ bytes_cons j b y) in
    let r = longer a b x y same.1 lt in
    record { item = r.item; more = r.more; items_are = ap (λ (w : Item). w ∷ b) (sym same.0) ∙ ap (λ (w : List Item). i ∷ w) r.items_are; bytes_are = r.bytes_are }

pub equally_long : (a b : List Item) (x y : List ℕ) → items_bytes a ++ x ≡ items_bytes b ++ y → length x ≡ length y → (a ≡ b) × (x ≡ y)
equally_long [] [] x y e same = (refl, e)
equally_long [] (i ∷ b) x y e same =
    absurd (omega (arith, ap length (e ∙ bytes_cons i b y), length-append (item_bytes i) (items_bytes b ++ y), length-append (items_bytes b) y, item_positive i))
equally_long (i ∷ a) [] x y e same =
    absurd (omega (arith, ap length (sym (bytes_cons i a x) ∙ e), length-append (item_bytes i) (items_bytes a ++ x), length-append (items_bytes a) x, item_positive i))
equally_long (i ∷ a) (j ∷ b) x y e len =
    let same = item_first i j (items_bytes a ++ x) (items_bytes b ++ y) (sym (bytes_cons i a x) ∙ e ∙ bytes_cons j b y) in
    let r = equally_long a b x y same.1 len in
    (ap (λ (w : Item). w ∷ a) same.0 ∙ ap (λ (w : List Item). j ∷ w) r.0, r.1)

-- ---- stuck readers

first_of_run : (item : Item) (more : List Item) (s t : State) → Runs s (item ∷ more) t → (u : State) × Runs s (item ∷ []) u
first_of_run item more s t h = let r = runs_split (item ∷ []) more s t h in (r.0, r.1)

none_follows : (bytes : List ℕ) (at : ℕ) (items : List Item) (t : State) → Runs (between 0) items t → IsStuck bytes at t
    → (item : Item) (rest : List ℕ) → drop at bytes ≡ item_bytes item ++ rest → BeginsList (items ++ item ∷ []) → ⊥
none_follows bytes at items t runs stuck item rest e begins =
    let r = begins_runs (items ++ item ∷ []) begins in
    let s = runs_split items (item ∷ []) (between 0) r.0 r.1 in
    stuck.none item rest r.0 e (subst (λ (w : State). Runs w (item ∷ []) r.0) (runs_same items (between 0) s.0 t s.1 runs) s.2)

-- a reader doesn't get stuck on a list, wherever it begins in it
pub never_stuck : (bytes : List ℕ) (from at : ℕ) (s : State) (js : List Item) (last : ℕ) → drop from bytes ≡ items_bytes js → Runs s js (between last) → GetsStuck bytes from s at → ⊥
never_stuck bytes from at s js last e all g =
    let items = g.reads.items in
    let same : items_bytes items ++ drop at bytes ≡ items_bytes js ++ [] = sym g.reads.parts ∙ e ∙ sym (append-nil (items_bytes js)) in
    elim (cases_order (length (drop at bytes)) 0) [
      | inl zero_len ↦
          let r = equally_long items js (drop at bytes) [] same zero_len in
          let here : Runs s items (between last) = subst (λ (w : List Item). Runs s w (between last)) (sym r.0) all in
          g.stuck.unfinished last r.1 (runs_same items s g.state (between last) g.reads.runs here)
      | inr (inl lt) ↦ absurd (omega arith)
      | inr (inr lt) ↦
          let r = longer items js (drop at bytes) [] same lt in
          let p = runs_split items (r.item ∷ r.more) s (between last) (subst (λ (w : List Item). Runs s w (between last)) r.items_are all) in
          let f = first_of_run r.item r.more p.0 (between last) p.2 in
          g.stuck.none r.item (items_bytes r.more ++ []) f.0 r.bytes_are (subst (λ (w : State). Runs w (r.item ∷ []) f.0) (runs_same items s p.0 g.state p.1 g.reads.runs) f.1)
    ]

pub stuck_is_fault : (bytes : List ℕ) (at : ℕ) → GetsStuck bytes 0 (between 0) at → IsFirstFault bytes at
stuck_is_fault bytes at g = record {
  items = g.reads.items;
  before = g.reads.parts;
  within = g.reads.within;
  begins = runs_begin g.reads.items g.state g.reads.runs;
  none = none_follows bytes at g.reads.items g.state g.reads.runs g.stuck;
  unfinished = λ ps are e. never_stuck bytes 0 at (between 0) (postings_items 0 ps) (last_id ps) e (postings_run 0 ps are) g;
}

-- ---- one first fault

begins_front : (items : List Item) (item : Item) (more : List Item) → BeginsList (items ++ item ∷ more) → BeginsList (items ++ item ∷ [])
begins_front items item more b =
    let regroup : items ++ item ∷ more ++ b.1 ≡ (items ++ item ∷ []) ++ (more ++ b.1)
    = append_assoc items (item ∷ more) b.1 ∙ sym (append_assoc items (item ∷ []) (more ++ b.1)) in
    (b.0, more ++ b.1, b.2, b.3 ∙ regroup)

not_before : (bytes : List ℕ) (a b : ℕ) → IsFirstFault bytes a → IsFirstFault bytes b → a < b → ⊥
not_before bytes a b f g lt =
    let shorter : length (drop b bytes) < length (drop a bytes) = omega (arith, length-drop a bytes, length-drop b bytes, g.within) in
    let r = longer f.items g.items (drop a bytes) (drop b bytes) (sym f.before ∙ g.before) shorter in
    f.none r.item (items_bytes r.more ++ drop b bytes) r.bytes_are (begins_front f.items r.item r.more (subst BeginsList r.items_are g.begins))

pub one_fault : (bytes : List ℕ) (a b : ℕ) → IsFirstFault bytes a → IsFirstFault bytes b → a ≡ b
one_fault bytes a b f g =
    elim (cases_order a b) [
      | inl e ↦ e
      | inr (inl lt) ↦ absurd (not_before bytes a b f g lt)
      | inr (inr lt) ↦ absurd (not_before bytes b a g f lt)
    ]
