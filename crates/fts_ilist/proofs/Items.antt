-- Items, and reading them back.
use Rattle.std.proofs.Common.{◌≡◌, ℕ, ◌<◌, List, [], ◌∷◌, ◌++◌, length, refl, sym, ap, ◌∙◌, append_assoc, arith}
use Rattle.std.proofs.lemmas.List.{append_cancel_left}
use Rattle.std.proofs.lemmas.Grind.{flat_map-append}
use Rattle.fts_ilist.specs.Spelling.{Item, item_bytes, items_bytes}
use Rattle.fts_ilist.specs.Spelling.Item.{increase, document_end}
use Rattle.fts_ilist.specs.Reading.{items_after}
use Rattle.fts_ilist.proofs.Groups.{reads_number, reads_end, length_number}

pub reads_item : (item : Item) (rest : List ℕ) → items_after 0 (item_bytes item ++ rest) ≡ item ∷ items_after 0 rest
reads_item (increase n) rest = reads_number n rest
reads_item document_end rest = reads_end rest

pub bytes_cons : (item : Item) (items : List Item) (rest : List ℕ) → items_bytes (item ∷ items) ++ rest ≡ item_bytes item ++ (items_bytes items ++ rest)
bytes_cons item items rest = append_assoc (item_bytes item) (items_bytes items) rest

pub bytes_append : (a b : List Item) (rest : List ℕ) → items_bytes (a ++ b) ++ rest ≡ items_bytes a ++ (items_bytes b ++ rest)
bytes_append a b rest = ap (λ (w : List ℕ). w ++ rest) (flat_map-append item_bytes a b) ∙ append_assoc (items_bytes a) (items_bytes b) rest

pub reads_items : (items : List Item) (rest : List ℕ) → items_after 0 (items_bytes items ++ rest) ≡ items ++ items_after 0 rest
reads_items [] rest = refl
reads_items (item ∷ items) rest =
    ap (items_after 0) (bytes_cons item items rest)
    ∙ reads_item item (items_bytes items ++ rest)
    ∙ ap (λ (w : List Item). item ∷ w) (reads_items items rest)

heads_same : (i j : Item) (is js : List Item) → i ∷ is ≡ j ∷ js → i ≡ j
heads_same i j is js e = cc

-- what stands at a place is at most one item
pub item_first : (i j : Item) (x y : List ℕ) → item_bytes i ++ x ≡ item_bytes j ++ y → (i ≡ j) × (x ≡ y)
item_first i j x y e =
    let same : i ≡ j = heads_same i j (items_after 0 x) (items_after 0 y) (sym (reads_item i x) ∙ ap (items_after 0) e ∙ reads_item j y) in
    (same, append_cancel_left (item_bytes i) x y (e ∙ ap (λ (w : Item). item_bytes w ++ y) (sym same)))

pub item_positive : (item : Item) → 0 < length (item_bytes item)
item_positive (increase n) = omega (arith, length_number n)
item_positive document_end = omega arith
