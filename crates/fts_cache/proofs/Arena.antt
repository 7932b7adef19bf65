-- The words of a document in its arena.
use Rattle.std.proofs.Common.{◌≡◌, ℕ, ◌+◌, ◌-◌, ◌*◌, ◌<◌, ◌≤◌, zero, suc, List, [], ◌∷◌, ◌++◌, length, take, drop, get_or, slice_get, slice_index_or, slice_range, Some, subst, refl, sym, ap, ◌∙◌, arith}
use Rattle.std.proofs.lemmas.List.{take-append-le, drop-append-le, length-append, length-drop, take_all, drop_at, get_or_read}
use Rattle.fts_cache.specs.declared.document.WordEnd.{WordEnd}
use Rattle.fts_cache.specs.Document.{WordPositions, Document, CanPush}
use Rattle.fts_cache.specs.Arena.{no_end, end_before, words_in, AreEnds, document_in, IsArena}
use Rattle.fts_cache.proofs.Documents.{document_push}

pub range_stays : {X : Type 0} (xs ys : List X) (a b : ℕ) → a ≤ b → b ≤ length xs → slice_range (xs ++ ys) a b ≡ slice_range xs a b
range_stays xs ys a b le within =
    ap (take (b - a)) (drop-append-le a xs ys (omega (arith, le, within)))
    ∙ take-append-le (b - a) (drop a xs) ys (omega (arith, length-drop a xs, within))

pub range_last : {X : Type 0} (xs ys : List X) (a b : ℕ) → a ≡ length xs → b ≡ length xs + length ys → slice_range (xs ++ ys) a b ≡ ys
range_last xs ys a b e f =
    ap (take (b - a)) (drop_at xs ys a (sym e)) ∙ take_all (b - a) ys (omega (arith, e, f))

-- the ends lie within
pub ends_within : (before : WordEnd) (es : List WordEnd) (bytes positions : List ℕ) → AreEnds before es bytes positions → (before.word ≤ length bytes) × (before.positions ≤ length positions)
ends_within before [] bytes positions h = (omega (arith, h.0), omega (arith, h.1))
ends_within before (e ∷ es) bytes positions h =
    let rest = ends_within e es bytes positions h.2 in
    (omega (arith, h.0, rest.0), omega (arith, h.1, rest.1))

pub words_more : (before : WordEnd) (es : List WordEnd) (end : WordEnd) (bytes positions word more : List ℕ) → AreEnds before es bytes positions → end.word ≡ length bytes + length word → end.positions ≡ length positions + length more
    → words_in before (es ++ end ∷ []) (bytes ++ word) (positions ++ more) ≡ words_in before es bytes positions ++ record { word = word; positions = more } ∷ []
words_more before [] end bytes positions word more h e f =
    ap (λ (w : List ℕ). let v : WordPositions = record { word = w; positions = slice_range (positions ++ more) before.positions end.positions } in v ∷ []) (range_last bytes word before.word end.word h.0 e)
    ∙ ap (λ (p : List ℕ). let v : WordPositions = record { word = word; positions = p } in v ∷ []) (range_last positions more before.positions end.positions h.1 f)
words_more before (x ∷ es) end bytes positions word more h e f =
    let within = ends_within x es bytes positions h.2 in
    let rest = words_in x (es ++ end ∷ []) (bytes ++ word) (positions ++ more) in
    ap (λ (w : List ℕ). let v : WordPositions = record { word = w; positions = slice_range (positions ++ more) before.positions x.positions } in v ∷ rest) (range_stays bytes word before.word x.word h.0 within.0)
    ∙ ap (λ (p : List ℕ). let v : WordPositions = record { word = slice_range bytes before.word x.word; positions = p } in v ∷ rest) (range_stays positions more before.positions x.positions h.1 within.1)
    ∙ ap (λ (ws : List WordPositions). let v : WordPositions = record { word = slice_range bytes before.word x.word; positions = slice_range positions before.positions x.positions } in v ∷ ws) (words_more x es end bytes positions word more h.2 e f)

pub ends_more : (before : WordEnd) (es : List WordEnd) (end : WordEnd) (bytes positions word more : List ℕ) → AreEnds before es bytes positions → end.word ≡ length bytes + length word → end.positions ≡ length positions + length more
    → AreEnds before (es ++ end ∷ []) (bytes ++ word) (positions ++ more)
ends_more before [] end bytes positions word more h e f =
    (omega (arith, h.0, e), omega (arith, h.1, f), (omega (arith, e, length-append bytes word), omega (arith, f, length-append positions more)))
ends_more before (x ∷ es) end bytes positions word more h e f = (h.0, h.1, ends_more x es end bytes positions word more h.2 e f)

pub words_length : (before : WordEnd) (es : List WordEnd) (bytes positions : List ℕ) → length (words_in before es bytes positions) ≡ length es
words_length before [] bytes positions = refl
words_length before (e ∷ es) bytes positions = ap suc (words_length e es bytes positions)

-- the word at a place: its ends are in order and within, and it is what lies between them
pub record IsWordAt (start end : WordEnd) (bytes positions : List ℕ) (at : WordPositions → Type 0) : Type 0 where
  pub word_order : start.word ≤ end.word
  pub word_within : end.word ≤ length bytes
  pub positions_order : start.positions ≤ end.positions
  pub positions_within : end.positions ≤ length positions
  pub is : at (record { word = slice_range bytes start.word end.word; positions = slice_range positions start.positions end.positions })

pub word_between : (before : WordEnd) (es : List WordEnd) (bytes positions : List ℕ) (i : ℕ) → AreEnds before es bytes positions → i < length es
    → IsWordAt (end_before before es i) (get_or es i no_end) bytes positions (λ (w : WordPositions). slice_get (words_in before es bytes positions) i ≡ Some w)
word_between before [] bytes positions i h lt = absurd (omega (arith, lt))
word_between before (e ∷ es) bytes positions zero h lt =
    let within = ends_within e es bytes positions h.2 in
    record { word_order = h.0; word_within = within.0; positions_order = h.1; positions_within = within.1; is = refl }
word_between before (e ∷ es) bytes positions (suc zero) h lt = word_between e es bytes positions zero h.2 (omega (arith, lt))
word_between before (e ∷ es) bytes positions (suc (suc i)) h lt = word_between e es bytes positions (suc i) h.2 (omega (arith, lt))

pub word_here : (es : List WordEnd) (bytes positions : List ℕ) (i : ℕ) (start end : WordEnd) → AreEnds no_end es bytes positions → i < length (words_in no_end es bytes positions) → start ≡ end_before no_end es i → end ≡ slice_index_or es i end
    → IsWordAt start end bytes positions (λ (w : WordPositions). slice_get (words_in no_end es bytes positions) i ≡ Some w)
word_here es bytes positions i start end h lt first last =
    let within : i < length es = omega (arith, lt, words_length no_end es bytes positions) in
    let at : end ≡ get_or es i no_end = get_or_read es i end within last no_end in
    subst (λ (s : WordEnd). IsWordAt s end bytes positions (λ (w : WordPositions). slice_get (words_in no_end es bytes positions) i ≡ Some w)) (sym first)
    (subst (λ (e : WordEnd). IsWordAt (end_before no_end es i) e bytes positions (λ (w : WordPositions). slice_get (words_in no_end es bytes positions) i ≡ Some w)) (sym at) (word_between no_end es bytes positions i h within))

pub record IsArenaOf (id size : ℕ) (ends : List WordEnd) (bytes positions : List ℕ) (d : Document) : Type 0 where
  pub is_arena : IsArena id size ends bytes positions
  pub view : document_in id ends bytes positions ≡ d

pub arena_more : (id size : ℕ) (ends : List WordEnd) (bytes positions : List ℕ) (d : Document) (end : WordEnd) (word more : List ℕ) (new_ends : List WordEnd) (new_bytes new_positions : List ℕ) (new_size : ℕ)
    → IsArena id size ends bytes positions → document_in id ends bytes positions ≡ d → CanPush d word more → end.word ≡ length bytes + length word → end.positions ≡ length positions + length more
    → new_ends ≡ ends ++ end ∷ [] → new_bytes ≡ bytes ++ word → new_positions ≡ positions ++ more → new_size ≡ size + length more * (length word + 8)
    → IsArenaOf id new_size new_ends new_bytes new_positions (record d { words = d.words ++ record { word = word; positions = more } ∷ [] })
arena_more id size ends bytes positions d end word more new_ends new_bytes new_positions new_size a view can at next e f g sum =
    let w : WordPositions = record { word = word; positions = more } in
    let words : words_in no_end new_ends new_bytes new_positions ≡ words_in no_end ends bytes positions ++ w ∷ []
    = ap (λ (es : List WordEnd). words_in no_end es new_bytes new_positions) e
    ∙ ap (λ (bs : List ℕ). words_in no_end (ends ++ end ∷ []) bs new_positions) f
    ∙ ap (λ (ps : List ℕ). words_in no_end (ends ++ end ∷ []) (bytes ++ word) ps) g
    ∙ words_more no_end ends end bytes positions word more a.are_ends at next in
    let r = document_push id (words_in no_end ends bytes positions) w size d (words_in no_end new_ends new_bytes new_positions) (a.is_document, a.size_is, view) can.above can.are_positions can.small words in
    record {
      is_arena = record {
        is_document = r.0;
        size_is = sum ∙ r.1;
        are_ends = subst (λ (es : List WordEnd). AreEnds no_end es new_bytes new_positions) (sym e)
            (subst (λ (bs : List ℕ). AreEnds no_end (ends ++ end ∷ []) bs new_positions) (sym f)
            (subst (λ (ps : List ℕ). AreEnds no_end (ends ++ end ∷ []) (bytes ++ word) ps) (sym g) (ends_more no_end ends end bytes positions word more a.are_ends at next)));
      };
      view = ap (λ (ws : List WordPositions). let x : Document = record { id = id; words = ws } in x) words
          ∙ ap (λ (x : Document). let y : Document = record x { words = x.words ++ w ∷ [] } in y) view;
    }
