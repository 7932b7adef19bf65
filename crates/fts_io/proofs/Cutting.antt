use Rattle.std.proofs.Common.{◌≡◌, ◌≢◌, ℕ, zero, suc, ◌+◌, ◌-◌, ◌<◌, ◌≤◌, List, [], ◌∷◌, ◌++◌, length, map, get_or, take, drop, refl, sym, ◌∙◌, ap, append_assoc, append-nil, length-append, inl, inr, arith}
use Rattle.std.proofs.Common.{Some, None, min, Bool, true, false}
use Rattle.std.specs.Prelude.{cond, nat_eq}
use Rattle.std.proofs.Math.Seq.{take-append-add, drop-length}
use Rattle.std.proofs.lemmas.Bool.{cases_lt, eqb-true, eq-eqb}
use Rattle.std.proofs.lemmas.List.{take_all, take_min, length-take-le}
use Rattle.memchr.specs.Find.{IsFirstByte, Passes, is_byte}
use Rattle.std.proofs.lemmas.Grind.{common_steps}
use Rattle.fts_io.specs.Text.{too_long, onto, cut, sorted, lines_of, feeds}
use Rattle.fts_io.specs.Reading.{glue, lines_from}

-- bytes before the first line are put before what stands before it
pub onto-onto : (a b : List ℕ) (lines : List (List ℕ)) → onto a (onto b lines) ≡ onto (a ++ b) lines
onto-onto a b [] = refl
onto-onto a b (line ∷ lines) = ap (λ l. l ∷ lines) (sym (append_assoc a b line))

pub glue-glue : (a b : List ℕ) (lines : List (List ℕ)) → glue a (glue b lines) ≡ glue (a ++ b) lines
glue-glue [] b lines = refl
glue-glue (x ∷ a) [] lines = ap (λ l. glue l lines) (sym (append-nil (x ∷ a)))
glue-glue (x ∷ a) (y ∷ b) lines = onto-onto (x ∷ a) (y ∷ b) lines

pub glue-cons : (a line : List ℕ) (lines : List (List ℕ)) → glue a (line ∷ lines) ≡ (a ++ line) ∷ lines
glue-cons [] line lines = refl
glue-cons (x ∷ a) line lines = refl

pub onto-glue : (b : ℕ) (text : List ℕ) (lines : List (List ℕ)) → onto (b ∷ []) (glue text lines) ≡ glue (b ∷ text) lines
onto-glue b [] lines = refl
onto-glue b (x ∷ text) lines = onto-onto (b ∷ []) (x ∷ text) lines

-- no byte before this place is an LF
abbrev pub NoneBelow : List ℕ → ℕ → Type 0
NoneBelow text at = (k : ℕ) → k < at → get_or text k 0 ≢ 10

pub cut-other : (b : ℕ) (text : List ℕ) → b ≢ 10 → cut (b ∷ text) ≡ onto (b ∷ []) (cut text)
cut-other b text h = grind (arith, common_steps)

pub cut-feed : (b : ℕ) (text : List ℕ) → b ≡ 10 → cut (b ∷ text) ≡ [] ∷ cut text
cut-feed b text h = grind (arith, common_steps)

-- a text with an LF begins with the line before it
pub cut-found : (at : ℕ) (text left : List ℕ) → at < length text → NoneBelow text at → get_or text at 0 ≡ 10
    → cut (text ++ left) ≡ take at text ∷ cut (drop (suc at) text ++ left)
cut-found at [] left h before is = absurd (omega arith)
cut-found zero (b ∷ text) left h before is = cut-feed b (text ++ left) is
cut-found (suc at) (b ∷ text) left h before is =
    let later : cut (text ++ left) ≡ take at text ∷ cut (drop (suc at) text ++ left) =
    cut-found at text left (omega arith) (λ k below. before (suc k) (omega arith)) is in
    cut-other b (text ++ left) (before 0 (omega arith)) ∙ ap (onto (b ∷ [])) later

-- bytes without an LF belong to the first line of what follows
pub cut-none : (text left : List ℕ) → NoneBelow text (length text) → cut (text ++ left) ≡ glue text (cut left)
cut-none [] left before = refl
cut-none (b ∷ text) left before =
    cut-other b (text ++ left) (before 0 (omega arith))
    ∙ ap (onto (b ∷ [])) (cut-none text left (λ k below. before (suc k) (omega arith)))
    ∙ onto-glue b text (cut left)

-- its LF is one of those of the text, and bytes without an LF have none
pub feeds-other : (b : ℕ) (text : List ℕ) → b ≢ 10 → feeds (b ∷ text) ≡ feeds text
feeds-other b text h = grind (arith, common_steps)

pub feeds-feed : (b : ℕ) (text : List ℕ) → b ≡ 10 → feeds (b ∷ text) ≡ feeds text + 1
feeds-feed b text h = grind (arith, common_steps)

pub feeds-found : (at : ℕ) (text left : List ℕ) → at < length text → NoneBelow text at → get_or text at 0 ≡ 10
    → feeds (text ++ left) ≡ feeds (drop (suc at) text ++ left) + 1
feeds-found at [] left h before is = absurd (omega arith)
feeds-found zero (b ∷ text) left h before is = feeds-feed b (text ++ left) is
feeds-found (suc at) (b ∷ text) left h before is =
    feeds-other b (text ++ left) (before 0 (omega arith))
    ∙ feeds-found at text left (omega arith) (λ k below. before (suc k) (omega arith)) is

pub feeds-none : (text left : List ℕ) → NoneBelow text (length text) → feeds (text ++ left) ≡ feeds left
feeds-none [] left before = refl
feeds-none (b ∷ text) left before =
    feeds-other b (text ++ left) (before 0 (omega arith)) ∙ feeds-none text left (λ k below. before (suc k) (omega arith))

-- a line that is too long stays so, whatever is kept of it
pub sorted-long : (line : List ℕ) → 1048576 < length line → sorted line ≡ too_long
sorted-long line h = grind (arith, common_steps)

pub glue-long : (begun : List ℕ) (lines : List (List ℕ)) → 1048576 < length begun
    → map sorted (glue begun lines) ≡ too_long ∷ map sorted (drop 1 lines)
glue-long [] lines h = absurd (omega arith)
glue-long (x ∷ begun) [] h = ap (λ l. l ∷ []) (sorted-long (x ∷ begun) h)
glue-long (x ∷ begun) (line ∷ lines) h =
    let longer : length ((x ∷ begun) ++ line) ≡ length (x ∷ begun) + length line = length-append (x ∷ begun) line in
    ap (λ l. l ∷ map sorted lines) (sorted-long ((x ∷ begun) ++ line) (omega (arith, longer)))

pub glue-capped : (begun : List ℕ) (lines : List (List ℕ))
    → map sorted (glue (take 1048577 begun) lines) ≡ map sorted (glue begun lines)
glue-capped begun lines =
    elim (cases_lt 1048577 (length begun)) [
      | inr short ↦ ap (λ l. map sorted (glue l lines)) (take_all 1048577 begun short)
      | inl long ↦
          let kept : length (take 1048577 begun) ≡ 1048577 = length-take-le 1048577 begun (omega arith) in
          glue-long (take 1048577 begun) lines (omega (arith, kept)) ∙ sym (glue-long begun lines (omega arith))
    ]

pub sorted-capped : (line : List ℕ) → sorted (take 1048577 line) ≡ sorted line
sorted-capped line =
    elim (cases_lt 1048577 (length line)) [
      | inr short ↦ ap sorted (take_all 1048577 line short)
      | inl long ↦
          let kept : length (take 1048577 line) ≡ 1048577 = length-take-le 1048577 line (omega arith) in
          sorted-long (take 1048577 line) (omega (arith, kept)) ∙ sym (sorted-long line (omega arith))
    ]

-- a piece cut to the room behind a line, or the two together cut to the limit
pub append-take : (limit count : ℕ) (line piece : List ℕ) → length line ≤ limit → count ≡ min (length piece) (limit - length line)
    → line ++ take count piece ≡ take limit (line ++ piece)
append-take limit count line piece h is =
    let all : length line + (limit - length line) ≡ limit = omega arith in
    let split : take (length line + (limit - length line)) (line ++ piece) ≡ line ++ take (limit - length line) piece =
    take-append-add line piece (limit - length line) in
    let least : count ≡ min (limit - length line) (length piece) = omega arith in
    ap (λ n. line ++ take n piece) least
    ∙ ap (λ l. line ++ l) (take_min (limit - length line) piece)
    ∙ sym split
    ∙ ap (λ n. take n (line ++ piece)) all

-- a line made whole by a piece of the bytes that are unread
pub lines_from-found : (at : ℕ) (line unread left : List ℕ) → at < length unread → NoneBelow unread at → get_or unread at 0 ≡ 10
    → lines_from line (unread ++ left) ≡ sorted (take 1048577 (line ++ take at unread)) ∷ lines_of (drop (suc at) unread ++ left)
lines_from-found at line unread left h before is =
    ap (λ l. map sorted (glue line l)) (cut-found at unread left h before is)
    ∙ ap (map sorted) (glue-cons line (take at unread) (cut (drop (suc at) unread ++ left)))
    ∙ ap (λ l. l ∷ lines_of (drop (suc at) unread ++ left)) (sym (sorted-capped (line ++ take at unread)))

-- a line that goes on with all the bytes that are unread
pub lines_from-none : (line unread left : List ℕ) → NoneBelow unread (length unread)
    → lines_from (take 1048577 (line ++ unread)) left ≡ lines_from line (unread ++ left)
lines_from-none line unread left before =
    glue-capped (line ++ unread) (cut left)
    ∙ ap (map sorted) (sym (glue-glue line unread (cut left)))
    ∙ ap (λ l. map sorted (glue line l)) (sym (cut-none unread left before))

pub not_feed : (text : List ℕ) (at : ℕ) → ((k : ℕ) → 0 ≤ k → k < at → Passes (is_byte 10) text k → ⊥) → NoneBelow text at
not_feed text at before k below is = before k (omega arith) below (eq-eqb (get_or text k 0) 10 is)

-- the first LF of the bytes that are unread makes the line whole
pub moves-found : (at : ℕ) (line unread buffer line' rest left : List ℕ) → unread ≡ buffer → IsFirstByte (is_byte 10) unread (Some at)
    → line' ≡ take 1048577 (line ++ take at unread) → rest ≡ drop (at + 1) buffer
    → (lines_from line (buffer ++ left) ≡ sorted line' ∷ lines_of (rest ++ left)) × (feeds (buffer ++ left) ≡ feeds (rest ++ left) + 1)
moves-found at line unread buffer line' rest left same first is gone =
    let one : at + 1 ≡ suc at = omega arith in
    let goes : drop (suc at) unread ≡ rest = ap (drop (suc at)) same ∙ sym (gone ∙ ap (λ n. drop n buffer) one) in
    let none = not_feed unread at first.0.before in
    let feed = eqb-true (get_or unread at 0) 10 first.1 in (
      ap (λ l. lines_from line (l ++ left)) (sym same)
          ∙ lines_from-found at line unread left first.0.high none feed
          ∙ ap (λ l. sorted l ∷ lines_of (drop (suc at) unread ++ left)) (sym is)
          ∙ ap (λ l. sorted line' ∷ lines_of (l ++ left)) goes,
      ap (λ l. feeds (l ++ left)) (sym same) ∙ feeds-found at unread left first.0.high none feed ∙ ap (λ l. feeds (l ++ left) + 1) goes,
    )

-- where there is no LF, all of them belong to the line begun
pub moves-none : (line unread buffer line' rest left : List ℕ) → unread ≡ buffer → IsFirstByte (is_byte 10) unread None
    → line' ≡ take 1048577 (line ++ unread) → rest ≡ drop (length unread) buffer
    → (lines_from line' (rest ++ left) ≡ lines_from line (buffer ++ left)) × (rest ≡ []) × (feeds (buffer ++ left) ≡ feeds (rest ++ left))
moves-none line unread buffer line' rest left same none is gone =
    let empty : rest ≡ [] = gone ∙ ap (drop (length unread)) (sym same) ∙ drop-length unread in (
      ap (λ l. lines_from line' (l ++ left)) empty
          ∙ ap (λ l. lines_from l left) is
          ∙ lines_from-none line unread left (not_feed unread (length unread) none)
          ∙ ap (λ l. lines_from line (l ++ left)) same,
      empty,
      ap (λ l. feeds (l ++ left)) (sym same)
          ∙ feeds-none unread left (not_feed unread (length unread) none)
          ∙ ap (λ l. feeds (l ++ left)) (sym empty),
    )

-- ---- where there is a byte, there is a line

onto-some : (front : List ℕ) (lines : List (List ℕ)) → onto front lines ≡ [] → ⊥
onto-some front [] is = cc
onto-some front (line ∷ lines) is = cc

cut-some : (b : ℕ) (text : List ℕ) → cut (b ∷ text) ≡ [] → ⊥
cut-some b text is = by_byte (nat_eq b 10) is
  where
    by_byte : (feed : Bool) → cond feed ([] ∷ cut text) (onto (b ∷ []) (cut text)) ≡ [] → ⊥
    by_byte true is' = cc
    by_byte false is' = onto-some (b ∷ []) (cut text) is'

glue-some : (begun : List ℕ) (lines : List (List ℕ)) → (lines ≡ [] → ⊥) → glue begun lines ≡ [] → ⊥
glue-some [] lines some is = some is
glue-some (x ∷ begun) lines some is = onto-some (x ∷ begun) lines is

sorted-some : (lines : List (List ℕ)) → (lines ≡ [] → ⊥) → map sorted lines ≡ [] → ⊥
sorted-some [] some is = some refl
sorted-some (line ∷ lines) some is = cc

-- bytes that are unread are of a line that is ahead
pub lines_from-some : (line buffer left : List ℕ) → 0 < length buffer → lines_from line (buffer ++ left) ≡ [] → ⊥
lines_from-some line [] left h is = omega arith
lines_from-some line (b ∷ buffer) left h is =
    sorted-some (glue line (cut (b ∷ (buffer ++ left)))) (glue-some line (cut (b ∷ (buffer ++ left))) (cut-some b (buffer ++ left))) is
