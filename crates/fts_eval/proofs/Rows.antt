-- The texts of rows, by ascending ids.
use Rattle.std.proofs.Common.{◌≡◌, ℕ, ◌+◌, ◌<◌, ◌≤◌, Bool, ◌&&◌, List, [], ◌∷◌, filter, length, map, take, get_or, refl, sym, ap, ◌∙◌, arith}
use Rattle.std.proofs.lemmas.Bool.{ne_eqb}
use Rattle.std.proofs.lemmas.List.{take_all}
use Rattle.fts_ids.specs.Ids.{has, AscendFrom}
use Rattle.fts_ids.proofs.Ascending.{AscendFrom-sooner, has-filter}
use Rattle.fts_ids.proofs.Passing.{at_rises}
use Rattle.fts_query.specs.declared.view.Candidate.{Candidate as Kept}
use Rattle.fts_query.specs.Seen.{candidate_seen}
use Rattle.fts_eval.specs.Says.{docs_of}
use Rattle.fts_ids.proofs.Taken.{and_comm}
use Rattle.fts_meaning.specs.View.{texts_at}

pub texts_skip : (c : Kept) (cs : List Kept) (id : ℕ) → (c.doc ≡ id → ⊥) → texts_at (map candidate_seen (c ∷ cs)) id ≡ texts_at (map candidate_seen cs) id
texts_skip c cs id ne = rw (ne_eqb id c.doc (λ e. ne (sym e))) refl

pub texts_none : (cs : List Kept) (n id : ℕ) → AscendFrom n (docs_of cs) → id < n → texts_at (map candidate_seen cs) id ≡ []
texts_none [] n id up lt = refl
texts_none (c ∷ cs) n id up lt =
    let above = up.0 in
    texts_skip c cs id (λ e. omega (arith, e, above, lt)) ∙ texts_none cs (c.doc + 1) id up.1 (omega (arith, above, lt))

-- the rows that are left have the same texts for an id and those above it
pub record IsPast (id : ℕ) (rows rest : List Kept) : Type 0 where
  pub ascend : AscendFrom 0 (docs_of rest)
  pub kept : (later : ℕ) → id ≤ later → texts_at (map candidate_seen rest) later ≡ texts_at (map candidate_seen rows) later

pub past_first : (id : ℕ) (rows : List Kept) → AscendFrom 0 (docs_of rows) → IsPast id rows rows
past_first id rows up = record { ascend = up; kept = λ later le. refl }

pub past_more : (id : ℕ) (rows : List Kept) (c : Kept) (cs : List Kept) → c.doc < id → IsPast id rows (c ∷ cs) → IsPast id rows cs
past_more id rows c cs less p = record {
  ascend = AscendFrom-sooner (c.doc + 1) 0 (docs_of cs) p.ascend.1 (omega arith);
  kept = λ later le. sym (texts_skip c cs later (λ e. omega (arith, e, less, le))) ∙ p.kept later le;
}

-- the row with an id is the first or none, where none is below it
pub texts_absent : (rows : List Kept) (id : ℕ) → AscendFrom 0 (docs_of rows) → (0 < length rows → id ≤ get_or (docs_of rows) 0 0) → (0 < length rows → get_or (docs_of rows) 0 0 ≡ id → ⊥) → [] ≡ texts_at (map candidate_seen rows) id
texts_absent [] id up first ne = refl
texts_absent (c ∷ cs) id up first ne =
    let le : id ≤ c.doc = first (omega arith) in
    sym (texts_skip c cs id (ne (omega arith)) ∙ texts_none cs (c.doc + 1) id up.1 (omega (arith, le)))

-- ---- a walk beside ids

-- the rows that are left tell the texts of the ids from a place on
abbrev pub TellTexts : List Kept → List Kept → List ℕ → ℕ → Type 0
TellTexts rest rows ids at = (k : ℕ) → at ≤ k → k < length ids → texts_at (map candidate_seen rest) (get_or ids k 0) ≡ texts_at (map candidate_seen rows) (get_or ids k 0)

pub tell_on : (rest rest' rows : List Kept) (ids : List ℕ) (at : ℕ) → AscendFrom 0 ids → TellTexts rest rows ids at
    → ((later : ℕ) → get_or ids at 0 ≤ later → texts_at (map candidate_seen rest') later ≡ texts_at (map candidate_seen rest) later) → at < length ids
    → TellTexts rest' rows ids at
tell_on rest rest' rows ids at up tells later within k le lt = later (get_or ids k 0) (at_rises ids at k up le lt) ∙ tells k le lt

pub tell_sooner : (rest rows : List Kept) (ids : List ℕ) (at : ℕ) → TellTexts rest rows ids at → TellTexts rest rows ids (at + 1)
tell_sooner rest rows ids at tells k le lt = tells k (omega (arith, le)) lt

-- what was chosen of a list of ids
pub chosen_has : (test : ℕ → Bool) (ids xs items list : List ℕ) → xs ≡ ids → items ≡ filter test xs → list ≡ items → (id : ℕ) → has list id ≡ (has ids id && test id)
chosen_has test ids xs items list e f l id = ap (λ (ys : List ℕ). has ys id) (l ∙ f) ∙ has-filter test xs id ∙ ap (λ (ys : List ℕ). test id && has ys id) e ∙ and_comm (test id) (has ids id)

pub chosen_has_all : (test : ℕ → Bool) (ids xs items list : List ℕ) (i : ℕ) → xs ≡ ids → length xs ≤ i → items ≡ filter test (take i xs) → list ≡ items → (id : ℕ) → has list id ≡ (has ids id && test id)
chosen_has_all test ids xs items list i e past f l = chosen_has test ids xs items list e (f ∙ ap (filter test) (take_all i xs past)) l

-- the id of the first row
pub first_at : (rows : List Kept) (d : Kept) → 0 < length rows → (get_or rows 0 d).doc ≡ get_or (docs_of rows) 0 0
first_at [] d some = absurd (omega (arith, some))
first_at (c ∷ cs) d some = refl
