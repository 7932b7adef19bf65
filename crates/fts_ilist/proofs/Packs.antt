-- Documents packed one after another.
use Rattle.std.proofs.Common.{◌≡◌, ◌≢◌, ℕ, ◌<◌, List, [], ◌∷◌, ◌++◌, All, Bool, true, false, if◌then◌else◌, length, refl, sym, ap, subst, ◌∙◌, append_assoc, arith, inl, inr}
use Rattle.std.specs.List.{AllByRecursion}
use Rattle.std.proofs.lemmas.List.{append-nil}
use Rattle.std.proofs.lemmas.List.Elements.{All-from_recursion}
use Rattle.std.proofs.lemmas.Grind.{flat_map-append}
use Rattle.fts_ilist.specs.Spelling.{Posting, PostingsAfter, last_id}
use Rattle.fts_ilist.specs.Packing.{has_place, packed_from, packed_within, packed, joined, IsPacking, PutsInto}
use Rattle.fts_ilist.proofs.Postings.{id_at_end-append}

-- the last document of all is that of the node that is begun
pub last_joined : (closed : List (List Posting)) (begun : List Posting) (id : ℕ) → IsPacking closed begun → last_id (joined closed ++ begun) < id → last_id begun < id
last_joined closed [] id p h = omega (arith, h, ap (λ (ns : List (List Posting)). last_id (joined ns ++ [])) (p.first refl))
last_joined closed (d ∷ ds) id p h = omega (arith, h, id_at_end-append 0 (joined closed) (d ∷ ds))

joined_one : (closed : List (List Posting)) (node : List Posting) → joined (closed ++ node ∷ []) ≡ joined closed ++ node
joined_one closed node = flat_map-append (λ docs. docs) closed (node ∷ []) ∙ ap (λ (w : List Posting). joined closed ++ w) (append-nil node)

-- one document more
pub record IsPut (closed : List (List Posting)) (begun : List Posting) (p : Posting) (closed' : List (List Posting)) (begun' : List Posting) : Type 0 where
  pub packing : IsPacking closed' begun'
  pub view : joined closed' ++ begun' ≡ (joined closed ++ begun) ++ p ∷ []

put_at : (closed : List (List Posting)) (begun : List Posting) (p : Posting) (closed' : List (List Posting)) (begun' : List Posting) (closed'' : List (List Posting)) (begun'' : List Posting)
    → closed' ≡ closed'' → begun' ≡ begun'' → IsPut closed begun p closed'' begun'' → IsPut closed begun p closed' begun'
put_at closed begun p closed' begun' closed'' begun'' e f h =
    subst (λ ns. IsPut closed begun p ns begun') (sym e) (subst (λ ds. IsPut closed begun p closed'' ds) (sym f) h)

put_first : (closed : List (List Posting)) (p : Posting) → IsPacking closed [] → IsPut closed [] p closed (p ∷ [])
put_first closed p k =
    let none : closed ≡ [] = k.first refl in
    subst (λ ns. IsPut ns [] p ns (p ∷ [])) (sym none) (record { packing = record { packs = λ rest. refl; first = λ e. refl }; view = refl })

cons_not_nil : (p : Posting) (ps : List Posting) → p ∷ ps ≡ [] → ⊥
cons_not_nil p ps e = absurd (omega (arith, ap length e))

put_within : (closed : List (List Posting)) (d : Posting) (ds : List Posting) (p : Posting) → IsPacking closed (d ∷ ds) → has_place 8192 (d ∷ ds) p ≡ true → IsPut closed (d ∷ ds) p closed ((d ∷ ds) ++ p ∷ [])
put_within closed d ds p k has =
    let view : joined closed ++ ((d ∷ ds) ++ p ∷ []) ≡ (joined closed ++ (d ∷ ds)) ++ p ∷ [] = sym (append_assoc (joined closed) (d ∷ ds) (p ∷ [])) in
    record {
      packing = record {
        packs = λ rest.
            ap (λ (w : List Posting). packed_within 8192 (w ++ rest)) view
            ∙ ap (packed_within 8192) (append_assoc (joined closed ++ (d ∷ ds)) (p ∷ []) rest)
            ∙ k.packs (p ∷ rest)
            ∙ ap (λ (b : Bool). closed ++ (if b then packed_from 8192 ((d ∷ ds) ++ p ∷ []) rest else (d ∷ ds) ∷ packed_from 8192 (p ∷ []) rest)) has;
        first = λ e. absurd (cons_not_nil d (ds ++ p ∷ []) e);
      };
      view = view;
    }

put_behind : (closed : List (List Posting)) (d : Posting) (ds : List Posting) (p : Posting) → IsPacking closed (d ∷ ds) → has_place 8192 (d ∷ ds) p ≡ false → IsPut closed (d ∷ ds) p (closed ++ (d ∷ ds) ∷ []) (p ∷ [])
put_behind closed d ds p k has =
    let view : joined (closed ++ (d ∷ ds) ∷ []) ++ p ∷ [] ≡ (joined closed ++ (d ∷ ds)) ++ p ∷ [] = ap (λ (w : List Posting). w ++ p ∷ []) (joined_one closed (d ∷ ds)) in
    record {
      packing = record {
        packs = λ rest.
            ap (λ (w : List Posting). packed_within 8192 (w ++ rest)) view
            ∙ ap (packed_within 8192) (append_assoc (joined closed ++ (d ∷ ds)) (p ∷ []) rest)
            ∙ k.packs (p ∷ rest)
            ∙ ap (λ (b : Bool). closed ++ (if b then packed_from 8192 ((d ∷ ds) ++ p ∷ []) rest else (d ∷ ds) ∷ packed_from 8192 (p ∷ []) rest)) has
            ∙ sym (append_assoc closed ((d ∷ ds) ∷ []) (packed_from 8192 (p ∷ []) rest));
        first = λ e. absurd (cons_not_nil p [] e);
      };
      view = view;
    }

pub put_packs : (closed : List (List Posting)) (begun : List Posting) (p : Posting) (closed' : List (List Posting)) (begun' : List Posting) → IsPacking closed begun → PutsInto closed begun p closed' begun' → IsPut closed begun p closed' begun'
put_packs closed [] p closed' begun' k h = put_at closed [] p closed' begun' closed (p ∷ []) h.0 h.1 (put_first closed p k)
put_packs closed (d ∷ ds) p closed' begun' k (inl h) = put_at closed (d ∷ ds) p closed' begun' closed ((d ∷ ds) ++ p ∷ []) h.1 h.2 (put_within closed d ds p k h.0)
put_packs closed (d ∷ ds) p closed' begun' k (inr h) = put_at closed (d ∷ ds) p closed' begun' (closed ++ (d ∷ ds) ∷ []) (p ∷ []) h.1 h.2 (put_behind closed d ds p k h.0)

-- the nodes at the end
pub packed_all : (closed : List (List Posting)) (begun : List Posting) → IsPacking closed begun → begun ≢ [] → packed (joined closed ++ begun) ≡ closed ++ begun ∷ []
packed_all closed [] k some = absurd (some refl)
packed_all closed (d ∷ ds) k some = ap packed (sym (append-nil (joined closed ++ (d ∷ ds)))) ∙ k.packs []

-- ---- packed documents are all there, in their order

joined_from : (limit : ℕ) (node ps : List Posting) → joined (packed_from limit node ps) ≡ node ++ ps
joined_from limit node [] = refl
joined_from limit node (p ∷ ps) = by (has_place limit node p) (joined_from limit (node ++ p ∷ []) ps) (joined_from limit (p ∷ []) ps)
  where
    by : (b : Bool) → joined (packed_from limit (node ++ p ∷ []) ps) ≡ (node ++ p ∷ []) ++ ps → joined (packed_from limit (p ∷ []) ps) ≡ p ∷ ps
        → joined (if b then packed_from limit (node ++ p ∷ []) ps else node ∷ packed_from limit (p ∷ []) ps) ≡ node ++ p ∷ ps
    by true more next = more ∙ append_assoc node (p ∷ []) ps
    by false more next = ap (λ (l : List Posting). node ++ l) next

pub joined_packed : (ps : List Posting) → joined (packed ps) ≡ ps
joined_packed [] = refl
joined_packed (p ∷ ps) = joined_from 8192 (p ∷ []) ps

-- ---- packed documents are no empty nodes

push_filled : (docs : List Posting) (p : Posting) → docs ++ p ∷ [] ≢ []
push_filled [] p e = absurd (omega (arith, ap length e))
push_filled (d ∷ docs) p e = absurd (omega (arith, ap length e))

filled_from : (limit : ℕ) (node ps : List Posting) → node ≢ [] → AllByRecursion (λ docs. docs ≢ []) (packed_from limit node ps)
filled_from limit node [] some = (some, tt)
filled_from limit node (p ∷ ps) some =
    by (has_place limit node p) (filled_from limit (node ++ p ∷ []) ps (push_filled node p)) (filled_from limit (p ∷ []) ps (λ e. push_filled [] p e))
  where
    by : (b : Bool) → AllByRecursion (λ docs. docs ≢ []) (packed_from limit (node ++ p ∷ []) ps) → AllByRecursion (λ docs. docs ≢ []) (packed_from limit (p ∷ []) ps)
        → AllByRecursion (λ docs. docs ≢ []) (if b then packed_from limit (node ++ p ∷ []) ps else node ∷ packed_from limit (p ∷ []) ps)
    by true more next = more
    by false more next = (some, next)

pub packed_filled : (ps : List Posting) → AllByRecursion (λ docs. docs ≢ []) (packed ps)
packed_filled [] = tt
packed_filled (p ∷ ps) = filled_from 8192 (p ∷ []) ps (λ e. push_filled [] p e)

-- no documents
pub packed_none : (closed : List (List Posting)) (begun : List Posting) → IsPacking closed begun → begun ≡ [] → packed (joined closed ++ begun) ≡ []
packed_none closed begun k none = ap (λ (ns : List (List Posting)). packed (joined ns ++ begun)) (k.first none) ∙ ap packed none

all_front : (front rest : List (List Posting)) → AllByRecursion (λ docs. docs ≢ []) (front ++ rest) → AllByRecursion (λ docs. docs ≢ []) front
all_front [] rest h = tt
all_front (n ∷ front) rest h = (h.0, all_front front rest h.1)

-- the closed nodes are none without documents
pub closed_filled : (closed : List (List Posting)) (begun : List Posting) → IsPacking closed begun → begun ≢ [] → All (λ (docs : List Posting). docs ≢ []) closed
closed_filled closed begun k some =
    All-from_recursion (λ (docs : List Posting). docs ≢ []) closed (all_front closed (begun ∷ []) (subst (AllByRecursion (λ (docs : List Posting). docs ≢ [])) (packed_all closed begun k some) (packed_filled (joined closed ++ begun))))

-- documents taken from the front, one after another
pub record IsPacked (done rest docs : List Posting) : Type 0 where
  pub all : done ++ rest ≡ docs
  pub after : PostingsAfter (last_id done) rest

pub packs_on : (done rest docs : List Posting) (d : Posting) (left new : List Posting) → done ++ rest ≡ docs → PostingsAfter (last_id done) rest → rest ≡ d ∷ left → new ≡ done ++ d ∷ [] → IsPacked new left docs
packs_on done rest docs d left new all after steps e =
    let h : PostingsAfter (last_id done) (d ∷ left) = subst (PostingsAfter (last_id done)) steps after in
    let last : last_id new ≡ d.id = ap last_id e ∙ id_at_end-append 0 done (d ∷ []) in
    record {
      all = ap (λ (w : List Posting). w ++ left) e ∙ append_assoc done (d ∷ []) left ∙ ap (λ (w : List Posting). done ++ w) (sym steps) ∙ all;
      after = subst (λ (w : ℕ). PostingsAfter w left) (sym last) h.3;
    }
