-- The cached documents by their ids.
use Rattle.std.proofs.Common.{◌≡◌, ℕ, ◌+◌, ◌<◌, ◌≤◌, Bool, cond, List, [], ◌∷◌, ◌++◌, sum_by, refl, sym, ap, subst, ◌∙◌, arith, inl, inr}
use Rattle.std.proofs.lemmas.Bool.{cases_lt, lt-ltb, le-ltb}
use Rattle.std.proofs.lemmas.List.Sums.{sum_by-cons}
use Rattle.fts_cache.specs.Cache.{CachedDocument, cached_behind, Ids, IdsAscend, BeginsAbove}

pub ids_from : (low less last : ℕ) (ds : List CachedDocument) → less ≤ low → Ids low last ds → Ids less last ds
ids_from low less last [] le h = omega (arith, h)
ids_from low less last (d ∷ ds) le h = (omega (arith, h.0), h.1)

pub ids_to : (low last more : ℕ) (ds : List CachedDocument) → last ≤ more → Ids low last ds → Ids low more ds
ids_to low last more [] le h = omega (arith, h)
ids_to low last more (d ∷ ds) le h = (h.0, ids_to d.id last more ds le h.1)

pub ids_push : (low last : ℕ) (ds : List CachedDocument) (d : CachedDocument) → Ids low last ds → last < d.id → Ids low d.id (ds ++ d ∷ [])
ids_push low last [] d h lt = (omega (arith, h), omega arith)
ids_push low last (e ∷ es) d h lt = (h.0, ids_push e.id last es d h.1 lt)

first_stays : (doc : ℕ) (d : CachedDocument) (ds : List CachedDocument) → doc < d.id → cached_behind doc (d ∷ ds) ≡ d ∷ cached_behind doc ds
first_stays doc d ds lt = ap (λ (b : Bool). cond b (d ∷ cached_behind doc ds) (cached_behind doc ds)) (lt-ltb doc d.id lt)

first_goes : (doc : ℕ) (d : CachedDocument) (ds : List CachedDocument) → d.id ≤ doc → cached_behind doc (d ∷ ds) ≡ cached_behind doc ds
first_goes doc d ds le = ap (λ (b : Bool). cond b (d ∷ cached_behind doc ds) (cached_behind doc ds)) (le-ltb doc d.id le)

all_behind : (doc low last : ℕ) (ds : List CachedDocument) → doc ≤ low → Ids low last ds → cached_behind doc ds ≡ ds
all_behind doc low last [] le h = refl
all_behind doc low last (d ∷ ds) le h =
    first_stays doc d ds (omega (arith, h.0)) ∙ ap (λ (w : List CachedDocument). d ∷ w) (all_behind doc d.id last ds (omega (arith, h.0)) h.1)

pub all_above : (doc : ℕ) (ds : List CachedDocument) → BeginsAbove doc ds → IdsAscend ds → cached_behind doc ds ≡ ds
all_above doc [] above h = refl
all_above doc (d ∷ ds) above h =
    first_stays doc d ds above ∙ ap (λ (w : List CachedDocument). d ∷ w) (all_behind doc d.id h.0 ds (omega (arith, above)) h.1.1)

pub ids_behind : (doc low last : ℕ) (ds : List CachedDocument) → Ids low last ds → Ids low last (cached_behind doc ds)
ids_behind doc low last [] h = h
ids_behind doc low last (d ∷ ds) h =
    let rest = ids_behind doc d.id last ds h.1 in
    elim (cases_lt doc d.id) [
      | inl lt ↦ subst (Ids low last) (sym (first_stays doc d ds lt)) (h.0, rest)
      | inr le ↦ subst (Ids low last) (sym (first_goes doc d ds le)) (ids_from d.id low last (cached_behind doc ds) (omega (arith, h.0)) rest)
    ]

pub record IsPopped (doc : ℕ) (d : CachedDocument) (old new : List CachedDocument) : Type 0 where
  pub ascend : IdsAscend new
  pub behind : cached_behind doc new ≡ cached_behind doc old
  pub size : d.size + sum_by (λ e. e.size) new ≡ sum_by (λ e. e.size) old

pub popped : (doc : ℕ) (d : CachedDocument) (old new : List CachedDocument) → old ≡ d ∷ new → d.id ≤ doc → IdsAscend old → IsPopped doc d old new
popped doc d old new e le h =
    let all : IdsAscend (d ∷ new) = subst IdsAscend e h in
    record {
      ascend = (all.0, ids_from d.id 0 all.0 new (omega arith) all.1.1);
      behind = sym (ap (cached_behind doc) e ∙ first_goes doc d new le);
      size = sym (ap (sum_by (λ (x : CachedDocument). x.size)) e ∙ sum_by-cons (λ (x : CachedDocument). x.size) d new);
    }
