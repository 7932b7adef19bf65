-- How far an opening has come.
use Rattle.std.proofs.Common.{◌≡◌, ℕ, ◌≤◌, List, [], ◌∷◌, ◌++◌, length, take, drop, All, refl, sym, ◌∙◌, ap, subst, append_assoc, append-nil, length-append, arith}
use Rattle.std.proofs.lemmas.List.{take-append-drop, length-take-le}
use Rattle.std.proofs.lemmas.List.Elements.{All-push}
use Rattle.fts_disk.specs.Device.{Files}
use Rattle.fts_log.specs.declared.place.Place.{Place}
use Rattle.fts_log.specs.declared.place.Place.TheVariants.{Whole}
use Rattle.fts_log.specs.Record.{Fits, record_of, records, front, ends_from}
use Rattle.fts_log.specs.declared.found.Found.{Found}
use Rattle.fts_log.specs.Scan.{PlaceIs, EndsAs, IsFoundIn}
use Rattle.fts_log.proofs.Bytes.{front-push, length-front-push, length-record_of, ends_from-push}

-- these entries stand before the place, and their records end at these places
pub record IsScanned (file : List ℕ) (at : ℕ) (ends : List ℕ) (entries : List (List ℕ)) : Type 0 where
  pub bytes : file ≡ front (take 8 file) entries ++ drop at file
  pub place : at ≡ length (front (take 8 file) entries)
  pub places : ends ≡ ends_from (length (take 8 file)) entries
  pub fit : All Fits entries

pub scanned_none : (file : List ℕ) → 8 ≤ length file → IsScanned file 8 [] []
scanned_none file long =
    let magic = take 8 file in
    record {
      bytes = sym (take-append-drop 8 file) ∙ ap (λ (front : List ℕ). front ++ drop 8 file) (sym (append-nil magic));
      place = omega (arith, ap length (append-nil magic), length-take-le 8 file long);
      places = refl;
      fit = λ k d small. omega arith;
    }

module _ (file : List ℕ) (at : ℕ) (ends : List ℕ) (entries : List (List ℕ)) (so_far : IsScanned file at ends entries) where
  pub scanned_more : (next : ℕ) (stands : PlaceIs file at (Whole next)) → IsScanned file next (ends ++ next ∷ []) (entries ++ stands.0 ∷ [])
  scanned_more next stands =
      let m = take 8 file in
      let payload = stands.0 in
      record {
        bytes = so_far.bytes ∙ ap (λ (rest : List ℕ). front m entries ++ rest) stands.2 ∙ sym (append_assoc (front m entries) (record_of payload) (drop next file))
            ∙ ap (λ (head : List ℕ). head ++ drop next file) (sym (front-push m entries payload));
        place = omega (arith, stands.3, so_far.place, length-front-push m entries payload, length-record_of payload);
        places = ap (λ (xs : List ℕ). xs ++ next ∷ []) so_far.places
            ∙ sym (ends_from-push (length m) entries payload next (omega (arith, stands.3, so_far.place, length-append m (records entries))));
        fit = All-push Fits entries payload so_far.fit stands.1;
      }

  -- what was found where the records end
  pub found_end : (found : Found) → EndsAs found.is_whole (drop at file) → found.gate ≡ at → found.ends.items ≡ ends → IsFoundIn (take 8 file) entries file found
  found_end found ends_as gate places = record {
    rest = drop at file;
    bytes = so_far.bytes;
    fit = so_far.fit;
    «end» = ends_as;
    gate = gate ∙ so_far.place;
    ends = places ∙ so_far.places;
  }

-- one record more, as a device reads
pub scanned_next : (old now : Files) (at next : ℕ) (place : Place) (ends new : List ℕ) → (entries : List (List ℕ)) × IsScanned (old 0) at ends entries
    → now ≡ old → PlaceIs (now 0) at place → place ≡ Whole next → new ≡ ends ++ next ∷ [] → (entries : List (List ℕ)) × IsScanned (old 0) next new entries
scanned_next old now at next place ends new (entries, so_far) same stands whole pushed =
    let there : PlaceIs (old 0) at place = subst (λ (files : Files). PlaceIs (files 0) at place) same stands in
    let record_there : PlaceIs (old 0) at (Whole next) = subst (λ (place : Place). PlaceIs (old 0) at place) whole there in
    (entries ++ record_there.0 ∷ [], subst (λ (xs : List ℕ). IsScanned (old 0) next xs (entries ++ record_there.0 ∷ [])) (sym pushed) (scanned_more (old 0) at ends entries so_far next record_there))
