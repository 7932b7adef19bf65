-- What a write to one file of a list makes of what the files hold.
use Rattle.std.proofs.Common.{◌≡◌, ◌≢◌, ℕ, zero, suc, ◌+◌, ◌<◌, List, [], ◌∷◌, ◌++◌, map, length, slice_index_or, slice_set, Vec, refl, ap, sym, ◌∙◌, subst}
use Rattle.std.proofs.lemmas.List.{map-set, map-append, get_or-map, get_or-set_same, get_or-set_other, length-map}
use Rattle.std.proofs.Math.Seq.{map-set_same}
use Rattle.std.specs.declared.alloc.Global.{Global}
use Rattle.fts_disk.specs.Device.{Files, OnFile}
use Rattle.fts_disk.specs.Contents.{contents}

abbrev pub items_of : Vec ℕ Global → List ℕ
items_of v = v.items

abbrev from_all : List (List ℕ) → Files
from_all all file = slice_index_or all file []

-- a file of the list
pub held : (files : List (Vec ℕ Global)) (file : ℕ) (old : Vec ℕ Global) → file < length files → old ≡ slice_index_or files file old → contents files file ≡ old.items
held files file old below is = get_or-map items_of files file old [] below ∙ ap items_of (sym is)

-- the file that was set
set_here : (files : List (Vec ℕ Global)) (file : ℕ) (new : Vec ℕ Global) → file < length files → contents (slice_set files file new) file ≡ new.items
set_here files file new below =
    ap (λ (all : List (List ℕ)). slice_index_or all file []) (map-set items_of files file new)
    ∙ get_or-set_same (map items_of files) file new.items [] (subst (λ n. file < n) (sym (length-map files items_of)) below)

-- the others stay
set_there : (files : List (Vec ℕ Global)) (file : ℕ) (new : Vec ℕ Global) (other : ℕ) → other ≢ file → contents (slice_set files file new) other ≡ contents files other
set_there files file new other apart =
    ap (λ (all : List (List ℕ)). slice_index_or all other []) (map-set items_of files file new)
    ∙ get_or-set_other (map items_of files) file other new.items [] apart

-- one file takes a step
pub set_on_file : (step : List ℕ → List ℕ → Type 0) (files : List (Vec ℕ Global)) (file : ℕ) (old new : Vec ℕ Global)
    → file < length files → old ≡ slice_index_or files file old → step old.items new.items
    → OnFile file step (contents files) (contents (slice_set files file new))
set_on_file step files file old new below is goes = record {
  this = subst (λ from. step from (contents (slice_set files file new) file)) (sym (held files file old below is))
      (subst (λ to. step old.items to) (sym (set_here files file new below)) goes);
  others = set_there files file new;
}

-- one file is put back as it was
pub set_same : (files : List (Vec ℕ Global)) (file : ℕ) (old new : Vec ℕ Global)
    → old ≡ slice_index_or files file old → new.items ≡ old.items
    → contents (slice_set files file new) ≡ contents files
set_same files file old new is same =
    let stays : map items_of (slice_set files file new) ≡ map items_of files = map-set_same items_of files file new old (same ∙ ap items_of is) in
    ap from_all stays

-- one more element that is what a place past the end reads
more_absent : (all : List (List ℕ)) (file : ℕ) → slice_index_or (all ++ [] ∷ []) file [] ≡ slice_index_or all file []
more_absent [] zero = refl
more_absent [] (suc n) = refl
more_absent (bytes ∷ all) zero = refl
more_absent (bytes ∷ all) (suc n) = more_absent all n

-- one more file that is empty
pub empty_more : (files : List (Vec ℕ Global)) (new : Vec ℕ Global) → new.items ≡ [] → contents (files ++ new ∷ []) ≡ contents files
empty_more files new empty =
    let more : map items_of (files ++ new ∷ []) ≡ map items_of files ++ [] ∷ [] =
    map-append items_of files (new ∷ []) ∙ ap (λ (bytes : List ℕ). map items_of files ++ bytes ∷ []) empty in
    ap from_all more ∙ (λ i file. more_absent (map items_of files) file i)
