-- Where reading a payload stops, its grammar has the first fault.
use Rattle.std.proofs.Common.{◌≡◌, ℕ, zero, suc, ◌-◌, ◌≤◌, ◌<◌, ◌^◌, Bool, true, false, cond, eqb, List, [], ◌∷◌, ◌++◌, length, Option, Some, None, Result, Ok, Err, refl, sym, ap, subst, ◌∙◌, arith}
use Rattle.std.specs.List.{list_all}
use Rattle.std.specs.Int.{w16, w32, w64, to_be_bytes, is_in_range}
use Rattle.fts_types.specs.declared.settings.Settings.{Settings}
use Rattle.fts_commits.specs.Commit.{Commit}
use Rattle.fts_commits.specs.Fits.{IsText}
use Rattle.fts_commits.specs.Text.{is_text_byte}
use Rattle.fts_commits.specs.declared.change.Change.{Change}
use Rattle.fts_commits.specs.declared.change.Change.TheVariants.{Insert, Update, Delete}
use Rattle.fts_codec.specs.declared.fault.Fault.{Fault}
use Rattle.fts_codec.specs.declared.fault.Fault.TheVariants.{Bad}
use Rattle.fts_codec.specs.Fault.{Lacks}
use Rattle.fts_codec.specs.Reading.{first_at, behind_at, number_at, piece_at}
use Rattle.fts_codec.specs.Fields.{◌>>=◌, field, tested, many_at}
use Rattle.fts_codec.specs.Grammar.{Faults, InField, AtEnd, InMany, IsFrom, one_byte}
use Rattle.fts_codec.proofs.Spelled.{IsBytes, byte_takes, number16, number64}
use Rattle.fts_codec.proofs.Fields.{bind_bind}
use Rattle.fts_codec.proofs.Faults.{Left, Leads, stuck, passes, in_field, in_byte, in_many, in_end}
use Rattle.fts_rowcodec.specs.Payload.{flag_payload}
use Rattle.fts_rowcodec.specs.Grammar.{InText, InId, InFlagged, InMaybe, Kind, kind_payload, InKind, InChange, IsCommitFault, may_join, InNames, InNumbers, IsSettingsFault}
use Rattle.fts_rowcodec.specs.Grammar.Kind.{insert, update, delete}
use Rattle.fts_rowcodec.specs.Reading.{text_at, doc_of, doc_at, new_of, new_at, insert_at, update_at, delete_at, kind_of, change_at, count_at, commit_of, name_at, names_from, names_at, flag_at, with_numbers, settings_of}
use Rattle.fts_rowcodec.proofs.Commits.{bytes_spell, counts_spell}
use Rattle.fts_rowcodec.proofs.SettingsRead.{bytes_from, words_spell, cache_spells, batch_spells, names_spell, flag_spells, with_batch, with_cache, with_words, with_flag, with_max, with_min}

-- ---- texts and ids

in_text : {B : Type 0} (f : List ℕ × List ℕ → Result B ℕ) (Behind : Faults) (bytes : List ℕ) (left : ℕ) → IsBytes bytes
    → ((text rest : List ℕ) → IsBytes rest → f (text, rest) ≡ Err left → Left Behind rest left)
    → (text_at bytes >>= f) ≡ Err left → Left (InText Behind) bytes left
unfolding text_at
in_text f Behind bytes left fits next e =
    let bytes_of : ℕ × List ℕ → Result (List ℕ × List ℕ) ℕ = λ size. field (tested (list_all is_text_byte) (piece_at size.0)) size.1 in
    in_field (to_be_bytes w16) (λ n. n < 2 ^ 16) (number_at w16) number16 (λ size. bytes_of size >>= f)
    (λ size. InField (λ text. text) (λ text. (length text ≡ size) × IsText text) (λ text. Behind)) bytes left fits
    (λ size rest within e. in_field (λ text. text) (λ text. (length text ≡ size) × IsText text) (tested (list_all is_text_byte) (piece_at size)) (bytes_spell size) f (λ text. Behind) rest left within next e)
    (sym (bind_bind (field (number_at w16) bytes) bytes_of f) ∙ e)

text_leads : Leads text_at InText
text_leads = record { leads = λ f Behind bytes left fits next e. in_text f Behind bytes left fits next e }

in_id : {B : Type 0} (f : ℕ × List ℕ → Result B ℕ) (Behind : Faults) (bytes : List ℕ) (left : ℕ) → IsBytes bytes
    → ((id : ℕ) (rest : List ℕ) → IsBytes rest → f (id, rest) ≡ Err left → Left Behind rest left)
    → (field (number_at w64) bytes >>= f) ≡ Err left → Left (InId Behind) bytes left
in_id f Behind bytes left fits next e = in_field (to_be_bytes w64) (λ id. id < 2 ^ 64) (number_at w64) number64 f (λ id. Behind) bytes left fits next e

-- ---- what stands behind a flag

no_flag : (bytes : List ℕ) (flag : Bool) (rest : List ℕ) → behind_at 0 bytes ≡ None → behind_at 1 bytes ≡ None → bytes ≡ one_byte (flag_payload flag) ++ rest → ⊥
no_flag bytes true rest none set same = let is : behind_at 1 bytes ≡ Some rest = ap (behind_at 1) same in let other = set in absurd cc
no_flag bytes false rest none set same = let is : behind_at 0 bytes ≡ Some rest = ap (behind_at 0) same in let other = none in absurd cc

module _ (Part : Faults → Faults) (Behind : Faults) (bytes : List ℕ) (left : ℕ) where
  abbrev AtFlag : Type 0
  AtFlag = Left (InMaybe Part Behind) bytes left

  without_part : (rest : List ℕ) → IsBytes bytes → behind_at 0 bytes ≡ Some rest → (IsBytes rest → Left Behind rest left) → AtFlag
  without_part rest fits at next =
      let flag = byte_takes 0 bytes rest fits at in
      passes (λ flag. one_byte (flag_payload flag)) (λ flag. Unit {0}) (λ flag. InFlagged flag Part Behind) bytes left false rest tt flag.0 (next flag.1)

  with_part : (rest : List ℕ) → IsBytes bytes → behind_at 1 bytes ≡ Some rest → (IsBytes rest → Left (Part Behind) rest left) → AtFlag
  with_part rest fits at next =
      let flag = byte_takes 1 bytes rest fits at in
      passes (λ flag. one_byte (flag_payload flag)) (λ flag. Unit {0}) (λ flag. InFlagged flag Part Behind) bytes left true rest tt flag.0 (next flag.1)

  no_part : behind_at 0 bytes ≡ None → behind_at 1 bytes ≡ None → length bytes ≡ left → AtFlag
  no_part none set is =
      stuck (λ flag. one_byte (flag_payload flag)) (λ flag. Unit {0}) (λ flag. InFlagged flag Part Behind) bytes left (λ flag rest may same. no_flag bytes flag rest none set same) is

in_doc : {B : Type 0} (f : Option ℕ × List ℕ → Result B ℕ) (Behind : Faults) (bytes : List ℕ) (left : ℕ) → IsBytes bytes
    → ((doc : Option ℕ) (rest : List ℕ) → IsBytes rest → f (doc, rest) ≡ Err left → Left Behind rest left)
    → (doc_at bytes >>= f) ≡ Err left → Left (InMaybe InId Behind) bytes left
unfolding doc_at
in_doc {B = B} f Behind bytes left fits next e = by (behind_at 0 bytes) (behind_at 1 bytes) refl refl e
  where
    by : (none given : Option (List ℕ)) → behind_at 0 bytes ≡ none → behind_at 1 bytes ≡ given → (doc_of (length bytes) none given >>= f) ≡ Err left
        → Left (InMaybe InId Behind) bytes left
    by (Some r) given at_none at_given e = without_part InId Behind bytes left r fits at_none (λ within. next None r within e)
    by None (Some r) at_none at_given e =
        let number : ℕ × List ℕ → Result (Option ℕ × List ℕ) ℕ = λ doc. Ok (Some doc.0, doc.1) in
        with_part InId Behind bytes left r fits at_given
        (λ within. in_id (λ doc. f (Some doc.0, doc.1)) Behind r left within (λ id rest inner e. next (Some id) rest inner e) (sym (bind_bind (field (number_at w64) r) number f) ∙ e))
    by None None at_none at_given e = no_part InId Behind bytes left at_none at_given (let e = e in cc)

in_new : {B : Type 0} (f : Option (List ℕ) × List ℕ → Result B ℕ) (Behind : Faults) (bytes : List ℕ) (left : ℕ) → IsBytes bytes
    → ((new : Option (List ℕ)) (rest : List ℕ) → IsBytes rest → f (new, rest) ≡ Err left → Left Behind rest left)
    → (new_at bytes >>= f) ≡ Err left → Left (InMaybe InText Behind) bytes left
unfolding new_at
in_new {B = B} f Behind bytes left fits next e = by (behind_at 0 bytes) (behind_at 1 bytes) refl refl e
  where
    by : (kept set : Option (List ℕ)) → behind_at 0 bytes ≡ kept → behind_at 1 bytes ≡ set → (new_of (length bytes) kept set >>= f) ≡ Err left
        → Left (InMaybe InText Behind) bytes left
    by (Some r) set at_kept at_set e = without_part InText Behind bytes left r fits at_kept (λ within. next None r within e)
    by None (Some r) at_kept at_set e =
        let text : List ℕ × List ℕ → Result (Option (List ℕ) × List ℕ) ℕ = λ text. Ok (Some text.0, text.1) in
        with_part InText Behind bytes left r fits at_set
        (λ within. in_text (λ text. f (Some text.0, text.1)) Behind r left within (λ t rest inner e. next (Some t) rest inner e) (sym (bind_bind (text_at r) text f) ∙ e))
    by None None at_kept at_set e = no_part InText Behind bytes left at_kept at_set (let e = e in cc)

new_leads : Leads new_at (InMaybe InText)
new_leads = record { leads = λ f Behind bytes left fits next e. in_new f Behind bytes left fits next e }

-- ---- changes

module _ {B : Type 0} (columns : ℕ) (f : Change × List ℕ → Result B ℕ) (Behind : Faults) (bytes : List ℕ) (left : ℕ)
    (next : (change : Change) (rest : List ℕ) → IsBytes rest → f (change, rest) ≡ Err left → Left Behind rest left) where
  in_insert : IsBytes bytes → (insert_at columns bytes >>= f) ≡ Err left → Left (InKind columns insert Behind) bytes left
  unfolding insert_at
  in_insert fits e =
      let texts : ℕ → Option ℕ → List (List ℕ) × List ℕ → Result (Change × List ℕ) ℕ = λ key doc texts. Ok (Insert key doc texts.0, texts.1) in
      let docs : ℕ → Option ℕ × List ℕ → Result (Change × List ℕ) ℕ = λ key doc. many_at text_at columns doc.1 >>= texts key doc.0 in
      let keys : ℕ × List ℕ → Result (Change × List ℕ) ℕ = λ key. doc_at key.1 >>= docs key.0 in
      in_id (λ key. keys key >>= f) (InMaybe InId (InMany InText columns Behind)) bytes left fits
      (λ key r within e. in_doc (λ doc. docs key doc >>= f) (InMany InText columns Behind) r left within
      (λ doc r within e. in_many text_at InText text_leads columns (λ all. f (Insert key doc all.0, all.1)) Behind r left within
      (λ all r within e. next (Insert key doc all) r within e)
      (sym (bind_bind (many_at text_at columns r) (texts key doc) f) ∙ e))
      (sym (bind_bind (doc_at r) (docs key) f) ∙ e))
      (sym (bind_bind (field (number_at w64) bytes) keys f) ∙ e)

  in_update : IsBytes bytes → (update_at columns bytes >>= f) ≡ Err left → Left (InKind columns update Behind) bytes left
  unfolding update_at
  in_update fits e =
      let news : ℕ → List (Option (List ℕ)) × List ℕ → Result (Change × List ℕ) ℕ = λ key news. Ok (Update key news.0, news.1) in
      let keys : ℕ × List ℕ → Result (Change × List ℕ) ℕ = λ key. many_at new_at columns key.1 >>= news key.0 in
      in_id (λ key. keys key >>= f) (InMany (InMaybe InText) columns Behind) bytes left fits
      (λ key r within e. in_many new_at (InMaybe InText) new_leads columns (λ all. f (Update key all.0, all.1)) Behind r left within
      (λ all r within e. next (Update key all) r within e)
      (sym (bind_bind (many_at new_at columns r) (news key) f) ∙ e))
      (sym (bind_bind (field (number_at w64) bytes) keys f) ∙ e)

  in_delete : IsBytes bytes → (delete_at bytes >>= f) ≡ Err left → Left (InKind columns delete Behind) bytes left
  unfolding delete_at
  in_delete fits e =
      let keys : ℕ × List ℕ → Result (Change × List ℕ) ℕ = λ key. Ok (Delete key.0, key.1) in
      in_id (λ key. f (Delete key.0, key.1)) Behind bytes left fits (λ key r within e. next (Delete key) r within e) (sym (bind_bind (field (number_at w64) bytes) keys f) ∙ e)

no_kind : (bytes : List ℕ) (kind : Kind) (rest : List ℕ) → behind_at 1 bytes ≡ None → behind_at 2 bytes ≡ None → behind_at 3 bytes ≡ None → bytes ≡ kind_payload kind ++ rest → ⊥
no_kind bytes insert rest i u d same = let is : behind_at 1 bytes ≡ Some rest = ap (behind_at 1) same in let other = i in absurd cc
no_kind bytes update rest i u d same = let is : behind_at 2 bytes ≡ Some rest = ap (behind_at 2) same in let other = u in absurd cc
no_kind bytes delete rest i u d same = let is : behind_at 3 bytes ≡ Some rest = ap (behind_at 3) same in let other = d in absurd cc

in_change : {B : Type 0} (columns : ℕ) (f : Change × List ℕ → Result B ℕ) (Behind : Faults) (bytes : List ℕ) (left : ℕ) → IsBytes bytes
    → ((change : Change) (rest : List ℕ) → IsBytes rest → f (change, rest) ≡ Err left → Left Behind rest left)
    → (change_at columns bytes >>= f) ≡ Err left → Left (InChange columns Behind) bytes left
unfolding change_at
in_change {B = B} columns f Behind bytes left fits next e = by (behind_at 1 bytes) (behind_at 2 bytes) (behind_at 3 bytes) refl refl refl e
  where
    Is : Type 0
    Is = Left (InChange columns Behind) bytes left

    kind : (k : Kind) (r : List ℕ) → bytes ≡ kind_payload k ++ r → Left (InKind columns k Behind) r left → Is
    kind k r is behind = passes kind_payload (λ kind. Unit {0}) (λ kind. InKind columns kind Behind) bytes left k r tt is behind

    by : (i u d : Option (List ℕ)) → behind_at 1 bytes ≡ i → behind_at 2 bytes ≡ u → behind_at 3 bytes ≡ d
        → (kind_of columns (length bytes) i u d >>= f) ≡ Err left → Is
    by (Some r) u d at_i at_u at_d e = let taken = byte_takes 1 bytes r fits at_i in kind insert r taken.0 (in_insert columns f Behind r left next taken.1 e)
    by None (Some r) d at_i at_u at_d e = let taken = byte_takes 2 bytes r fits at_u in kind update r taken.0 (in_update columns f Behind r left next taken.1 e)
    by None None (Some r) at_i at_u at_d e = let taken = byte_takes 3 bytes r fits at_d in kind delete r taken.0 (in_delete columns f Behind r left next taken.1 e)
    by None None None at_i at_u at_d e =
        stuck kind_payload (λ kind. Unit {0}) (λ kind. InKind columns kind Behind) bytes left (λ k rest may same. no_kind bytes k rest at_i at_u at_d same) (let e = e in cc)

change_leads : (columns : ℕ) → Leads (change_at columns) (InChange columns)
change_leads columns = record { leads = λ f Behind bytes left fits next e. in_change columns f Behind bytes left fits next e }

-- ---- commits

pub commit_place : (columns : ℕ) (bytes : List ℕ) (left : ℕ) → IsBytes bytes → commit_of columns bytes ≡ Err left → Left (IsCommitFault columns) bytes left
unfolding commit_of count_at
commit_place columns bytes left fits e =
    let ends : List Change × List ℕ → Result Commit ℕ = λ changes. cond (eqb (length changes.1) 0) (Ok changes.0) (Err (length changes.1)) in
    let changes : ℕ × List ℕ → Result Commit ℕ = λ count. many_at (change_at columns) count.0 count.1 >>= ends in
    let counts : List ℕ → Result (ℕ × List ℕ) ℕ = λ rest. field (tested (is_in_range 1 1000) (number_at w16)) rest in
    in_byte 1 (λ rest. counts rest >>= changes) (InField (to_be_bytes w16) (IsFrom 1 1000) (λ count. InMany (InChange columns) count AtEnd)) bytes left fits
    (λ r within e. in_field (to_be_bytes w16) (IsFrom 1 1000) (tested (is_in_range 1 1000) (number_at w16)) counts_spell changes (λ count. InMany (InChange columns) count AtEnd) r left within
    (λ count r within e. in_many (change_at columns) (InChange columns) (change_leads columns) count ends AtEnd r left within (λ all r within e. in_end all r left e) e)
    e)
    (sym (bind_bind (field (behind_at 1) bytes) counts changes) ∙ e)

-- ---- settings

in_name : {B : Type 0} (names : List (List ℕ)) (f : List ℕ × List ℕ → Result B ℕ) (Then : List ℕ → Faults) (bytes : List ℕ) (left : ℕ) → IsBytes bytes
    → ((name rest : List ℕ) → IsBytes rest → f (name, rest) ≡ Err left → Left (Then name) rest left)
    → (name_at names bytes >>= f) ≡ Err left
    → Left (InField one_byte (IsFrom 1 32) (λ size. InField (λ name. name) (λ name. (length name ≡ size) × (may_join names name ≡ true)) Then)) bytes left
unfolding name_at
in_name names f Then bytes left fits next e =
    let bytes_of : ℕ × List ℕ → Result (List ℕ × List ℕ) ℕ = λ size. field (tested (may_join names) (piece_at size.0)) size.1 in
    in_field one_byte (IsFrom 1 32) (tested (is_in_range 1 32) first_at) (bytes_from 1 32 (omega arith)) (λ size. bytes_of size >>= f)
    (λ size. InField (λ name. name) (λ name. (length name ≡ size) × (may_join names name ≡ true)) Then) bytes left fits
    (λ size rest within e. in_field (λ name. name) (λ name. (length name ≡ size) × (may_join names name ≡ true)) (tested (may_join names) (piece_at size)) (names_spell names size) f Then rest left within next e)
    (sym (bind_bind (field (tested (is_in_range 1 32) first_at) bytes) bytes_of f) ∙ e)

in_names : {B : Type 0} (count : ℕ) (names : List (List ℕ)) (f : List (List ℕ) × List ℕ → Result B ℕ) (Behind : Faults) (bytes : List ℕ) (left : ℕ) → IsBytes bytes
    → ((all : List (List ℕ)) (rest : List ℕ) → IsBytes rest → f (all, rest) ≡ Err left → Left Behind rest left)
    → (names_from names count bytes >>= f) ≡ Err left → Left (InNames count names Behind) bytes left
unfolding names_from
in_names zero names f Behind bytes left fits next e = next names bytes fits e
in_names (suc count) names f Behind bytes left fits next e =
    let others : List ℕ × List ℕ → Result (List (List ℕ) × List ℕ) ℕ = λ name. names_from (names ++ name.0 ∷ []) count name.1 in
    in_name names (λ name. others name >>= f) (λ name. InNames count (names ++ name ∷ []) Behind) bytes left fits
    (λ name r within e. in_names count (names ++ name ∷ []) f Behind r left within next e)
    (sym (bind_bind (name_at names bytes) others f) ∙ e)

in_numbers : (columns : List (List ℕ)) (bytes : List ℕ) (left : ℕ) → IsBytes bytes → with_numbers columns bytes ≡ Err left → Left (InNumbers AtEnd) bytes left
unfolding with_numbers
in_numbers columns bytes left fits e =
    let Batch : Faults = InField (to_be_bytes w32) (IsFrom 1 100000) (λ batch. AtEnd) in
    let Cache : Faults = InField (to_be_bytes w32) (IsFrom 1000 80000000) (λ cache. Batch) in
    let Words : Faults = InField (to_be_bytes w16) (IsFrom 1 10000) (λ words. Cache) in
    let Flag : Faults = InField (λ flag. one_byte (flag_payload flag)) (λ flag. Unit {0}) (λ flag. Words) in
    let Max : Faults = InField one_byte (IsFrom 10 84) (λ max. Flag) in
    in_field one_byte (IsFrom 1 16) (tested (is_in_range 1 16) first_at) (bytes_from 1 16 (omega arith)) (with_min columns) (λ min. Max) bytes left fits
    (λ min r within e. in_field one_byte (IsFrom 10 84) (tested (is_in_range 10 84) first_at) (bytes_from 10 84 (omega arith)) (with_max columns min) (λ max. Flag) r left within
    (λ max r within e. in_field (λ flag. one_byte (flag_payload flag)) (λ flag. Unit {0}) flag_at flag_spells (with_flag columns min max) (λ flag. Words) r left within
    (λ flag r within e. in_field (to_be_bytes w16) (IsFrom 1 10000) (tested (is_in_range 1 10000) (number_at w16)) words_spell (with_words columns min max flag) (λ words. Cache) r left within
    (λ words r within e. in_field (to_be_bytes w32) (IsFrom 1000 80000000) (tested (is_in_range 1000 80000000) (number_at w32)) cache_spells (with_cache columns min max flag words) (λ cache. Batch) r left within
    (λ cache r within e. in_field (to_be_bytes w32) (IsFrom 1 100000) (tested (is_in_range 1 100000) (number_at w32)) batch_spells (with_batch columns min max flag words cache) (λ batch. AtEnd) r left within
    (λ batch r within e. in_end _ r left e) e) e) e) e) e) e

pub settings_place : (bytes : List ℕ) (left : ℕ) → IsBytes bytes → settings_of bytes ≡ Err left → Left IsSettingsFault bytes left
unfolding settings_of names_at
settings_place bytes left fits e =
    let numbers : List (List ℕ) × List ℕ → Result Settings ℕ = λ names. with_numbers names.0 names.1 in
    let names : ℕ × List ℕ → Result (List (List ℕ) × List ℕ) ℕ = λ count. names_from [] count.0 count.1 in
    in_byte 0 (λ rest. names_at rest >>= numbers) (InField one_byte (IsFrom 1 8) (λ count. InNames count [] (InNumbers AtEnd))) bytes left fits
    (λ r within e. in_field one_byte (IsFrom 1 8) (tested (is_in_range 1 8) first_at) (bytes_from 1 8 (omega arith)) (λ count. names count >>= numbers) (λ count. InNames count [] (InNumbers AtEnd)) r left within
    (λ count r within e. in_names count [] numbers (InNumbers AtEnd) r left within (λ all r within e. in_numbers all r left within e) e)
    (sym (bind_bind (field (tested (is_in_range 1 8) first_at) r) names numbers) ∙ e))
    e

-- ---- what a reader returned

-- what it tells of a fault
pub left_told : {X : Type 0} (fault : Fault) (left : ℕ) (read : Result X ℕ) → fault ≡ Bad left → Lacks fault read → read ≡ Err left
left_told fault left read is lacks = subst (λ (f : Fault). Lacks f read) is lacks

pub told : (Where : Faults) (bytes : List ℕ) (left : ℕ) → Left Where bytes left → (length bytes - left ≤ length bytes) × Where bytes (length bytes - left)
told Where bytes left at = (omega arith, at.1)
