-- Bytes that are no payload of the rows log are at fault at one place.
use Rattle.std.proofs.Common.{◌≡◌, ℕ, zero, suc, ◌<◌, ◌^◌, Bool, true, false, cond, eqb, List, [], ◌∷◌, ◌++◌, length, Option, Some, None, refl, ap, ◌∙◌, arith}
use Rattle.std.specs.List.{list_all}
use Rattle.std.specs.Int.{w16, w32, w64, to_be_bytes, is_in_range}
use Rattle.std.proofs.lemmas.Bool.{eqb-true, eq-eqb}
use Rattle.fts_commits.specs.Fits.{IsText}
use Rattle.fts_commits.specs.Text.{is_text_byte}
use Rattle.fts_codec.specs.Reading.{first_at, number_at, piece_at}
use Rattle.fts_codec.specs.Fields.{tested}
use Rattle.fts_codec.specs.Grammar.{Faults, InField, AtEnd, InMany, IsFrom, one_byte}
use Rattle.fts_codec.proofs.Spelled.{Spells, first_spells, number16, number64, tested_spells, spells_as}
use Rattle.fts_codec.proofs.One.{IsOne, end_one, read_one, field_one, many_one}
use Rattle.fts_rowcodec.specs.Payload.{flag_payload}
use Rattle.fts_rowcodec.specs.Grammar.{InText, InId, InFlagged, InMaybe, Kind, kind_payload, InKind, InChange, IsCommitFault, may_join, InNames, InNumbers, IsSettingsFault}
use Rattle.fts_rowcodec.specs.Grammar.Kind.{insert, update, delete}
use Rattle.fts_rowcodec.specs.Reading.{flag_at}
use Rattle.fts_rowcodec.proofs.Commits.{bytes_spell, counts_spell}
use Rattle.fts_rowcodec.proofs.SettingsRead.{bytes_from, words_spell, cache_spells, batch_spells, names_spell, flag_spells}

-- ---- commits

text_one : (Behind : Faults) → IsOne Behind → IsOne (InText Behind)
text_one Behind behind =
    field_one (to_be_bytes w16) (λ n. n < 2 ^ 16) (number_at w16) number16 (λ size. InField (λ text. text) (λ text. (length text ≡ size) × IsText text) (λ text. Behind))
    (λ size. field_one (λ text. text) (λ text. (length text ≡ size) × IsText text) (tested (list_all is_text_byte) (piece_at size)) (bytes_spell size) (λ text. Behind) (λ text. behind))

id_one : (Behind : Faults) → IsOne Behind → IsOne (InId Behind)
id_one Behind behind = field_one (to_be_bytes w64) (λ id. id < 2 ^ 64) (number_at w64) number64 (λ id. Behind) (λ id. behind)

maybe_one : (Part : Faults → Faults) → ((Behind : Faults) → IsOne Behind → IsOne (Part Behind)) → (Behind : Faults) → IsOne Behind → IsOne (InMaybe Part Behind)
maybe_one Part part Behind behind = field_one (λ flag. one_byte (flag_payload flag)) (λ flag. Unit {0}) flag_at flag_spells (λ flag. InFlagged flag Part Behind) by
  where
    by : (flag : Bool) → IsOne (InFlagged flag Part Behind)
    by true = part Behind behind
    by false = behind

-- a reader of kinds
abbrev kind_at : List ℕ → Option (Kind × List ℕ)
kind_at [] = None
kind_at (kind ∷ rest) = cond (eqb kind 1) (Some (insert, rest)) (cond (eqb kind 2) (Some (update, rest)) (Some (delete, rest)))

kind_again : (kind : Kind) (rest : List ℕ) → Unit {0} → kind_at (kind_payload kind ++ rest) ≡ Some (kind, rest)
kind_again insert rest may = refl
kind_again update rest may = refl
kind_again delete rest may = refl

kind_one : (columns : ℕ) (Behind : Faults) → IsOne Behind → (kind : Kind) → IsOne (InKind columns kind Behind)
kind_one columns Behind behind insert =
    id_one (InMaybe InId (InMany InText columns Behind)) (maybe_one InId id_one (InMany InText columns Behind) (many_one InText text_one columns Behind behind))
kind_one columns Behind behind update = id_one (InMany (InMaybe InText) columns Behind) (many_one (InMaybe InText) (maybe_one InText text_one) columns Behind behind)
kind_one columns Behind behind delete = id_one Behind behind

change_one : (columns : ℕ) (Behind : Faults) → IsOne Behind → IsOne (InChange columns Behind)
change_one columns Behind behind = read_one kind_payload (λ kind. Unit {0}) kind_at kind_again (λ kind. InKind columns kind Behind) (kind_one columns Behind behind)

-- a byte that is given
byte_spells : (byte : ℕ) → byte < 256 → Spells one_byte (λ n. n ≡ byte) (tested (λ n. eqb n byte) first_at)
byte_spells byte small =
    spells_as one_byte (λ n. (n < 256) × (eqb n byte ≡ true)) (λ n. n ≡ byte) (tested (λ n. eqb n byte) first_at)
    (λ n is. eqb-true n byte is.1) (λ n is. (omega (arith, is, small), eq-eqb n byte is)) (tested_spells one_byte (λ n. n < 256) first_at first_spells (λ n. eqb n byte))

pub one_commit_fault : (columns : ℕ) → IsOne (IsCommitFault columns)
one_commit_fault columns =
    field_one one_byte (λ kind. kind ≡ 1) (tested (λ n. eqb n 1) first_at) (byte_spells 1 (omega arith)) (λ kind. InField (to_be_bytes w16) (IsFrom 1 1000) (λ count. InMany (InChange columns) count AtEnd))
    (λ kind. field_one (to_be_bytes w16) (IsFrom 1 1000) (tested (is_in_range 1 1000) (number_at w16)) counts_spell (λ count. InMany (InChange columns) count AtEnd)
    (λ count. many_one (InChange columns) (change_one columns) count AtEnd end_one))

-- ---- settings

names_one : (count : ℕ) (names : List (List ℕ)) (Behind : Faults) → IsOne Behind → IsOne (InNames count names Behind)
names_one zero names Behind behind = behind
names_one (suc count) names Behind behind =
    field_one one_byte (IsFrom 1 32) (tested (is_in_range 1 32) first_at) (bytes_from 1 32 (omega arith))
    (λ size. InField (λ name. name) (λ name. (length name ≡ size) × (may_join names name ≡ true)) (λ name. InNames count (names ++ name ∷ []) Behind))
    (λ size. field_one (λ name. name) (λ name. (length name ≡ size) × (may_join names name ≡ true)) (tested (may_join names) (piece_at size)) (names_spell names size) (λ name. InNames count (names ++ name ∷ []) Behind)
    (λ name. names_one count (names ++ name ∷ []) Behind behind))

numbers_one : IsOne (InNumbers AtEnd)
numbers_one =
    let Batch : Faults = InField (to_be_bytes w32) (IsFrom 1 100000) (λ batch. AtEnd) in
    let Cache : Faults = InField (to_be_bytes w32) (IsFrom 1000 80000000) (λ cache. Batch) in
    let Words : Faults = InField (to_be_bytes w16) (IsFrom 1 10000) (λ words. Cache) in
    let Flag : Faults = InField (λ flag. one_byte (flag_payload flag)) (λ flag. Unit {0}) (λ flag. Words) in
    let Max : Faults = InField one_byte (IsFrom 10 84) (λ max. Flag) in
    field_one one_byte (IsFrom 1 16) (tested (is_in_range 1 16) first_at) (bytes_from 1 16 (omega arith)) (λ min. Max)
    (λ min. field_one one_byte (IsFrom 10 84) (tested (is_in_range 10 84) first_at) (bytes_from 10 84 (omega arith)) (λ max. Flag)
    (λ max. field_one (λ flag. one_byte (flag_payload flag)) (λ flag. Unit {0}) flag_at flag_spells (λ flag. Words)
    (λ flag. field_one (to_be_bytes w16) (IsFrom 1 10000) (tested (is_in_range 1 10000) (number_at w16)) words_spell (λ words. Cache)
    (λ words. field_one (to_be_bytes w32) (IsFrom 1000 80000000) (tested (is_in_range 1000 80000000) (number_at w32)) cache_spells (λ cache. Batch)
    (λ cache. field_one (to_be_bytes w32) (IsFrom 1 100000) (tested (is_in_range 1 100000) (number_at w32)) batch_spells (λ batch. AtEnd) (λ batch. end_one))))))

pub one_settings_fault : IsOne IsSettingsFault
one_settings_fault =
    field_one one_byte (λ kind. kind ≡ 0) (tested (λ n. eqb n 0) first_at) (byte_spells 0 (omega arith)) (λ kind. InField one_byte (IsFrom 1 8) (λ count. InNames count [] (InNumbers AtEnd)))
    (λ kind. field_one one_byte (IsFrom 1 8) (tested (is_in_range 1 8) first_at) (bytes_from 1 8 (omega arith)) (λ count. InNames count [] (InNumbers AtEnd))
    (λ count. names_one count [] (InNumbers AtEnd) numbers_one))
