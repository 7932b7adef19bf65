-- What may stand in the payloads of the rows log, field by field, and so where bytes stop being one.
use Rattle.std.specs.Prelude.{◌≡◌, ℕ, zero, suc, ◌<◌, ◌^◌, Bool, true, false, not, ◌&&◌, List, [], ◌∷◌, ◌++◌, length}
use Rattle.std.specs.Int.{w16, w32, w64, to_be_bytes}
use Rattle.fts_words.specs.Order.{is_among}
use Rattle.fts_types.specs.Settings.{is_column_name}
use Rattle.fts_commits.specs.Fits.{IsText}
use Rattle.fts_codec.specs.Grammar.{Faults, InField, AtEnd, InMany, IsFrom, one_byte}
use Rattle.fts_rowcodec.specs.Payload.{flag_payload}

-- ---- commits

-- the length of a text, and so many bytes that texts may hold
abbrev pub InText : Faults → Faults
InText Behind =
    InField (to_be_bytes w16) (λ size. size < 2 ^ 16)
    (λ size. InField (λ text. text) (λ text. (length text ≡ size) × IsText text) (λ text. Behind))

-- a key or a document id
abbrev pub InId : Faults → Faults
InId Behind = InField (to_be_bytes w64) (λ id. id < 2 ^ 64) (λ id. Behind)

-- what stands behind a flag: nothing, or this part
abbrev pub InFlagged : Bool → (Faults → Faults) → Faults → Faults
InFlagged false Part Behind = Behind
InFlagged true Part Behind = Part Behind

-- a flag, and behind it the part or nothing: a document id that may be given, or a text that may be set
abbrev pub InMaybe : (Faults → Faults) → Faults → Faults
InMaybe Part Behind =
    InField (λ flag. one_byte (flag_payload flag)) (λ flag. Unit {0}) (λ flag. InFlagged flag Part Behind)

-- the kinds of changes
pub data Kind : Type 0 where
  insert : Kind
  update : Kind
  delete : Kind

abbrev pub kind_payload : Kind → List ℕ
kind_payload insert = 1 ∷ []
kind_payload update = 2 ∷ []
kind_payload delete = 3 ∷ []

-- what stands behind the kind of a change of a row of so many columns
abbrev pub InKind : ℕ → Kind → Faults → Faults
InKind columns insert Behind = InId (InMaybe InId (InMany InText columns Behind))
InKind columns update Behind = InId (InMany (InMaybe InText) columns Behind)
InKind columns delete Behind = InId Behind

abbrev pub InChange : ℕ → Faults → Faults
InChange columns Behind = InField kind_payload (λ kind. Unit {0}) (λ kind. InKind columns kind Behind)

-- The first field that can't stand there in a commit of rows of so many columns begins at this place: its kind, the
-- count of its changes, the changes, and nothing more.
abbrev pub IsCommitFault : ℕ → List ℕ → ℕ → Type 0
IsCommitFault columns =
    InField one_byte (λ kind. kind ≡ 1)
    (λ kind. InField (to_be_bytes w16) (IsFrom 1 1000) (λ count. InMany (InChange columns) count AtEnd))

-- ---- settings

-- a name that a column may have behind these
abbrev pub may_join : List (List ℕ) → List ℕ → Bool
may_join names name = is_column_name name && not (is_among names name)

-- so many names of columns, each behind its length, behind these
abbrev pub InNames : ℕ → List (List ℕ) → Faults → Faults
InNames zero names Behind = Behind
InNames (suc count) names Behind =
    InField one_byte (IsFrom 1 32)
    (λ size. InField (λ name. name) (λ name. (length name ≡ size) × (may_join names name ≡ true))
    (λ name. InNames count (names ++ name ∷ []) Behind))

-- the numbers behind the columns
abbrev pub InNumbers : Faults → Faults
InNumbers Behind =
    InField one_byte (IsFrom 1 16)
    (λ min. InField one_byte (IsFrom 10 84)
    (λ max. InField (λ flag. one_byte (flag_payload flag)) (λ flag. Unit {0})
    (λ flag. InField (to_be_bytes w16) (IsFrom 1 10000)
    (λ words. InField (to_be_bytes w32) (IsFrom 1000 80000000)
    (λ cache. InField (to_be_bytes w32) (IsFrom 1 100000) (λ batch. Behind))))))

-- the same of settings: their kind, the count of the columns, their names, the numbers, and nothing more
abbrev pub IsSettingsFault : List ℕ → ℕ → Type 0
IsSettingsFault =
    InField one_byte (λ kind. kind ≡ 0)
    (λ kind. InField one_byte (IsFrom 1 8) (λ count. InNames count [] (InNumbers AtEnd)))
