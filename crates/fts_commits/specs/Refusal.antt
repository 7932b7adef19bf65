use Rattle.std.specs.Prelude.{ℕ, List, ◌++◌, codes, decimal}
use Rattle.fts_commits.specs.declared.refusal.Refusal.{Refusal}
use Rattle.fts_commits.specs.declared.refusal.Refusal.TheVariants.{DuplicateKey, DocIdOrder, DocIdGap, IdsFull}
use Rattle.fts_commits.specs.declared.refusal.Refusal.TheVariants.{TextTooLong, RowsFull}

-- the words for a refusal, with its numbers
abbrev pub refusal_text : Refusal → List ℕ
refusal_text (DuplicateKey change key) = codes
    "duplicate key " ++ (decimal key ++ (codes " in change " ++ decimal change))
refusal_text (DocIdOrder given largest) = codes
    "document id " ++ (decimal given ++ (codes " not above " ++ decimal largest))
refusal_text (DocIdGap given largest) =
    codes "document id " ++ (decimal given ++ (codes " more than 65535 above " ++ decimal largest))
refusal_text (IdsFull largest) = codes "document ids full at " ++ decimal largest
refusal_text (TextTooLong change length) = codes
    "text too long " ++ (decimal length ++ (codes " in change " ++ decimal change))
refusal_text (RowsFull rows) = codes "rows full at " ++ decimal rows
