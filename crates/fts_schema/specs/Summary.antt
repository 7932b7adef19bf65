-- What a script from a number comes to, and the line that tells it.
use Rattle.std.specs.Prelude.{◌≡◌, ◌==◌, ℕ, ◌^◌, ◌-◌, ◌%◌, min, Bool, List, [], ◌∷◌, ◌++◌, length, codes, decimal}
use Rattle.std.specs.List.{filter, flat_map, starts_with, sum}
use Rattle.fts_schema.specs.declared.reply.Reply.{Reply}
use Rattle.fts_schema.specs.declared.reply.Reply.TheVariants.{Found}
use Rattle.fts_schema.specs.declared.summary.Sums.{Sums}
use Rattle.fts_schema.specs.declared.summary.Summary.{Summary}
use Rattle.fts_schema.specs.Reply.{text_of}

-- whether a reply refuses its line: its text begins with `ERROR`
abbrev pub is_error : Reply → Bool
is_error reply = starts_with (λ b c. b == c) (text_of reply) (codes "ERROR")

-- the document ids that a reply answers
abbrev pub ids_of : Reply → List ℕ
ids_of (Found number docs) = docs
ids_of reply = []

-- those that all replies answer
abbrev pub found_in : List Reply → List ℕ
found_in replies = flat_map ids_of replies

-- a number as a count that stands still at 2^64 - 1
abbrev pub counted : ℕ → ℕ
counted n = min n (2 ^ 64 - 1)

-- the sums of some replies: how many refuse, how many ids they answer, and the sum of these, modulo 2^32
pub record AreSums (replies : List Reply) (sums : Sums) : Type 0 where
  pub refused : sums.refused ≡ counted (length (filter is_error replies))
  pub found : sums.found ≡ counted (length (found_in replies))
  pub total : sums.total ≡ sum (found_in replies) % 2 ^ 32

-- how they are told
abbrev pub sums_text : Sums → List ℕ
sums_text sums =
    codes "refused " ++ (decimal sums.refused ++ (codes ", found " ++ (decimal sums.found
    ++ (codes ", sum " ++ decimal sums.total))))

-- the line that tells it
abbrev pub summary_text : Summary → List ℕ
summary_text summary =
    codes "gen " ++ (decimal summary.statements ++ (codes " statements, commits " ++ (decimal summary.commits
    ++ (codes ", rows " ++ (decimal summary.rows ++ (codes ", largest " ++ (decimal summary.largest
    ++ (codes ", " ++ (sums_text summary.sums ++ 10 ∷ [])))))))))
