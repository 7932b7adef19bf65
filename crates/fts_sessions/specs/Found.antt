-- What a query finds in a view, and the reply that tells it.
use Rattle.std.specs.Prelude.{◌≡◌, ◌⊎◌, ℕ, List, map}
use Rattle.fts_types.specs.Row.{Row}
use Rattle.fts_words.specs.Indexed.{Rules}
use Rattle.fts_ids.specs.Ids.{Ascend}
use Rattle.fts_meaning.specs.Tree.{Terms}
use Rattle.fts_meaning.specs.Scan.{scan}
use Rattle.fts_meaning.specs.View.{View, StandsFor}
use Rattle.fts_schema.specs.declared.reply.Reply.{Reply}
use Rattle.fts_schema.specs.declared.reply.Reply.TheVariants.{Found, NoMemory}

-- these are the ids of the rows in which the query holds, wherever the view stands for the rows
abbrev pub IsFoundIn : View → Terms → List ℕ → Type 0
IsFoundIn view terms docs = (rules : Rules) (rows : List Row) → Ascend (map (λ row. row.doc) rows)
    → StandsFor rules rows terms view → docs ≡ scan rules rows terms

-- the reply tells what is found, or that there was no memory for it
abbrev pub TellsFound : View → Terms → Reply → Type 0
TellsFound view terms reply =
    ((docs : List ℕ) × IsFoundIn view terms docs × (reply ≡ Found view.number docs)) ⊎ (reply ≡ NoMemory)
