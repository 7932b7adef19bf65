-- The nodes of a batch, as they come one by one.
use Rattle.std.specs.Prelude.{ℕ, if◌then◌else◌, List, [], ◌∷◌, ◌++◌}
use Rattle.std.specs.Str.{bytes_eq}
use Rattle.fts_ilist.specs.Spelling.{last_id}
use Rattle.fts_ilist.specs.Node.{Docs}
use Rattle.fts_entries.specs.Entry.{Batch}

-- words that have all their nodes; the last word, which may get more, with its nodes and their last id
pub record Building : Type 0 where
  pub closed : Batch
  pub word : List ℕ
  pub nodes : List Docs
  pub last : ℕ

-- before the first node
abbrev pub nothing : Building
nothing = record { closed = []; word = []; nodes = []; last = 0 }

-- a word, where it has nodes
abbrev pub group_of : List ℕ → List Docs → Batch
group_of word [] = []
group_of word (docs ∷ nodes) = (word, docs ∷ nodes) ∷ []

-- all nodes that came
abbrev pub batch_of : Building → Batch
batch_of b = b.closed ++ group_of b.word b.nodes

-- a word comes: the last one, or another
abbrev pub turned_to : Building → List ℕ → Building
turned_to b word =
    if bytes_eq b.word word then b else record { closed = batch_of b; word = word; nodes = []; last = 0 }

-- a node of the last word comes
abbrev pub with_node : Building → Docs → Building
with_node b docs = record b { nodes = b.nodes ++ docs ∷ []; last = last_id docs }
