-- What a view says of a document id.
use Rattle.std.specs.Prelude.{ℕ, Bool, true, false, not, ◌&&◌, ◌||◌, List, map, if◌then◌else◌}
use Rattle.std.specs.List.{list_any, list_all}
use Rattle.fts_ids.specs.Ids.{has}
use Rattle.fts_query.specs.declared.view.Candidate.{Candidate as Kept}
use Rattle.fts_meaning.specs.Holds.{stand_together, lie_near}
use Rattle.fts_meaning.specs.View.{Candidate, texts_at}
use Rattle.fts_eval.specs.declared.part.Part.{Part, Ids, Phrase, Distance, Group', Row_of-Part, end_of-Part}
use Rattle.fts_eval.specs.declared.part.Part.{more_of-Part}

-- the ids of rows whose texts are looked into
abbrev pub docs_of : List Kept → List ℕ
docs_of rows = map (λ row. row.doc) rows

-- a group asks for an id of which its parts say this: there are required ones, each says so, some optional one does,
-- some excluded one does
abbrev pub is_chosen : Bool → Bool → Bool → Bool → Bool
is_chosen has_required each_required some_optional some_excluded =
    (if has_required then each_required else some_optional) && not some_excluded

-- a part asks for an id
abbrev mutual
  pub says : List Candidate → ℕ → Part → Bool
  says texts id (Ids ids) = has ids.now id
  says texts id (Phrase ids words) = has ids.now id && stand_together (texts_at texts id) words.now
  says texts id (Distance ids words reach) = has ids.now id && lie_near (texts_at texts id) words.now reach
  says texts id (Group' shape required shape' optional shape'' excluded) =
      is_chosen (some_row required) (each_row texts id required) (any_row texts id optional) (any_row texts id excluded)

  pub each_row : List Candidate → ℕ → {m : _} → Row_of-Part m → Bool
  each_row texts id end_of-Part = true
  each_row texts id (more_of-Part part rest) = says texts id part && each_row texts id rest

  pub any_row : List Candidate → ℕ → {m : _} → Row_of-Part m → Bool
  any_row texts id end_of-Part = false
  any_row texts id (more_of-Part part rest) = says texts id part || any_row texts id rest

  pub some_row : {m : _} → Row_of-Part m → Bool
  some_row end_of-Part = false
  some_row (more_of-Part part rest) = true

-- each part of a list asks for an id, or some part does
abbrev pub each_says : List Candidate → List Part → ℕ → Bool
each_says texts parts id = list_all (says texts id) parts

abbrev pub some_says : List Candidate → List Part → ℕ → Bool
some_says texts parts id = list_any (says texts id) parts
