use Rattle.std.proofs.Common.{◌≡◌, ℕ, filter, take, map, length}
use Rattle.fts_ids.specs.Ids.{AscendFrom}
use Rattle.fts_meaning.specs.Holds.{lie_near}
use Rattle.fts_query.specs.Seen.{candidate_seen}
use Rattle.fts_eval.specs.Says.{docs_of}
use Rattle.fts_eval.proofs.Rows.{TellTexts}
use Rattle.fts_eval.proofs.tried.within_distance.Given as goal
use Rattle.fts_meaning.specs.View.{texts_at}

abbrev pub invariant-loop-id : goal.invariant-loop-id
invariant-loop-id l = record {
  found : l.found.items ≡ filter (λ (id : ℕ). lie_near (texts_at (map candidate_seen l.texts) id) l.words l.reach) (take l.id-index l.ids);
  ascend : AscendFrom 0 (docs_of l.rest);
  tell : TellTexts l.rest l.texts l.ids l.id-index;
  long : length l.last ≡ length l.words;
}
