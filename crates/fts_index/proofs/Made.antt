-- Commits and batches of an index, one after another.
use Rattle.std.proofs.Common.{◌≡◌, ℕ, ◌<◌, ◌≤◌, List, [], ◌∷◌, ◌++◌, append-nil, map, nat_eq, refl, sym, ap₂, subst, ◌∙◌, arith}
use Rattle.std.specs.List.{All, IsDistinct}
use Rattle.std.proofs.lemmas.Grind.{flat_map-append}
use Rattle.fts_words.specs.Indexed.{Rules}
use Rattle.fts_types.specs.Row.{Row, row_of}
use Rattle.fts_types.specs.declared.row.Row.{Row as Kept}
use Rattle.fts_commits.specs.Turn.{Turn, RowsAscend, AreTurns, deaths_of}
use Rattle.fts_entries.specs.Entry.{no_entries}
use Rattle.fts_entries.specs.Batch.{IsBatch, largest_after, after_batch}
use Rattle.fts_entries.specs.Exact.{FitsTurns}
use Rattle.fts_entries.proofs.Commits.{one_fits, none_fits}
use Rattle.fts_entries.proofs.Kept.{still_fits, same_state}
use Rattle.fts_entries.proofs.Turns.{largest_behind}
use Rattle.fts_index.specs.declared.index.Index.{Index}
use Rattle.fts_index.specs.declared.sync.SyncPlan.{SyncPlan}
use Rattle.fts_index.specs.Births.{AreBirths, turn_of}
use Rattle.fts_index.specs.Stands.{StandsFor}
use Rattle.fts_index.specs.Index.{CanTurn, CanAdd, newest}
use Rattle.fts_index.proofs.Births.{ids_lower}
use Rattle.fts_index.proofs.Newest.{newest_used}
use Rattle.fts_index.specs.Made.{IsMade}

turns_push : (n : ℕ) (turns : List Turn) (turn : Turn) → AreTurns n turns → RowsAscend (largest_after n turns) turn.largest turn.births → All (λ id. id ≤ largest_after n turns) turn.deaths → AreTurns n (turns ++ turn ∷ [])
turns_push n [] turn are births deaths = (births, deaths, tt)
turns_push n (t ∷ ts) turn are births deaths = (are.0, are.1, turns_push t.largest ts turn are.2 births deaths)

pub made_first : (rules : Rules) (index : Index) → StandsFor rules [] no_entries index → 0 < rules.min → IsMade rules 0 [] index
unfolding IsDistinct
made_first rules index stands some = record {
  turns = [];
  state = no_entries;
  stands = stands;
  commits = record { ascend = tt; once = tt };
  fits = none_fits [];
  last_is = refl;
  dead_are = refl;
  positive = some;
}

module _ (rules : Rules) (last : ℕ) (dead : List ℕ) (old new : Index) (made : IsMade rules last dead old) where
  -- rows that can be indexed behind the largest id can be added
  pub made_add : (births : List Row) (deaths : List ℕ) (largest : ℕ) → AreBirths last largest births → CanAdd old (turn_of births deaths largest)
  made_add births deaths largest are =
      let held = newest_used rules made.turns made.state old made.stands in
      let used = made.last_is in
      record { ids = ids_lower (newest old) last largest births (omega (arith, held, used)) are.ids; rows = are.rows }

  -- a commit that can come
  pub made_can : (births : List Row) (deaths : List ℕ) (largest : ℕ) → AreBirths last largest births → CanTurn made.turns (turn_of births deaths largest)
  made_can births deaths largest are = subst (λ n. AreBirths n largest births) (sym made.last_is) are

  pub made_more : (births : List Row) (deaths : List ℕ) (largest : ℕ) → AreBirths last largest births → All (λ id. id ≤ last) deaths → IsDistinct nat_eq (dead ++ deaths)
      → StandsFor rules (made.turns ++ turn_of births deaths largest ∷ []) made.state new → IsMade rules largest (dead ++ deaths) new
  made_more births deaths largest are low once stands =
      let turn = turn_of births deaths largest in
      let all : deaths_of (made.turns ++ turn ∷ []) ≡ dead ++ deaths =
      flat_map-append (λ (t : Turn). t.deaths) made.turns (turn ∷ []) ∙ ap₂ (λ (a b : List ℕ). a ++ b) made.dead_are (append-nil deaths) in
      record {
        turns = made.turns ++ turn ∷ [];
        state = made.state;
        stands = stands;
        commits = record {
          ascend = turns_push 0 made.turns turn made.commits.ascend (subst (λ n. RowsAscend n largest births) (sym made.last_is) are.ids) (subst (λ n. All (λ id. id ≤ n) deaths) (sym made.last_is) low);
          once = subst (IsDistinct nat_eq) (sym all) once;
        };
        fits = one_fits made.turns turn made.state made.fits;
        last_is = largest_behind 0 made.turns (turn ∷ []);
        dead_are = all;
        positive = made.positive;
      }

  -- and a batch
  pub made_flushed : (limit : ℕ) (plan : SyncPlan) → IsBatch rules limit made.turns made.state plan.through plan.synced plan.nodes.items
      → StandsFor rules made.turns (after_batch rules limit made.turns made.state) new → IsMade rules last dead new
  made_flushed limit plan batch stands = record {
    turns = made.turns;
    state = after_batch rules limit made.turns made.state;
    stands = stands;
    commits = made.commits;
    fits = subst (FitsTurns made.turns) (same_state rules limit made.turns made.state plan.through plan.synced plan.nodes.items batch)
        (still_fits rules limit made.turns made.state plan.through plan.synced plan.nodes.items batch made.positive made.commits.ascend made.fits);
    last_is = made.last_is;
    dead_are = made.dead_are;
    positive = made.positive;
  }

  pub made_same : StandsFor rules made.turns made.state new → IsMade rules last dead new
  made_same stands = record {
    turns = made.turns;
    state = made.state;
    stands = stands;
    commits = made.commits;
    fits = made.fits;
    last_is = made.last_is;
    dead_are = made.dead_are;
    positive = made.positive;
  }

  -- a commit in which none dies
  pub made_quiet : (births : List Row) (largest : ℕ) → AreBirths last largest births → StandsFor rules (made.turns ++ turn_of births [] largest ∷ []) made.state new → IsMade rules largest dead new
  made_quiet births largest are stands =
      subst (λ (d : List ℕ). IsMade rules largest d new) (append-nil dead)
      (made_more births [] largest are (λ k d less. absurd (omega (arith, less))) (subst (IsDistinct nat_eq) (made.dead_are ∙ sym (append-nil dead)) made.commits.once) stands)

-- births that are lent
pub lent : (last largest : ℕ) (rows births : List Kept) → births ≡ rows → AreBirths last largest (map row_of rows) → AreBirths last largest (map row_of births)
lent last largest rows births e are = subst (λ (rs : List Kept). AreBirths last largest (map row_of rs)) (sym e) are
