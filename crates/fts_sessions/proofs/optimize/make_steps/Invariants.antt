use Rattle.std.proofs.Common.{◌≡◌, ◌≤◌, ℕ, List}
use Rattle.fts_types.specs.declared.settings.Settings.{Settings}
use Rattle.fts_steps.specs.Step.{to_optimize}
use Rattle.fts_sessions.specs.Request.{optimizes}
use Rattle.fts_sessions.specs.Transaction.{Transaction}
use Rattle.fts_sessions.specs.Conversation.{asks, begins}
use Rattle.fts_sessions.proofs.Optimizing.{IsWithin}
use Rattle.fts_sessions.proofs.optimize.make_steps.Given as goal

abbrev pub invariant-loop-made : goal.invariant-loop-made
invariant-loop-made g l = record {
  few : l.words ≤ l.made;
  within : (settings : Settings) (transaction : Transaction) (table : List ℕ) (is_most : settings.optimize_words ≡ l.most) → begins settings transaction (optimizes table) ≡ asks to_optimize
      → IsWithin g.S.EngineSteps.sight settings transaction table l.most is_most l.initial.steps l.made l.words l.steps;
}
