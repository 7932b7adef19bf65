-- The settings of the engine under the turn.
use Rattle.std.specs.Prelude.{◌≡◌, ◌≤◌, length}
use Rattle.fts_disk.specs.declared.disk.Disk.{Ghosts}
use Rattle.fts_types.specs.declared.settings.Settings.{Settings}
use Rattle.fts_steps.specs.Running.{Entry}
use Rattle.fts_engine.specs.Stands.{engine_settings}
use Rattle.fts_turn.specs.declared.turn.Turns.{Turns}
use Rattle.fts_shared.specs.declared.at_turn.AtTurn.{AtTurn}
use Rattle.fts_shared.specs.Shared.{first_of}

-- the settings are those of the engine under the turn
pub record AreSettingsAt {D E : Type 0} {rows : Ghosts D} {index : Ghosts E}
    (turn : Turns (AtTurn D E rows index) Entry) (settings : Settings) : Type 0 where
  pub some : 1 ≤ length settings.columns
  pub few : length settings.columns ≤ 8
  pub same : settings ≡ engine_settings (first_of turn)
