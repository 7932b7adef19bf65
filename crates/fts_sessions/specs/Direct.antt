-- What contracts see of the steps of an engine that one thread owns: nobody else makes any.
use Rattle.std.specs.Prelude.{false}
use Rattle.fts_disk.specs.declared.disk.Disk.{Ghosts}
use Rattle.fts_steps.specs.Step.{Sight, no_account}
use Rattle.fts_engine.specs.Stands.{Holds, engine_settings, engine_limits, engine_faults, rows_device, index_device}
use Rattle.fts_sessions.specs.declared.direct.Direct.{Direct}

abbrev pub direct_sight : {D E : Type 0} {rows : Ghosts D} {index : Ghosts E} → Sight (Direct D E rows index)
direct_sight {D} {E} {rows} {index} = record {
  is_shared = false;
  Place = Unit {0};
  place = λ steps. tt;
  account = λ steps. no_account;
  settings = λ steps. engine_settings steps.engine;
  limits = λ steps. engine_limits steps.engine;
  faults = λ steps. engine_faults steps.engine;
  stands = λ running steps. Holds running steps.engine;
  rows = record { Device = D; disk = rows; device = λ steps. rows_device steps.engine };
  index = record { Device = E; disk = index; device = λ steps. index_device steps.engine };
}
