-- What contracts see of `Shared`.
use Rattle.fts_disk.specs.declared.disk.Disk.{Ghosts}
use Rattle.fts_steps.specs.Step.{Sight}
use Rattle.fts_shared.specs.declared.shared.Shared.{Shared}
use Rattle.fts_shared.specs.Shared.{sight_at}

abbrev pub shared_sight : {R D E : Type 0} {rows : Ghosts D} {index : Ghosts E} → Sight (Shared R D E rows index)
shared_sight = sight_at (λ s. s.placed)
