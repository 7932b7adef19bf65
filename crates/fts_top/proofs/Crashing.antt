-- What a crash leaves of looks behind others.
use Rattle.std.proofs.Common.{◌≡◌, ◌⊎◌, subst, sym, inl, inr}
use Rattle.fts_disk.specs.Moments.{LeavesOnly, LeavesAsBefore}
use Rattle.fts_disk.specs.declared.disk.Disk.{Ghosts}
use Rattle.fts_disk.proofs.Runs.{leaves_weaker}
use Rattle.fts_steps.proofs.Leaving.{joined}

-- looks behind an opening
pub looked_behind : {D : Type 0} (disk : Ghosts D) (first opened now : D) → LeavesAsBefore disk first opened
    → (now ≡ opened) ⊎ LeavesOnly disk opened now (disk.images opened) → LeavesOnly disk first now (disk.images first)
looked_behind {D} disk first opened now looked (inl same) = subst (λ (d : D). LeavesOnly disk first d (disk.images first)) (sym same) looked.any_moment
looked_behind disk first opened now looked (inr left) =
    joined disk first opened now (disk.images first) looked.any_moment
    (leaves_weaker disk opened now (disk.images opened) (disk.images first) (λ c held. looked.within c held) left)
