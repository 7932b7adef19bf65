-- A script that ended short of memory met no fault.
use Rattle.std.proofs.Common.{◌≡◌, ◌≤◌, ◌<◌, ◌-◌, ◌^◌, ℕ, ap, sym, ◌∙◌, subst, arith, inl, inr}
use Rattle.fts_disk.specs.declared.disk.Disk.{Ghosts}
use Rattle.fts_types.specs.declared.limits.Limits.{Limits}
use Rattle.fts_faults.specs.Count.{Rose}
use Rattle.fts_steps.specs.FaultCounts.{FaultCounts, together}
use Rattle.fts_engine.specs.Devices.{Devices, disks_of, disk_faults}
use Rattle.fts_workers.specs.declared.health.Health.TheVariants.{Failed}
use Rattle.fts_workers.specs.Health.{worse}
use Rattle.fts_shared.specs.Served.{met_by}
use Rattle.fts_shared.proofs.Counted.{fault_counted}
use Rattle.fts_top.specs.declared.ends.RunEnd.TheVariants.{ShortOfMemory}
use Rattle.fts_top.specs.Once.{Outside}
use Rattle.fts_top.specs.Serve.{WasServed, Serves, engine_devices}

-- a count that rose and stands where it stood is at its last value
at_last : (before after : ℕ) → after ≡ before → Rose before after → 2 ^ 64 - 1 ≤ after
at_last before after same (inl rose) = absurd (omega (arith, same, rose))
at_last before after same (inr full) = full

module _ {D E : Type 0} (rows : Ghosts D) (index : Ghosts E) (limits : Limits) (before after : Outside D E) (serves : Serves rows index limits ShortOfMemory before after)
    (was : WasServed rows index ShortOfMemory serves.first before after) where
  pub met_no_fault : worse was.served.met (met_by was.served.works.items) ≡ Failed → 2 ^ 64 - 1 ≤ together (disk_faults (disks_of rows index) after.devices)
  met_no_fault failed =
      let sum : Devices D E → ℕ = λ devices. together (disk_faults (disks_of rows index) devices) in
      let calm : disk_faults (disks_of rows index) after.devices ≡ disk_faults (disks_of rows index) before.devices = (serves.fault tt).calm (λ is. cc) in
      let same : sum after.devices ≡ sum (engine_devices serves.first) = ap together (calm ∙ sym serves.opened.calm) in
      let rose : Rose (sum (engine_devices serves.first)) (sum (engine_devices was.served.engine)) = fault_counted was.lines serves.first was.works was.served was.are failed in
      at_last (sum (engine_devices serves.first)) (sum after.devices) same
      (subst (λ (devices : Devices D E). Rose (sum (engine_devices serves.first)) (sum devices)) (sym was.closed) rose)
