-- A fault that a session was told, or a worker met, is counted.
use Rattle.std.proofs.Common.{◌≡◌, ◌≤◌, ℕ, ◌+◌, List, sym, ◌∙◌, arith, inl, inr, ⊎_elim}
use Rattle.fts_disk.specs.declared.disk.Disk.{Ghosts}
use Rattle.fts_faults.specs.Count.{Rose}
use Rattle.fts_io.specs.Text.{Line}
use Rattle.fts_steps.specs.FaultCounts.{together}
use Rattle.fts_engine.specs.declared.engine.Engine.{Engine}
use Rattle.fts_engine.specs.Stands.{engine_faults}
use Rattle.fts_workers.specs.declared.health.Health.TheVariants.{Failed}
use Rattle.fts_workers.specs.Health.{worse}
use Rattle.fts_workers.proofs.Worse.{failed_before, failed_now, failed_in}
use Rattle.fts_shared.specs.declared.served.Served.{Served}
use Rattle.fts_shared.specs.declared.work.Work.{Work}
use Rattle.fts_shared.specs.Served.{AreServed, met_by}
use Rattle.fts_shared.proofs.Histories.{rose_from, rose_together}

module _ {D E : Type 0} {rows : Ghosts D} {index : Ghosts E} (lines : List Line) (first : Engine D E rows index) (works : List Work) (served : Served D E rows index)
    (are : AreServed lines first works served) where
  abbrev sum : Engine D E rows index → ℕ
  sum engine = together (engine_faults engine)

  to_close : sum first ≤ sum are.closed
  to_close = let rows = are.none_fell.0 in let index = are.none_fell.1 in omega (arith, rows, index)

  to_middle : sum are.closed ≤ sum are.ends.middle
  to_middle = let rows = are.ends.syncs.faults.never_fall.0 in let index = are.ends.syncs.faults.never_fall.1 in omega (arith, rows, index)

  to_end : sum are.ends.middle ≤ sum served.engine
  to_end = let rows = are.ends.optimizes.faults.never_fall.0 in let index = are.ends.optimizes.faults.never_fall.1 in omega (arith, rows, index)

  later : (now end : ℕ) → Rose (sum first) now → now ≤ end → Rose (sum first) end
  later now end (inl rose) more = inl (omega (arith, rose, more))
  later now end (inr full) more = inr (omega (arith, full, more))

  -- before the close
  under_turn : worse (worse are.synced are.optimized) (met_by served.works.items) ≡ Failed → Rose (sum first) (sum served.engine)
  under_turn failed =
      let middle = to_middle in let last = to_end in
      later (sum are.closed) (sum served.engine) (are.counted failed) (omega (arith, middle, last))

  -- in the last rounds
  in_last : are.last ≡ Failed → Rose (sum first) (sum served.engine)
  in_last failed =
      let ends = are.ends in
      let close = to_close in let middle = to_middle in
      ⊎_elim
      (λ synced.
      later (sum ends.middle) (sum served.engine)
      (rose_from (sum first) (sum are.closed) (sum ends.middle) close
      (rose_together (engine_faults are.closed) (engine_faults ends.middle) (ends.syncs.faults.rose synced) ends.syncs.faults.never_fall)) to_end)
      (λ optimized.
      rose_from (sum first) (sum ends.middle) (sum served.engine) (omega (arith, close, middle))
      (rose_together (engine_faults ends.middle) (engine_faults served.engine) (ends.optimizes.faults.rose optimized) ends.optimizes.faults.never_fall))
      (failed_in ends.synced ends.optimized (sym ends.met_is ∙ failed))

  pub fault_counted : worse served.met (met_by served.works.items) ≡ Failed → Rose (sum first) (sum served.engine)
  fault_counted failed =
      let workers = worse are.synced are.optimized in
      ⊎_elim
      (λ met. ⊎_elim (λ under. under_turn (failed_before workers (met_by served.works.items) under)) in_last (failed_in workers are.last (sym are.met_is ∙ met)))
      (λ told. under_turn (failed_now workers (met_by served.works.items) told))
      (failed_in served.met (met_by served.works.items) failed)
