-- How runs of device calls go on.
use Rattle.std.proofs.Common.{◌≡◌, ℕ, ◌≤◌, refl, ◌∙◌, inl, inr, ⊎_elim, arith}
use Rattle.fts_disk.specs.Device.{Files}
use Rattle.fts_disk.specs.Crash.{Images, Within, Elapses}
use Rattle.fts_disk.specs.Moments.{LeavesOnly, LeavesAsBefore, Looks}
use Rattle.fts_disk.specs.declared.disk.Disk.{Ghosts}

module _ {D : Type 0} (disk : Ghosts D) where
  -- before the first call
  pub started : (old : D) (P : Images) → ((c : Files) → disk.left_since old (disk.moment old) c → P c) → LeavesOnly disk old old P
  started old P here = record { later = omega arith; each = here; before = λ t c le left. inl left }

  -- one call more, after which a crash leaves what has P
  pub goes_on : (old mid new : D) (P : Images) → LeavesOnly disk old mid P → Elapses (disk.moment mid) (disk.moment new) (disk.left_since mid) (disk.left_since new) (disk.images new)
      → ((c : Files) → disk.images new c → P c) → LeavesOnly disk old new P
  goes_on old mid new P so_far time here = record {
    later = omega (arith, so_far.later, time.later);
    each = λ c left. ⊎_elim (so_far.each c) (here c) (time.nothing_else (disk.moment old) c so_far.later left);
    before = λ t c le left. ⊎_elim (so_far.before t c le) (λ now. inr (here c now)) (time.nothing_else t c (omega (arith, le, so_far.later)) left);
  }

  -- no call
  pub leaves_none : (old : D) → ((c : Files) → disk.left_since old (disk.moment old) c → disk.images old c) → LeavesAsBefore disk old old
  leaves_none old here = record { within = λ c may. may; any_moment = started old (disk.images old) here }

  -- one call more that adds no image
  pub leaves_step : (old mid new : D) → LeavesAsBefore disk old mid → Within (disk.images mid) (disk.images new)
      → Elapses (disk.moment mid) (disk.moment new) (disk.left_since mid) (disk.left_since new) (disk.images new) → LeavesAsBefore disk old new
  leaves_step old mid new so_far within time = record {
    within = λ c may. so_far.within c (within c may);
    any_moment = goes_on old mid new (disk.images old) so_far.any_moment time (λ c may. so_far.within c (within c may));
  }

  -- two runs
  pub leaves_more : (old mid new : D) → LeavesAsBefore disk old mid → LeavesAsBefore disk mid new → LeavesAsBefore disk old new
  leaves_more old mid new first then_ = record {
    within = λ c may. first.within c (then_.within c may);
    any_moment = record {
      later = omega (arith, first.any_moment.later, then_.any_moment.later);
      each = λ c left. ⊎_elim (first.any_moment.each c) (first.within c) (then_.any_moment.before (disk.moment old) c first.any_moment.later left);
      before = λ t c le left. ⊎_elim (first.any_moment.before t c le) (λ may. inr (first.within c may)) (then_.any_moment.before t c (omega (arith, le, first.any_moment.later)) left);
    };
  }

  -- no call
  pub looks_none : (old : D) → ((c : Files) → disk.left_since old (disk.moment old) c → disk.images old c) → Looks disk old old
  looks_none old here = record { seen = refl; crash = leaves_none old here }

  -- one look more
  pub looks_step : (old mid new : D) → Looks disk old mid → disk.seen new ≡ disk.seen mid → Within (disk.images mid) (disk.images new)
      → Elapses (disk.moment mid) (disk.moment new) (disk.left_since mid) (disk.left_since new) (disk.images new) → Looks disk old new
  looks_step old mid new so_far same within time = record { seen = same ∙ so_far.seen; crash = leaves_step old mid new so_far.crash within time }

  -- two runs of looks
  pub looks_more : (old mid new : D) → Looks disk old mid → Looks disk mid new → Looks disk old new
  looks_more old mid new first then_ = record { seen = then_.seen ∙ first.seen; crash = leaves_more old mid new first.crash then_.crash }

  -- what a crash leaves at any moment of a run, the device reads as behind it
  pub reads_now : (old new : D) (P : Images) → ((t : ℕ) (c : Files) → t ≤ disk.moment new → disk.images new c → disk.left_since new t c)
      → disk.images new (disk.seen new) → LeavesOnly disk old new P → P (disk.seen new)
  reads_now old new P counts may run = run.each (disk.seen new) (counts (disk.moment old) (disk.seen new) run.later may)

  -- what a crash leaves has what follows from it too
  pub leaves_weaker : (old new : D) (P Q : Images) → ((c : Files) → P c → Q c) → LeavesOnly disk old new P → LeavesOnly disk old new Q
  leaves_weaker old new P Q follows run = record {
    later = run.later;
    each = λ c left. follows c (run.each c left);
    before = λ t c le left. ⊎_elim inl (λ may. inr (follows c may)) (run.before t c le left);
  }
