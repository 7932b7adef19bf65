-- A write or a cut put into a record.
use Rattle.std.proofs.Common.{◌≡◌, ◌⊎◌, inl, inr, ⊎_elim, ℕ, ◌≤◌, List, [], ◌∷◌, ◌++◌, length, take, Bool, true, false, Result, Ok, Err, OnOk, OnErr, Vec, All, sym, ◌∙◌, ap, subst, arith}
use Rattle.std.specs.declared.alloc.Global.{Global}
use Rattle.fts_disk.specs.Device.{Files, OnFile, Written, Torn, Shortened}
use Rattle.fts_disk.specs.Crash.{Images, Follows, Elapses}
use Rattle.fts_disk.specs.Replay.{Same, put_in, overwritten, step_seen, step_images, seen_after, images_now, left_after, IsOfFile, IsWriteOf, IsCutOf}
use Rattle.fts_disk.specs.declared.memory.Call.{Call}
use Rattle.fts_disk.specs.declared.memory.Call.TheVariants.{Write, Cut}
use Rattle.fts_disk.proofs.Recording.{seen_push, images_push, elapses_same, grew_elapses, grew_proper}
use Rattle.fts_disk.proofs.Torn.{torn_none, torn_written, shortened_none, shortened_part, none_here, put_on_file, is_put}

-- what the files read after a write that was done, and after one that was not
pub wrote : (file at : ℕ) (noted : Vec ℕ Global) (bytes : List ℕ) (done : Bool) (old new : Files) → noted.items ≡ bytes → done ≡ true → OnFile file (Written at bytes) old new
    → new ≡ step_seen (Write file at noted done) old
wrote file at noted bytes done old new same is_done goes =
    let Step : Bool → Type 0 = λ done. new ≡ step_seen (Write file at noted done) old in
    let all : new ≡ put_in file (overwritten at bytes (old file)) old = is_put file (overwritten at bytes (old file)) old new (record { this = goes.this; others = goes.others }) in
    subst Step (sym is_done) (all ∙ ap (λ (bytes : List ℕ). put_in file (overwritten at bytes (old file)) old) (sym same))

pub not_written : (file at : ℕ) (noted : Vec ℕ Global) (done : Bool) (old new : Files) → done ≡ false → new ≡ old → new ≡ step_seen (Write file at noted done) old
not_written file at noted done old new undone same =
    let Step : Bool → Type 0 = λ done. new ≡ step_seen (Write file at noted done) old in
    subst Step (sym undone) same

-- the call was put into the record and the files took it, or neither happened
abbrev pub Changed : (Call → Type 0) → List Call → List Call → Files → Files → Type 0
Changed Kind old new files files' = ((call : Call) × Kind call × (new ≡ old ++ call ∷ []) × (files' ≡ step_seen call files)) ⊎ ((new ≡ old) × (files' ≡ files))

pub changed_on : {T E : Type 0} (result : Result T E) (Kind : Call → Type 0) (old new : List Call) (files files' : Files)
    → OnOk result ((call : Call) × Kind call × (new ≡ old ++ call ∷ []) × (files' ≡ step_seen call files)) → OnErr result (new ≡ old) → OnErr result (files' ≡ files) → Changed Kind old new files files'
changed_on result Kind old new files files' =
    elim result as (λ result. OnOk result ((call : Call) × Kind call × (new ≡ old ++ call ∷ []) × (files' ≡ step_seen call files)) → OnErr result (new ≡ old) → OnErr result (files' ≡ files) → Changed Kind old new files files')
    [ Ok x ↦ λ ok err same. inl ok | Err e ↦ λ ok err same. inr (err, same) ]

module _ (Kind : Call → Type 0) (old new : List Call) (files files' first : Files) (changed : Changed Kind old new files files') where
  pub changed_tied : files ≡ seen_after old first → files' ≡ seen_after new first
  changed_tied tied = ⊎_elim
      (λ (call, is, grew, goes). goes ∙ ap (step_seen call) tied ∙ sym (seen_push old call first) ∙ ap (λ (calls : List Call). seen_after calls first) (sym grew))
      (λ (grew, same). same ∙ tied ∙ ap (λ (calls : List Call). seen_after calls first) (sym grew))
      changed

  pub changed_elapses : Elapses (length old) (length new) (λ t. left_after t old first) (λ t. left_after t new first) (images_now new first)
  changed_elapses = ⊎_elim
      (λ (call, is, grew, goes). grew_elapses call old new first (inl grew))
      (λ (grew, same). subst (λ new. Elapses (length old) (length new) (λ t. left_after t old first) (λ t. left_after t new first) (images_now new first)) (sym grew) (elapses_same old first))
      changed

  pub changed_proper : ((call : Call) → Kind call → IsOfFile call) → All IsOfFile old → All IsOfFile new
  changed_proper file proper = ⊎_elim
      (λ (call, is, grew, goes). grew_proper call old new (inl grew) (file call is) proper)
      (λ (grew, same). subst (All IsOfFile) (sym grew) proper)
      changed

  -- what a crash leaves, if each such call makes a step of what a crash could leave before
  pub changed_follows : (step : Files → Files → Type 0) → ((c : Files) → step c c)
      → ((call : Call) → Kind call → (c : Files) → step_images call (seen_after old first) (images_now old first) c → (d : Files) × images_now old first d × step d c)
      → Follows step (images_now old first) (images_now new first)
  changed_follows step none each = ⊎_elim
      (λ (call, is, grew, goes). λ c here. each call is c (images_push old call first (Same first) c (subst (λ (calls : List Call). images_now calls first c) grew here)))
      (λ (grew, same). λ c here. (c, subst (λ (calls : List Call). images_now calls first c) grew here, none c))
      changed

-- of one file, by what the files read
module _ (file : ℕ) (seen : Files) (images : Images) (may : images seen) (c : Files) where
  as_read : (step : List ℕ → List ℕ → Type 0) (done : Files) → OnFile file step seen done → Same done c → (d : Files) × images d × OnFile file step d c
  as_read step done goes same =
      let is : done ≡ c = λ i f. sym (same f) i in
      (seen, may, subst (OnFile file step seen) is goes)

  write_images : (at : ℕ) (noted : Vec ℕ Global) (done : Bool) → at ≤ length (seen file) → step_images (Write file at noted done) seen images c
      → (d : Files) × images d × OnFile file (Torn at (length noted.items)) d c
  write_images at noted true here step = ⊎_elim
      (as_read (Torn at (length noted.items)) (put_in file (overwritten at noted.items (seen file)) seen)
      (put_on_file file (Torn at (length noted.items)) (overwritten at noted.items (seen file)) seen (torn_written at noted.items (seen file) here)))
      (λ other. other) step
  write_images at noted false here step = ⊎_elim
      (as_read (Torn at (length noted.items)) seen (none_here file (Torn at (length noted.items)) seen (torn_none at (length noted.items) (seen file))))
      (λ other. other) step

  pub write_leaves : (at : ℕ) (bytes : List ℕ) (done : Bool) (call : Call) → at ≤ length (seen file) → IsWriteOf file at bytes done call → step_images call seen images c
      → (d : Files) × images d × OnFile file (Torn at (length bytes)) d c
  write_leaves at bytes done call here (noted, same, is) step =
      let Leaves : ℕ → Type 0 = λ n. (d : Files) × images d × OnFile file (Torn at n) d c in
      subst Leaves (ap length same) (write_images at noted done here (subst (λ (call : Call). step_images call seen images c) is step))

  cut_images : (len : ℕ) (done : Bool) → step_images (Cut file len done) seen images c → (d : Files) × images d × OnFile file (Shortened len) d c
  cut_images len true step = ⊎_elim
      (as_read (Shortened len) (put_in file (take len (seen file)) seen) (put_on_file file (Shortened len) (take len (seen file)) seen (shortened_part len len (seen file) (omega arith))))
      (λ other. other) step
  cut_images len false step = ⊎_elim
      (as_read (Shortened len) seen (none_here file (Shortened len) seen (shortened_none len (seen file))))
      (λ other. other) step

  pub cut_leaves : (len : ℕ) (done : Bool) (call : Call) → IsCutOf file len done call → step_images call seen images c → (d : Files) × images d × OnFile file (Shortened len) d c
  cut_leaves len done call is step = cut_images len done (subst (λ (call : Call). step_images call seen images c) is step)
