-- What a crash in an append leaves, call by call.
use Rattle.std.proofs.Common.{◌≡◌, inl, inr, ⊎_elim, ℕ, ◌+◌, List, sym, ◌∙◌, subst}
use Rattle.fts_disk.specs.Device.{Files, OnFile, Torn}
use Rattle.fts_disk.specs.Crash.{Images, Within, Follows, Only, OnlyIn, Elapses}
use Rattle.fts_disk.specs.Moments.{LeavesOnly}
use Rattle.fts_disk.specs.declared.disk.Disk.{Ghosts}
use Rattle.fts_disk.proofs.Runs.{started, goes_on}
use Rattle.fts_log.specs.Device.{SameOthers}
use Rattle.fts_log.specs.Record.{Fits, log_end, IsLog}
use Rattle.fts_log.specs.Crash.{IsBefore, IsBeforeOrAfter}
use Rattle.fts_log.proofs.Appending.{IsStaged, after_torn, after_torn_gate}

-- all files as they read but file 0, step by step
others_more : (from mid to : Files) → SameOthers from mid → SameOthers mid to → SameOthers from to
others_more from mid to first then_ file apart = then_ file apart ∙ first file apart

module _ (magic : List ℕ) (entries : List (List ℕ)) (payload : List ℕ) (files : Files) (images : Images) (is_log : IsLog magic entries (files 0)) (durable : OnlyIn 0 files images) where
  as_read : (c : Files) → images c → IsLog magic entries (c 0)
  as_read c may = subst (IsLog magic entries) (sym (durable c may)) is_log

  -- before the first call
  pub at_start : (c : Files) → images c → IsBefore magic entries images c
  at_start c may = record { is_log = as_read c may; from = c; was = may; others = λ file apart i. c file }

  -- in the first write, or after it
  pub in_write : (at n : ℕ) (written : Images) → at ≡ log_end magic entries → Follows (OnFile 0 (Torn at n)) images written → (c : Files) → written c → IsBefore magic entries images c
  in_write at n written place follows c may =
      let from = follows c may in
      record {
        is_log = after_torn magic entries payload (from.0 0) (c 0) at n place (as_read from.0 from.1) from.2.this;
        from = from.0;
        was = from.1;
        others = from.2.others;
      }

  -- in the write of the gate, or after it, if the record was synced
  pub in_gate : (at : ℕ) (synced_files : Files) (written synced opened : Images) → at + 1 ≡ log_end magic entries → Fits payload
      → ((c : Files) → written c → IsBefore magic entries images c) → Within written synced → Only synced_files synced
      → IsStaged magic entries payload (synced_files 0) → SameOthers files synced_files
      → Follows (OnFile 0 (Torn at 1)) synced opened → (c : Files) → opened c → IsBeforeOrAfter magic entries payload images files c
  in_gate at synced_files written synced opened place fits before within only staged others follows c may =
      let from = follows c may in
      let was = before from.0 (within from.0 from.1) in
      let is_staged : IsStaged magic entries payload (from.0 0) = subst (IsStaged magic entries payload) (sym (only from.0 from.1 0)) staged in
      ⊎_elim
      (λ old. inl (record { is_log = old; from = was.from; was = was.was; others = others_more was.from from.0 c was.others from.2.others }))
      (λ new. inr (record { is_log = new; others = λ file apart. from.2.others file apart ∙ only from.0 from.1 file ∙ others file apart }))
      (after_torn_gate magic entries payload (from.0 0) (c 0) at place fits is_staged from.2.this)

-- what a crash at any moment of an append leaves, by the device as it was at its begin
abbrev pub AppendLeaves : {D : Type 0} (disk : Ghosts D) → D → List ℕ → List (List ℕ) → List ℕ → Images
AppendLeaves disk old magic entries payload = IsBeforeOrAfter magic entries payload (disk.images old) (disk.seen old)

-- one call of a device
abbrev pub Passes : {D : Type 0} (disk : Ghosts D) → D → D → Type 0
Passes disk old new = Elapses (disk.moment old) (disk.moment new) (disk.left_since old) (disk.left_since new) (disk.images new)

module _ {D : Type 0} (disk : Ghosts D) (old : D) (magic : List ℕ) (entries : List (List ℕ)) (payload : List ℕ)
    (is_log : IsLog magic entries (disk.seen old 0)) (durable : OnlyIn 0 (disk.seen old) (disk.images old))
    (only_now : (c : Files) → disk.left_since old (disk.moment old) c → disk.images old c) where
  pub run_start : LeavesOnly disk old old (AppendLeaves disk old magic entries payload)
  run_start = started disk old (AppendLeaves disk old magic entries payload)
      (λ c left. inl (at_start magic entries payload (disk.seen old) (disk.images old) is_log durable c (only_now c left)))

  module _ (written : D) (at n : ℕ) (place : at ≡ log_end magic entries) (follows : Follows (OnFile 0 (Torn at n)) (disk.images old) (disk.images written)) (passes : Passes disk old written) where
    before_gate : (c : Files) → disk.images written c → IsBefore magic entries (disk.images old) c
    before_gate = in_write magic entries payload (disk.seen old) (disk.images old) is_log durable at n (disk.images written) place follows

    pub run_write : LeavesOnly disk old written (AppendLeaves disk old magic entries payload)
    run_write = goes_on disk old old written (AppendLeaves disk old magic entries payload) run_start passes (λ c may. inl (before_gate c may))

    module _ (synced : D) (within : Within (disk.images written) (disk.images synced)) (syncs : Passes disk written synced) where
      pub run_sync : LeavesOnly disk old synced (AppendLeaves disk old magic entries payload)
      run_sync = goes_on disk old written synced (AppendLeaves disk old magic entries payload) run_write syncs (λ c may. inl (before_gate c (within c may)))

      module _ (opened : D) (gate : ℕ) (here : gate + 1 ≡ log_end magic entries) (fits : Fits payload) (only : Only (disk.seen synced) (disk.images synced))
          (staged : IsStaged magic entries payload (disk.seen synced 0)) (others : SameOthers (disk.seen old) (disk.seen synced))
          (opens : Follows (OnFile 0 (Torn gate 1)) (disk.images synced) (disk.images opened)) (passes' : Passes disk synced opened) where
        either_stands : (c : Files) → disk.images opened c → AppendLeaves disk old magic entries payload c
        either_stands = in_gate magic entries payload (disk.seen old) (disk.images old) is_log durable gate (disk.seen synced) (disk.images written) (disk.images synced) (disk.images opened)
            here fits before_gate within only staged others opens

        pub run_gate : LeavesOnly disk old opened (AppendLeaves disk old magic entries payload)
        run_gate = goes_on disk old synced opened (AppendLeaves disk old magic entries payload) run_sync passes' either_stands

        pub run_last : (last : D) → Within (disk.images opened) (disk.images last) → Passes disk opened last → LeavesOnly disk old last (AppendLeaves disk old magic entries payload)
        run_last last within' passes'' = goes_on disk old opened last (AppendLeaves disk old magic entries payload) run_gate passes'' (λ c may. either_stands c (within' c may))
