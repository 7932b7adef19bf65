-- An image is picked call by call.
use Rattle.std.proofs.Common.{◌≡◌, ◌⊎◌, inl, inr, ⊎_elim, ℕ, ◌+◌, ◌<◌, ◌≤◌, List, [], ◌∷◌, ◌++◌, length, take, get_or, true, false, refl, sym, ◌∙◌, ap, subst, arith}
use Rattle.std.proofs.lemmas.List.{take_more}
use Rattle.fts_disk.specs.Device.{Files, OnFile, Written, Torn}
use Rattle.fts_disk.specs.Crash.{Images}
use Rattle.fts_disk.specs.Replay.{Same, settles, step_seen, step_images, StepsOnDisk, seen_after, images_now, images_at, IsLeftIn}
use Rattle.fts_disk.specs.declared.memory.Call.{Call}
use Rattle.fts_disk.specs.declared.memory.Call.TheVariants.{Len, Read, Write, Cut, Sync}
use Rattle.fts_disk.proofs.Recording.{seen_push, images_pushed}
use Rattle.fts_disk.proofs.Torn.{torn_part}

-- a write of no more bytes than these, from the begin of their range on
pub torn_picked : (file at n : ℕ) (picked : List ℕ) (old new : Files) → length picked ≤ n → at ≤ length (old file) → OnFile file (Written at picked) old new → OnFile file (Torn at n) old new
torn_picked file at n picked old new few here goes = record {
  this = subst (Torn at n (old file)) (sym goes.this) (torn_part at n picked (old file) here few);
  others = goes.others;
}

-- a step of a call that is no sync that was done
pending_step : (call : Call) (seen : Files) (images : Images) (old new : Files) → settles call ≡ false → images old → StepsOnDisk call old new → step_images call seen images new
pending_step (Len file done) seen images old new pending here step = subst images (sym step) here
pending_step (Read file at count done) seen images old new pending here step = subst images (sym step) here
pending_step (Write file at bytes done) seen images old new pending here step = inr (old, here, step)
pending_step (Cut file len done) seen images old new pending here step = inr (old, here, step)
pending_step (Sync true) seen images old new pending here step = absurd (let no : true ≡ false = pending in cc)
pending_step (Sync false) seen images old new pending here step = subst images (sym step) here

settled_step : (call : Call) (seen : Files) (images : Images) (files : Files) → settles call ≡ true → Same (step_seen call seen) files → step_images call seen images files
settled_step (Len file done) seen images files settled same = absurd (let no : false ≡ true = settled in cc)
settled_step (Read file at count done) seen images files settled same = absurd (let no : false ≡ true = settled in cc)
settled_step (Write file at bytes done) seen images files settled same = absurd (let no : false ≡ true = settled in cc)
settled_step (Cut file len done) seen images files settled same = absurd (let no : false ≡ true = settled in cc)
settled_step (Sync true) seen images files settled same = same
settled_step (Sync false) seen images files settled same = absurd (let no : false ≡ true = settled in cc)

stop_step : (call : Call) (seen : Files) (images : Images) (old new : Files) → images old → StepsOnDisk call old new → images new ⊎ step_images call seen images new
stop_step (Len file done) seen images old new here step = inl (subst images (sym step) here)
stop_step (Read file at count done) seen images old new here step = inl (subst images (sym step) here)
stop_step (Write file at bytes done) seen images old new here step = inr (inr (old, here, step))
stop_step (Cut file len done) seen images old new here step = inr (inr (old, here, step))
stop_step (Sync done) seen images old new here step = inl (subst images (sym step) here)

module _ (calls : List Call) (first : Files) (k : ℕ) (call : Call) (within : k < length calls) (d : Call) (here : call ≡ get_or calls k d) where
  next : take (k + 1) calls ≡ take k calls ++ call ∷ []
  next = take_more calls k d within ∙ ap (λ (call : Call). take k calls ++ call ∷ []) (sym here)

  pub seen_next : seen_after (take (k + 1) calls) first ≡ step_seen call (seen_after (take k calls) first)
  seen_next = ap (λ (calls : List Call). seen_after calls first) next ∙ seen_push (take k calls) call first

  image_next : (c : Files) → step_images call (seen_after (take k calls) first) (images_at k calls first) c → images_at (k + 1) calls first c
  image_next c step = subst (λ (calls : List Call). images_now calls first c) (sym next) (images_pushed (take k calls) call first (Same first) c step)

  pub image_pending : (old new : Files) → settles call ≡ false → images_at k calls first old → StepsOnDisk call old new → images_at (k + 1) calls first new
  image_pending old new pending at step = image_next new (pending_step call (seen_after (take k calls) first) (images_at k calls first) old new pending at step)

  pub image_stop : (old new : Files) → images_at k calls first old → StepsOnDisk call old new → IsLeftIn k calls first new
  image_stop old new at step = ⊎_elim inl (λ stepped. inr (image_next new stepped)) (stop_step call (seen_after (take k calls) first) (images_at k calls first) old new at step)

  pub image_settled : (files : Files) → settles call ≡ true → files ≡ seen_after (take (k + 1) calls) first → images_at (k + 1) calls first files
  image_settled files settled same =
      image_next files (settled_step call (seen_after (take k calls) first) (images_at k calls first) files settled (λ file. ap (λ (files : Files). files file) (same ∙ seen_next)))

-- after the last sync that was done, or at first, a crash leaves what the files read
pub image_begins : (calls : List Call) (first : Files) (n : ℕ) (d : Call) (files : Files) → (n ≡ 0) ⊎ ((k : ℕ) × (n ≡ k + 1) × (settles (get_or calls k d) ≡ true)) → n ≤ length calls
    → files ≡ seen_after (take n calls) first → images_at n calls first files
image_begins calls first n d files begins within same = ⊎_elim
    (λ none. subst (λ (n : ℕ). images_at n calls first files) (sym none) (λ file. ap (λ (files : Files). files file) (same ∙ ap (λ (n : ℕ). seen_after (take n calls) first) none)))
    (λ (k, is, settled). subst (λ (n : ℕ). images_at n calls first files) (sym is)
    (image_settled calls first k (get_or calls k d) (omega (arith, is)) d refl files settled (same ∙ ap (λ (n : ℕ). seen_after (take n calls) first) is)))
    begins
