-- One call more in a record.
use Rattle.std.proofs.Common.{◌≡◌, ◌⊎◌, inl, inr, ⊎_elim, ℕ, ◌+◌, ◌≤◌, List, [], ◌∷◌, ◌++◌, length, take, Bool, true, false, if◌then◌else◌, Result, Ok, Err, OnOk, OnErr, All, refl, sym, ◌∙◌, ap, subst, arith, length-append}
use Rattle.std.proofs.lemmas.Bool.{cases_lt}
use Rattle.std.proofs.lemmas.List.{take-append-le}
use Rattle.std.proofs.lemmas.List.Elements.{All-push}
use Rattle.fts_disk.specs.Device.{Files}
use Rattle.fts_disk.specs.Crash.{Images, Within, Only, Elapses}
use Rattle.fts_disk.specs.Replay.{Same, step_seen, step_images, seen_after, images_after, images_now, left_after, IsLook, IsOfFile}
use Rattle.fts_disk.specs.ReplayLaws.{stays, whole}
use Rattle.fts_disk.specs.declared.memory.Call.{Call}
use Rattle.fts_disk.specs.declared.memory.Call.TheVariants.{Len, Read, Write, Cut, Sync}

pub seen_push : (calls : List Call) (call : Call) (files : Files) → seen_after (calls ++ call ∷ []) files ≡ step_seen call (seen_after calls files)
seen_push [] call files = refl
seen_push (x ∷ calls) call files = seen_push calls call (step_seen x files)

pub images_push : (calls : List Call) (call : Call) (files : Files) (images : Images) (c : Files) → images_after (calls ++ call ∷ []) files images c
    → step_images call (seen_after calls files) (images_after calls files images) c
images_push [] call files images c here = here
images_push (x ∷ calls) call files images c here = images_push calls call (step_seen x files) (step_images x files images) c here

pub images_pushed : (calls : List Call) (call : Call) (files : Files) (images : Images) (c : Files)
    → step_images call (seen_after calls files) (images_after calls files images) c → images_after (calls ++ call ∷ []) files images c
images_pushed [] call files images c here = here
images_pushed (x ∷ calls) call files images c here = images_pushed calls call (step_seen x files) (step_images x files images) c here

-- a call that only looks adds no image
look_step : (call : Call) (files : Files) (images : Images) → IsLook call → images files → (c : Files) → step_images call files images c → images c
look_step (Len file done) files images is here c step = step
look_step (Read file at count done) files images is here c step = step
look_step (Write file at bytes done) files images is here c step = absurd is
look_step (Cut file len done) files images is here c step = absurd is
look_step (Sync true) files images is here c step =
    let same : files ≡ c = λ i f. sym (step f) i in
    subst images same here
look_step (Sync false) files images is here c step = step

-- it changes no bytes
look_seen : (call : Call) (files : Files) → IsLook call → step_seen call files ≡ files
look_seen (Len file done) files is = refl
look_seen (Read file at count done) files is = refl
look_seen (Write file at bytes done) files is = absurd is
look_seen (Cut file len done) files is = absurd is
look_seen (Sync done) files is = refl

module _ (calls : List Call) (call : Call) (first : Files) where
  pub looks_within : IsLook call → Within (images_now calls first) (images_now (calls ++ call ∷ []) first)
  looks_within is c here = look_step call (seen_after calls first) (images_now calls first) is (stays calls first (Same first) (λ f. refl)) c (images_push calls call first (Same first) c here)

  pub looks_tied : (files : Files) → IsLook call → files ≡ seen_after calls first → files ≡ seen_after (calls ++ call ∷ []) first
  looks_tied files is tied = tied ∙ sym (seen_push calls call first ∙ look_seen call (seen_after calls first) is)

  at_front : (k : ℕ) → k ≤ length calls → take k (calls ++ call ∷ []) ≡ take k calls
  at_front k le = take-append-le k calls (call ∷ []) le

  pub elapses_push : Elapses (length calls) (length (calls ++ call ∷ [])) (λ t. left_after t calls first) (λ t. left_after t (calls ++ call ∷ []) first) (images_now (calls ++ call ∷ []) first)
  elapses_push = record {
    later = omega (arith, length-append calls (call ∷ []));
    nothing_else = λ t c le (k, from, to, here). ⊎_elim
        (λ short. inl (k, from, omega (arith, short), subst (λ (front : List Call). images_now front first c) (at_front k (omega (arith, short))) here))
        (λ long. inr (subst (λ (front : List Call). images_now front first c) (whole (calls ++ call ∷ []) k (omega (arith, long, length-append calls (call ∷ [])))) here))
        (cases_lt k (length calls + 1));
    keeps = λ t c le (k, from, to, here). (k, from, omega (arith, to, length-append calls (call ∷ [])), subst (λ (front : List Call). images_now front first c) (sym (at_front k to)) here);
  }

pub elapses_same : (calls : List Call) (first : Files) → Elapses (length calls) (length calls) (λ t. left_after t calls first) (λ t. left_after t calls first) (images_now calls first)
elapses_same calls first = record { later = omega arith; nothing_else = λ t c le left. inl left; keeps = λ t c le left. left }

-- a record with one call more, or as it was
abbrev pub Grew : Call → List Call → List Call → Type 0
Grew call old new = (new ≡ old ++ call ∷ []) ⊎ (new ≡ old)

pub grew_if : (b : Bool) (call : Call) (old new : List Call) → new ≡ (if b then old ++ call ∷ [] else old) → Grew call old new
grew_if true call old new is = inl is
grew_if false call old new is = inr is

pub grew_on : {T E : Type 0} (result : Result T E) (call : Call) (old new : List Call) → OnOk result (new ≡ old ++ call ∷ []) → OnErr result (new ≡ old) → Grew call old new
grew_on result call old new = elim result as (λ result. OnOk result (new ≡ old ++ call ∷ []) → OnErr result (new ≡ old) → Grew call old new)
    [ Ok x ↦ λ ok err. inl ok | Err e ↦ λ ok err. inr err ]

-- what holds with the call and without it holds
pub of_both : (P : List Call → Type 0) (call : Call) (old new : List Call) → Grew call old new → P (old ++ call ∷ []) → P old → P new
of_both P call old new grew pushed same = ⊎_elim (λ e. subst P (sym e) pushed) (λ e. subst P (sym e) same) grew

pub grew_elapses : (call : Call) (old new : List Call) (first : Files) → Grew call old new
    → Elapses (length old) (length new) (λ t. left_after t old first) (λ t. left_after t new first) (images_now new first)
grew_elapses call old new first grew =
    of_both (λ new. Elapses (length old) (length new) (λ t. left_after t old first) (λ t. left_after t new first) (images_now new first)) call old new grew
    (elapses_push old call first) (elapses_same old first)

pub grew_within : (call : Call) (old new : List Call) (first : Files) → Grew call old new → IsLook call → Within (images_now old first) (images_now new first)
grew_within call old new first grew is = of_both (λ new. Within (images_now old first) (images_now new first)) call old new grew (looks_within old call first is) (λ c here. here)

pub grew_tied : (call : Call) (old new : List Call) (first files : Files) → Grew call old new → IsLook call → files ≡ seen_after old first → files ≡ seen_after new first
grew_tied call old new first files grew is tied = of_both (λ new. files ≡ seen_after new first) call old new grew (looks_tied old call first files is tied) tied

pub grew_proper : (call : Call) (old new : List Call) → Grew call old new → IsOfFile call → All IsOfFile old → All IsOfFile new
grew_proper call old new grew file proper = of_both (All IsOfFile) call old new grew (All-push IsOfFile old call proper file) proper

-- after a sync that was done, a crash leaves the files as they read
pub synced : (old new : List Call) (first files : Files) (done : Bool) → new ≡ old ++ Sync done ∷ [] → done ≡ true → files ≡ seen_after old first → Only files (images_now new first)
synced old new first files done grew is_done tied c here file =
    let Step : Bool → Type 0 = λ done. step_images (Sync done) (seen_after old first) (images_now old first) c in
    let same : Same (seen_after old first) c = subst Step is_done (images_push old (Sync done) first (Same first) c (subst (λ (calls : List Call). images_now calls first c) grew here)) in
    same file ∙ ap (λ (files : Files). files file) (sym tied)

-- a sync that failed leaves what was pending
pub still_pending : (old new : List Call) (first : Files) (done : Bool) → Grew (Sync done) old new → done ≡ false → Within (images_now new first) (images_now old first)
still_pending old new first done grew failed c may =
    let Step : Bool → Type 0 = λ done. step_images (Sync done) (seen_after old first) (images_now old first) c in
    of_both (λ calls. images_now calls first c) (Sync done) old new grew (images_pushed old (Sync done) first (Same first) c (subst Step (sym failed) may)) may
