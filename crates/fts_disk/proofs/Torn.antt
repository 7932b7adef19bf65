-- What a write or a cut does to the bytes of a file, whole or stopped.
use Rattle.std.proofs.Common.{◌≡◌, ◌≢◌, ⊎_elim, ℕ, ◌+◌, ◌≤◌, List, ◌++◌, length, take, drop, Bool, if◌then◌else◌, refl, sym, ◌∙◌, ap, subst, arith, length-append, append_assoc}
use Rattle.std.proofs.lemmas.Bool.{cases_eq, eq-eqb, ne_eqb}
use Rattle.std.proofs.lemmas.List.{take_all, take_at, take_min, length-take, length-drop}
use Rattle.std.proofs.lemmas.Slice.{drop-append-drop}
use Rattle.fts_disk.specs.Device.{Files, OnFile, Torn, Shortened}
use Rattle.fts_disk.specs.Replay.{put_in, overwritten}

-- one that changed nothing
pub torn_none : (at n : ℕ) (bytes : List ℕ) → Torn at n bytes bytes
torn_none at n bytes = record {
  before = refl;
  after = refl;
  no_shorter = omega arith;
  no_longer = omega arith;
}

pub shortened_none : (n : ℕ) (bytes : List ℕ) → Shortened n bytes bytes
shortened_none n bytes = record { no_shorter = omega arith; front = take_all (length bytes) bytes (omega arith) }

-- some bytes of the range were written, from its begin on
pub torn_part : (at n : ℕ) (bytes old : List ℕ) → at ≤ length old → length bytes ≤ n → Torn at n old (overwritten at bytes old)
torn_part at n bytes old here few =
    let front = take at old in
    let rest = drop (at + length bytes) old in
    let long : length front ≡ at = omega (arith, length-take at old) in
    let size : length (overwritten at bytes old) ≡ at + length bytes + length rest = omega (arith, length-append (front ++ bytes) rest, length-append front bytes, long) in
    record {
      before = ap (take at) (append_assoc front bytes rest) ∙ take_at front (bytes ++ rest) at long;
      after = drop-append-drop (at + length bytes) old (front ++ bytes) (at + n) (omega arith) (omega (arith, long, length-append front bytes));
      no_shorter = omega (arith, size, length-drop (at + length bytes) old);
      no_longer = omega (arith, size, length-drop (at + length bytes) old);
    }

-- all of the bytes
pub torn_written : (at : ℕ) (bytes old : List ℕ) → at ≤ length old → Torn at (length bytes) old (overwritten at bytes old)
torn_written at bytes old here = torn_part at (length bytes) bytes old here (omega arith)

-- cut to a length that is no less
pub shortened_part : (n m : ℕ) (old : List ℕ) → n ≤ m → Shortened n old (take m old)
shortened_part n m old le = record {
  no_shorter = omega (arith, length-take m old);
  front = ap (λ (k : ℕ). take k old) (length-take m old) ∙ take_min m old;
}

-- of one file, by what it did to its bytes
module _ (file : ℕ) where
  pub none_here : (step : List ℕ → List ℕ → Type 0) (files : Files) → step (files file) (files file) → OnFile file step files files
  none_here step files goes = record { this = goes; others = λ other apart. refl }

  pub put_here : (bytes : List ℕ) (files : Files) → put_in file bytes files file ≡ bytes
  put_here bytes files = ap (λ (b : Bool). if b then bytes else files file) (eq-eqb file file refl)

  pub put_there : (bytes : List ℕ) (files : Files) (other : ℕ) → other ≢ file → put_in file bytes files other ≡ files other
  put_there bytes files other apart = ap (λ (b : Bool). if b then bytes else files other) (ne_eqb other file apart)

  pub put_on_file : (step : List ℕ → List ℕ → Type 0) (bytes : List ℕ) (files : Files) → step (files file) bytes → OnFile file step files (put_in file bytes files)
  put_on_file step bytes files goes = record {
    this = subst (step (files file)) (sym (put_here bytes files)) goes;
    others = put_there bytes files;
  }

  -- the only files that a step with one outcome makes
  pub is_put : (bytes : List ℕ) (old new : Files) → OnFile file (λ (from to : List ℕ). to ≡ bytes) old new → new ≡ put_in file bytes old
  is_put bytes old new goes = λ i other. each other i
    where
      each : (other : ℕ) → new other ≡ put_in file bytes old other
      each other = ⊎_elim
          (λ here. ap new here ∙ goes.this ∙ sym (put_here bytes old) ∙ ap (put_in file bytes old) (sym here))
          (λ apart. goes.others other apart ∙ sym (put_there bytes old other apart))
          (cases_eq other file)

  -- a step that changed nothing
  pub kept_files : (step : List ℕ → List ℕ → Type 0) (old new : Files) → ((bytes : List ℕ) → step bytes bytes) → new ≡ old → OnFile file step old new
  kept_files step old new none same = subst (λ (to : Files). OnFile file step old to) (sym same) (none_here step old (none (old file)))

pub torn_kept : (file at n : ℕ) (old new : Files) → new ≡ old → OnFile file (Torn at n) old new
torn_kept file at n old new same = kept_files file (Torn at n) old new (torn_none at n) same
