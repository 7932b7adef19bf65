-- What a reader of fields returned.
use Rattle.std.specs.Prelude.{◌≡◌, ℕ, Result, Ok, Err}
use Rattle.fts_codec.specs.declared.fault.Fault.{Fault}
use Rattle.fts_codec.specs.declared.fault.Fault.TheVariants.{NoMemory, Bad}

-- seen by view, it is what reading gives, unless memory ran out
abbrev pub Lacks : {Y : Type 0} → Fault → Result Y ℕ → Type 0
Lacks NoMemory read = Unit {0}
Lacks (Bad left) read = read ≡ Err left

abbrev pub Gives : {X Y : Type 0} → (X → Y) → Result X Fault → Result Y ℕ → Type 0
Gives view (Ok x) read = read ≡ Ok (view x)
Gives view (Err e) read = Lacks e read
