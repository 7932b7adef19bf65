-- A call put into the record, and how it is answered.
use Rattle.std.proofs.Common.{◌⊎◌, inl, inr, ⊎_elim, Bool, true, false, not, Result, Ok, Err, IsErr, OnOk, OnErr, IsTrue, refl}
use Rattle.std.proofs.lemmas.Bool.{false≢true}

pub noted_on : {S F T E : Type 0} (outcome : Result S F) (result : Result T E) (named : Bool) (P : Bool → Type 0) (Q R : Type 0)
    → (IsErr result → IsTrue named ⊎ IsErr outcome) → (IsTrue named ⊎ IsErr outcome → IsErr result)
    → OnOk outcome (P (not named)) → OnOk outcome Q → OnErr outcome R → OnOk result (P true) × OnErr result ((P false × Q) ⊎ R)
noted_on (Ok x) (Ok y) true P Q R from to put same none = absurd (false≢true (to (inl refl)))
noted_on (Ok x) (Ok y) false P Q R from to put same none = (put, _)
noted_on (Ok x) (Err e) true P Q R from to put same none = (_, inl (put, same))
noted_on (Ok x) (Err e) false P Q R from to put same none = absurd (⊎_elim false≢true false≢true (from refl))
noted_on (Err f) (Ok y) named P Q R from to put same none = absurd (false≢true (to (inr refl)))
noted_on (Err f) (Err e) named P Q R from to put same none = (_, inr none)
