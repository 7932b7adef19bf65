-- What is written of the replies of a script that was served.
use Rattle.std.specs.Prelude.{◌≡◌, ℕ, false, List, [], ◌∷◌, ◌++◌, take, Result, Ok, Err, Option, Some, None}
use Rattle.fts_schema.specs.declared.reply.Reply.{Reply}
use Rattle.fts_schema.specs.Reply.{text_of, is_fixed}
use Rattle.fts_top.specs.declared.ends.Unsent.{Unsent}
use Rattle.fts_top.specs.declared.ends.Unsent.TheVariants as unsent
use Rattle.fts_top.specs.Talk.{texts_of}

-- the replies that there are, in order
abbrev pub told : List (Option Reply) → List Reply
told [] = []
told (None ∷ all) = told all
told (Some reply ∷ all) = reply ∷ told all

-- of these replies the ones before this were written
pub record IsCutAt (replies earlier : List Reply) (next : Reply) : Type 0 where
  pub later : List Reply
  pub whole : replies ≡ earlier ++ next ∷ later

-- each reply was written; or those before one of them, and of it a part, or nothing for want of memory, which a text
-- that is fixed takes none of
abbrev pub SendsAll : Result (Unit {0}) Unsent → List Reply → List ℕ → List ℕ → Type 0
SendsAll (Ok done) replies before now = now ≡ before ++ texts_of replies
SendsAll (Err unsent.WriteFault) replies before now = (earlier : List Reply) × (next : Reply)
    × IsCutAt replies earlier next × (n : ℕ) × (now ≡ before ++ (texts_of earlier ++ take n (text_of next)))
SendsAll (Err unsent.NoMemory) replies before now = (earlier : List Reply) × (next : Reply)
    × IsCutAt replies earlier next × (is_fixed next ≡ false) × (now ≡ before ++ texts_of earlier)

-- so it is of one, if there is one
abbrev pub SendsOne : Result (Unit {0}) Unsent → Option Reply → List ℕ → List ℕ → Type 0
SendsOne result None before now = SendsAll result [] before now
SendsOne result (Some reply) before now = SendsAll result (reply ∷ []) before now
