-- What a crash may leave of the files of a device.
use Rattle.std.specs.Prelude.{◌≡◌, ◌⊎◌, ℕ, ◌≤◌}
use Rattle.fts_disk.specs.Device.{Files}

-- which files a crash may leave
abbrev pub Images : Type 1
Images = Files → Type 0

-- a crash leaves nothing that it could not leave before
abbrev pub Within : Images → Images → Type 0
Within old new = (c : Files) → new c → old c

-- what a crash leaves, a step made of something that it could leave before
abbrev pub Follows : (Files → Files → Type 0) → Images → Images → Type 0
Follows step old new = (c : Files) → new c → (d : Files) × old d × step d c

-- a crash leaves these files and no others
abbrev pub Only : Files → Images → Type 0
Only files images = (c : Files) → images c → (file : ℕ) → c file ≡ files file

-- of this file, a crash leaves what these files have
abbrev pub OnlyIn : ℕ → Files → Images → Type 0
OnlyIn file files images = (c : Files) → images c → c file ≡ files file

-- over a call the clock does not go back; what a crash since a moment before the call leaves is what it left
-- up to the call, and what it may leave now
pub record Elapses (before now : ℕ) (past since : ℕ → Images) (images : Images) : Type 0 where
  pub later : before ≤ now
  pub nothing_else : (t : ℕ) (c : Files) → t ≤ before → since t c → past t c ⊎ images c
  pub keeps : (t : ℕ) (c : Files) → t ≤ before → past t c → since t c
