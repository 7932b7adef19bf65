use Rattle.std.specs.Prelude.{ℕ, Vec, List, Option, Some, None}
use Rattle.std.specs.declared.alloc.Global.{Global}

-- the bytes of a new text, or none
abbrev pub new_text : Option (Vec ℕ Global) → Option (List ℕ)
new_text (Some text) = Some text.items
new_text None = None
