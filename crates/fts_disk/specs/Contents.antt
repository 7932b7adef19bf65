use Rattle.std.specs.Prelude.{ℕ, List, [], map, slice_index_or, Vec}
use Rattle.std.specs.declared.alloc.Global.{Global}
use Rattle.fts_disk.specs.Device.{Files}

-- what a list of files holds, by their numbers; a file past its end is empty
abbrev pub contents : List (Vec ℕ Global) → Files
contents files file = slice_index_or (map (λ (v : Vec ℕ Global). v.items) files) file []
