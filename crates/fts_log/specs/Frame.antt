-- What a frame holds.
use Rattle.std.specs.Prelude.{ℕ, ◌-◌, List, length, take, drop}
use Rattle.fts_log.specs.declared.frame.Framed.{Framed}

-- the payload that is framed
abbrev pub payload_of : Framed → List ℕ
payload_of framed = take (length framed.bytes.items - 5) (drop 4 framed.bytes.items)
