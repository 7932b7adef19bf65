use Rattle.std.specs.Prelude.{ℕ, Bool, ◌&&◌, ◌||◌, ◌==◌, not, nat_lt}

-- a text holds printable ASCII and tabs
abbrev pub is_text_byte : ℕ → Bool
is_text_byte b = (b == 9) || (not (nat_lt b 32) && nat_lt b 127)
