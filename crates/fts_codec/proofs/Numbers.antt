-- Numbers as byteorder reads them.
use Rattle.std.proofs.Common.{◌≡◌, ℕ, List, arith}
use Rattle.std.specs.Int.{w16, w32, w64, from_be_bytes}
use Rattle.byteorder.specs.Endian.{big_number}

pub big16 : (bytes : List ℕ) → big_number 2 bytes ≡ from_be_bytes w16 bytes
big16 bytes = omega arith

pub big32 : (bytes : List ℕ) → big_number 4 bytes ≡ from_be_bytes w32 bytes
big32 bytes = omega arith

pub big64 : (bytes : List ℕ) → big_number 8 bytes ≡ from_be_bytes w64 bytes
big64 bytes = omega arith
