-- What the options of a subcommand are, of the rows that `clap` has for them.
use Rattle.std.specs.Prelude.{◌&&◌, ◌^◌, ℕ, Bool, true, false, List, Option, Some, None, if◌then◌else◌, nat_lt, codes}
use Rattle.std.specs.Prelude.{option_and_then}
use Rattle.std.specs.Str.{bytes_eq}
use Rattle.std.specs.Str.Parse.{digits_value, without_leading_plus}
use Rattle.clap.specs.ValueTests.{is_numeral}
use Rattle.clap.specs.Words.{Row, Text, one_of}

-- the number of at most so many bits that a text writes in decimal digits, a plus before them or none
abbrev pub number_of : ℕ → Text → Option ℕ
number_of bits text =
    let digits = without_leading_plus text in
    if is_numeral digits && nat_lt (digits_value 10 digits) (2 ^ bits) then Some (digits_value 10 digits) else None

-- the number of an option
abbrev pub number_in : ℕ → Text → List Row → Option ℕ
number_in bits name rows = option_and_then (number_of bits) (one_of name rows)

abbrev pub flag_of : Text → Option Bool
flag_of text =
    if bytes_eq text (codes "true") then Some true else if bytes_eq text (codes "false") then Some false else None

-- whether a flag was used
abbrev pub flag_in : Text → List Row → Option Bool
flag_in name rows = option_and_then flag_of (one_of name rows)
