-- What small command lines ask for, worked out by hand: what the definitions compute.
use Rattle.std.proofs.Common.{◌≡◌, true, false, List, [], ◌∷◌, Option, Some, None, refl}
use Rattle.std.specs.Prelude.{codes, option_map}
use Rattle.clap.specs.Words.{Row, Text, fault_of, first_of, subcommand_of}
use Rattle.clap.specs.declared.error.kind.ErrorKind.TheVariants as kind
use Rattle.clap.proofs.OnLiterals.{clap_on_literals}
use Rattle.fts_args.specs.Asked.{comma_parts}
use Rattle.fts_args.specs.Line.{command_line}
use Rattle.fts_args.specs.Options.{flag_in, number_in}

abbrev name_of : List Text → Option Text
name_of words = option_map (λ met. met.0) (subcommand_of command_line words)

abbrev options_of : List Text → List Row
options_of words = go (subcommand_of command_line words)
  where
    go : Option (Text × List Row) → List Row
    go None = []
    go (Some met) = met.1

abbrev create : List Text → List Text
create options = codes "D" ∷ codes "create" ∷ codes "--columns" ∷ options

-- `D create --columns title,body --min=2 --no-stopword`
abbrev two_columns : List Text
two_columns = create (codes "title,body" ∷ codes "--min=2" ∷ codes "--no-stopword" ∷ [])

two_columns_taken : fault_of command_line two_columns ≡ []
unfolding clap_on_literals
two_columns_taken = refl

two_columns_name : name_of two_columns ≡ Some (codes "create")
unfolding clap_on_literals
two_columns_name = refl

two_columns_columns : option_map comma_parts (first_of (codes "columns") (options_of two_columns)) ≡ Some (codes "title" ∷ codes "body" ∷ [])
unfolding clap_on_literals
two_columns_columns = refl

two_columns_min : number_in 8 (codes "min") (options_of two_columns) ≡ Some 2
unfolding clap_on_literals
two_columns_min = refl

two_columns_max : number_in 8 (codes "max") (options_of two_columns) ≡ Some 84
unfolding clap_on_literals
two_columns_max = refl

two_columns_stopword : flag_in (codes "no-stopword") (options_of two_columns) ≡ Some true
unfolding clap_on_literals
two_columns_stopword = refl

two_columns_cache_bytes : number_in 32 (codes "cache-bytes") (options_of two_columns) ≡ Some 8000000
unfolding clap_on_literals
two_columns_cache_bytes = refl

-- `D create --columns body`
abbrev one_column : List Text
one_column = create (codes "body" ∷ [])

one_column_taken : fault_of command_line one_column ≡ []
unfolding clap_on_literals
one_column_taken = refl

one_column_stopword : flag_in (codes "no-stopword") (options_of one_column) ≡ Some false
unfolding clap_on_literals
one_column_stopword = refl

one_column_optimize_words : number_in 16 (codes "optimize-words") (options_of one_column) ≡ Some 2000
unfolding clap_on_literals
one_column_optimize_words = refl

run_taken : fault_of command_line (codes "D" ∷ codes "run" ∷ []) ≡ []
unfolding clap_on_literals
run_taken = refl

run_name : name_of (codes "D" ∷ codes "run" ∷ []) ≡ Some (codes "run")
unfolding clap_on_literals
run_name = refl

serve_taken : fault_of command_line (codes "D" ∷ codes "serve" ∷ []) ≡ []
unfolding clap_on_literals
serve_taken = refl

serve_name : name_of (codes "D" ∷ codes "serve" ∷ []) ≡ Some (codes "serve")
unfolding clap_on_literals
serve_name = refl

-- what is refused, with the kind of its fault

nothing_asked : fault_of command_line [] ≡ kind.MissingSubcommand ∷ []
unfolding clap_on_literals
nothing_asked = refl

folder_alone : fault_of command_line (codes "D" ∷ []) ≡ kind.MissingSubcommand ∷ []
unfolding clap_on_literals
folder_alone = refl

word_after_run : fault_of command_line (codes "D" ∷ codes "run" ∷ codes "x" ∷ []) ≡ kind.UnknownArgument ∷ []
unfolding clap_on_literals
word_after_run = refl

word_after_serve : fault_of command_line (codes "D" ∷ codes "serve" ∷ codes "x" ∷ []) ≡ kind.UnknownArgument ∷ []
unfolding clap_on_literals
word_after_serve = refl

help_flag : fault_of command_line (codes "D" ∷ codes "--help" ∷ []) ≡ kind.UnknownArgument ∷ []
unfolding clap_on_literals
help_flag = refl

help_of_create : fault_of command_line (codes "D" ∷ codes "create" ∷ codes "-h" ∷ []) ≡ kind.UnknownArgument ∷ []
unfolding clap_on_literals
help_of_create = refl

no_columns : fault_of command_line (codes "D" ∷ codes "create" ∷ []) ≡ kind.MissingRequiredArgument ∷ []
unfolding clap_on_literals
no_columns = refl

least_min_and_most_max : fault_of command_line (create (codes "a" ∷ codes "--min" ∷ codes "1" ∷ codes "--max" ∷ codes "84" ∷ [])) ≡ []
unfolding clap_on_literals
least_min_and_most_max = refl

min_of_0 : fault_of command_line (create (codes "a" ∷ codes "--min" ∷ codes "0" ∷ [])) ≡ kind.ValueValidation ∷ []
unfolding clap_on_literals
min_of_0 = refl

min_of_17 : fault_of command_line (create (codes "a" ∷ codes "--min" ∷ codes "17" ∷ [])) ≡ kind.ValueValidation ∷ []
unfolding clap_on_literals
min_of_17 = refl

max_of_9 : fault_of command_line (create (codes "a" ∷ codes "--max=9" ∷ [])) ≡ kind.ValueValidation ∷ []
unfolding clap_on_literals
max_of_9 = refl

min_twice : fault_of command_line (create (codes "a" ∷ codes "--min" ∷ codes "3" ∷ codes "--min" ∷ codes "3" ∷ [])) ≡ kind.ArgumentConflict ∷ []
unfolding clap_on_literals
min_twice = refl

flag_with_value : fault_of command_line (create (codes "a" ∷ codes "--no-stopword=true" ∷ [])) ≡ kind.TooManyValues ∷ []
unfolding clap_on_literals
flag_with_value = refl

word_after_create : fault_of command_line (create (codes "a" ∷ codes "x" ∷ [])) ≡ kind.UnknownArgument ∷ []
unfolding clap_on_literals
word_after_create = refl

-- `D gen 1 5`
abbrev generated : Text → Text → List Text
generated seed count = codes "D" ∷ codes "gen" ∷ seed ∷ count ∷ []

generated_taken : fault_of command_line (generated (codes "65535") (codes "1000000")) ≡ []
unfolding clap_on_literals
generated_taken = refl

generated_name : name_of (generated (codes "1") (codes "5")) ≡ Some (codes "gen")
unfolding clap_on_literals
generated_name = refl

generated_seed : number_in 16 (codes "seed") (options_of (generated (codes "1") (codes "5"))) ≡ Some 1
unfolding clap_on_literals
generated_seed = refl

generated_count : number_in 32 (codes "count") (options_of (generated (codes "1") (codes "5"))) ≡ Some 5
unfolding clap_on_literals
generated_count = refl

seed_too_large : fault_of command_line (generated (codes "65536") (codes "1")) ≡ kind.ValueValidation ∷ []
unfolding clap_on_literals
seed_too_large = refl

count_too_large : fault_of command_line (generated (codes "1") (codes "1000001")) ≡ kind.ValueValidation ∷ []
unfolding clap_on_literals
count_too_large = refl

no_count : fault_of command_line (codes "D" ∷ codes "gen" ∷ codes "1" ∷ []) ≡ kind.MissingRequiredArgument ∷ []
unfolding clap_on_literals
no_count = refl
