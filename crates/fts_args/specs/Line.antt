-- What the command line may say, as `clap` sees it: the subcommands and the options of each.
use Rattle.std.specs.Prelude.{ℕ, List, [], ◌∷◌, Some, true, codes}
use Rattle.clap.specs.Simple.{new_shape}
use Rattle.clap.specs.Words.{App, Rule, Shape, Text, new_app, new_rule, with_subcommand}
use Rattle.clap.specs.declared.builder.action.ArgAction.TheVariants.{SetTrue}
use Rattle.clap.specs.declared.builder.value_parser.ValueParser.TheVariants.{Unsigned}

-- an option whose long name is its id
abbrev pub text_option : Text → Rule
text_option name = record (new_rule name) { long = Some name }

-- an option that takes a number from `least` to `most`, and its default
abbrev pub number_option : Text → ℕ → ℕ → Text → Rule
number_option name least most default =
    record (text_option name) { parser = Some (Unsigned least most); defaults = default ∷ [] }

-- a word that is a number of at most `most`, and must be there
abbrev pub number_argument : Text → ℕ → Rule
number_argument name most = record (new_rule name) { parser = Some (Unsigned 0 most); required = true }

abbrev pub create_options : List Rule
create_options =
    record (text_option (codes "columns")) { required = true }
    ∷ number_option (codes "min") 1 16 (codes "3")
    ∷ number_option (codes "max") 10 84 (codes "84")
    ∷ record (text_option (codes "no-stopword")) { action = Some SetTrue }
    ∷ number_option (codes "optimize-words") 1 10000 (codes "2000")
    ∷ number_option (codes "cache-bytes") 1000 80000000 (codes "8000000")
    ∷ number_option (codes "batch-docs") 1 100000 (codes "1000") ∷ []

abbrev pub create_line : Shape
create_line = record (new_shape (codes "create")) { rules = create_options }

abbrev pub gen_line : Shape
gen_line = record (new_shape (codes "gen")) {
  rules = number_argument (codes "seed") 65535 ∷ number_argument (codes "count") 1000000 ∷ [];
}

-- a subcommand is required, and there is no help
abbrev pub top_line : App
top_line = record (new_app (codes "fts")) {
  top = record (new_shape (codes "fts")) {
    disable_help_flag = true;
    disable_help_subcommand = true;
    subcommand_required = true;
  };
}

abbrev pub command_line : App
command_line =
    let some = with_subcommand (with_subcommand top_line create_line) (new_shape (codes "run")) in
    with_subcommand (with_subcommand some (new_shape (codes "serve"))) gen_line
