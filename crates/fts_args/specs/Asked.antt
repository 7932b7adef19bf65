-- What the words of a command line ask for.
use Rattle.std.specs.Prelude.{◌≡◌, ◌==◌, ℕ, not, List, [], Option, Some, codes, option_map}
use Rattle.std.specs.List.{slice_split}
use Rattle.clap.specs.Words.{Row, Text, fault_of, first_of, subcommand_of}
use Rattle.fts_args.specs.Line.{command_line}
use Rattle.fts_args.specs.Options.{flag_in, number_in}
use Rattle.fts_args.specs.declared.command.Command.{Command}
use Rattle.fts_args.specs.declared.command.Command.TheVariants.{Create, Run, Serve, Gen}
use Rattle.fts_types.specs.declared.settings.Settings.{Settings}
use Rattle.fts_types.specs.Settings.{AreSettings}

-- the parts of a text between its commas
abbrev pub comma_parts : Text → List Text
comma_parts text = slice_split (λ b. b == 44) text

-- the settings but for the columns are what the options of `create` say, each by its own or by its default
pub record HasOptions (rows : List Row) (settings : Settings) : Type 0 where
  pub min : number_in 8 (codes "min") rows ≡ Some settings.min
  pub max : number_in 8 (codes "max") rows ≡ Some settings.max
  pub stopword : option_map not (flag_in (codes "no-stopword") rows) ≡ Some settings.stopword
  pub optimize_words : number_in 16 (codes "optimize-words") rows ≡ Some settings.optimize_words
  pub cache_bytes : number_in 32 (codes "cache-bytes") rows ≡ Some settings.cache_bytes
  pub batch_docs : number_in 32 (codes "batch-docs") rows ≡ Some settings.batch_docs

-- the settings are what the options of `create` say, and a database can have them
pub record HasSettings (rows : List Row) (settings : Settings) : Type 0 where
  pub columns : option_map comma_parts (first_of (codes "columns") rows) ≡ Some settings.columns
  pub options : HasOptions rows settings
  pub fit : AreSettings settings

-- the words of `gen` say these two numbers
pub record HasNumbers (rows : List Row) (first second : ℕ) : Type 0 where
  pub seed : number_in 16 (codes "seed") rows ≡ Some first
  pub count : number_in 32 (codes "count") rows ≡ Some second

-- what a subcommand asks for, by its name and the rows of its options
abbrev pub IsCommand : Text × List Row → Command → Type 0
IsCommand met (Create settings) = (met.0 ≡ codes "create") × HasSettings met.1 settings
IsCommand met Run = met.0 ≡ codes "run"
IsCommand met Serve = met.0 ≡ codes "serve"
IsCommand met (Gen seed count) = (met.0 ≡ codes "gen") × HasNumbers met.1 seed count

-- what the subcommand that was met asks for, if one was
abbrev pub IsAsked : Option (Text × List Row) → Command → Type 0
IsAsked found command = (met : Text × List Row) × (found ≡ Some met) × IsCommand met command

-- the words, of which the first is the folder, ask for the command: `clap` takes them, and meets this subcommand
pub record Asks (words : List Text) (command : Command) : Type 0 where
  pub taken : fault_of command_line words ≡ []
  pub asked : IsAsked (subcommand_of command_line words) command

-- the words ask for no command
abbrev pub AskNothing : List Text → Type 0
AskNothing words = (command : Command) → Asks words command → ⊥
