-- What the matches of a command line say of its words.
use Rattle.std.proofs.Common.{◌≡◌, ◌∙◌, List, [], Option, true, ap, refl, subst, sym}
use Rattle.std.specs.Prelude.{IfNone, IfOk, IfSome, None, Some, Ok, Err, Result}
use Rattle.clap.specs.Words.{App, HasMatchesOf, Row, Text, fault_of, is_simple, is_simple_and_free, subcommand_of, subcommand_rows_of}
use Rattle.clap.specs.declared.parser.matches.ArgMatches.{ArgMatches}
use Rattle.fts_args.specs.Asked.{Asks, IsAsked}
use Rattle.fts_args.specs.Line.{command_line}
use Rattle.fts_args.specs.declared.command.Command.{Command}

-- the command line is of the kind of which `clap` says all
pub line_is_simple : is_simple command_line ≡ true
line_is_simple = refl

pub line_is_free : is_simple_and_free command_line ≡ true
line_is_free = refl

module _ (app : App) (words : List Text) (line : app ≡ command_line) where
  -- the words are taken where `clap` says no fault of them
  pub words_taken : (is_simple_and_free app ≡ true → fault_of app words ≡ []) → fault_of command_line words ≡ []
  words_taken no_fault = ap (λ (a : App). fault_of a words) (sym line) ∙ no_fault (ap is_simple_and_free line ∙ line_is_free)

  -- the matches have the subcommand that the words name
  pub words_met : (matches : ArgMatches) → HasMatchesOf app words matches → subcommand_rows_of matches ≡ subcommand_of command_line words
  words_met matches has = (has (ap is_simple line ∙ line_is_simple)).1 ∙ ap (λ (a : App). subcommand_of a words) line

module _ {E : Type 0} (words : List Text) (met : Option (Text × List Row)) (taken : fault_of command_line words ≡ [])
    (same : met ≡ subcommand_of command_line words) where
  pub words_ask : (r : Result (Option Command) E) → IfOk r (λ found. IfSome found (IsAsked met)) → IfOk r (λ found. IfSome found (Asks words))
  words_ask (Ok (Some command)) is = record { taken = taken; asked = subst (λ m. IsAsked m command) same is }
  words_ask (Ok None) is = is
  words_ask (Err e) is = is

  pub words_ask_nothing : (r : Result (Option Command) E) → IfOk r (λ found. IfNone found ((command : Command) → IsAsked met command → ⊥))
      → IfOk r (λ found. IfNone found ((command : Command) → Asks words command → ⊥))
  words_ask_nothing (Ok None) is = λ command asks. is command (subst (λ m. IsAsked m command) (sym same) asks.asked)
  words_ask_nothing (Ok (Some command)) is = is
  words_ask_nothing (Err e) is = is
