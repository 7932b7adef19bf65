-- What the words of a command line ask for.
use Rattle.std.proofs.Common.{◌≡◌, List, ℕ, ◌∙◌, subst, Option, Some, None}
use Rattle.std.specs.Prelude.{IfSome, IfNone}
use Rattle.fts_types.specs.declared.settings.Settings.{Settings}
use Rattle.fts_args.specs.Asked.{Asks}
use Rattle.fts_args.specs.declared.command.Command.{Command}
use Rattle.fts_args.specs.declared.command.Command.TheVariants.{Create}
use Rattle.fts_args.proofs.One.{asks_one}

-- no command was found
pub not_asked : {P : Type 0} (found : Option Command) → found ≡ None → IfNone found P → P
not_asked None is p = p
not_asked (Some command) is p = absurd cc

-- this command was found
pub is_asked : (P : Command → Type 0) (found : Option Command) (command same : Command) → found ≡ Some command → command ≡ same → IfSome found P → P same
is_asked P None command same is is' p = absurd cc
is_asked P (Some other) command same is is' p = subst P (let both : other ≡ same = (let e : other ≡ command = (let f = is in cc) in e ∙ is') in both) p

-- words ask for one settings alone
pub one_settings : (words : List (List ℕ)) (s t : Settings) → Asks words (Create s) → Asks words (Create t) → s ≡ t
one_settings words s t h k = let same : Create s ≡ Create t = asks_one words (Create s) (Create t) h k in cc
