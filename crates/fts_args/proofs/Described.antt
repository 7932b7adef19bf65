-- A command of `clap` that is described by data, and has no argument that its subcommands share.
use Rattle.std.proofs.Common.{◌≡◌, ◌∙◌, ◌||◌, ap₂, false}
use Rattle.clap.specs.Words.{AddsArg, AddsSubcommand, App, Rule, Shape, app_of, rule_of, shape_of, with_rule, with_subcommand}
use Rattle.clap.specs.declared.builder.arg.Arg.{Arg}
use Rattle.clap.specs.declared.builder.command.Command.{Command}
use Rattle.clap.specs.declared.builder.command.Command.TheViews.{out-Command as fields_of}

pub record IsDescribed (app : App) (command : Command) : Type 0 where
  pub is : app_of command ≡ app
  pub local : (fields_of command).has_globals ≡ false

-- one more argument
pub described_arg : (app : App) (rule : Rule) (old : Command) (arg : Arg) (new : Command)
    → IsDescribed app old → rule_of arg ≡ rule → arg.global ≡ false → AddsArg old arg new
    → IsDescribed (with_rule app rule) new
described_arg app rule old arg new was is local adds = record {
  is = adds.shape local ∙ ap₂ with_rule was.is is;
  local = adds.globals ∙ ap₂ (λ a b. a || b) was.local local;
}

-- one more subcommand
pub described_subcommand : (app : App) (shape : Shape) (old sub new : Command)
    → IsDescribed app old → shape_of sub ≡ shape → (fields_of sub).has_globals ≡ false → AddsSubcommand old sub new
    → IsDescribed (with_subcommand app shape) new
described_subcommand app shape old sub new was is local adds = record {
  is = adds.shape local ∙ ap₂ with_subcommand was.is is;
  local = adds.globals ∙ ap₂ (λ a b. a || b) was.local local;
}
