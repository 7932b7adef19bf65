use Rattle.std.proofs.Common.{◌≡◌, ◌∙◌, ap, Bool, false, true}
use Rattle.std.proofs.lemmas.Result.{IfOk-weaker}
use Rattle.clap.specs.Simple.{app_of_fields}
use Rattle.clap.specs.Words.{App, app_of}
use Rattle.clap.specs.declared.builder.command.Command.{Command}
use Rattle.clap.specs.declared.builder.command.Command.TheOpen.{Command-F}
use Rattle.clap.specs.declared.builder.command.Command.TheViews.{out-Command as fields_of}
use Rattle.fts_args.specs.Line.{top_line}
use Rattle.fts_args.proofs.Described.{described_subcommand}
use Rattle.fts_args.proofs.line.command_line.Goals as goal

abbrev without_flag : App → App
without_flag a = record a { top = record a.top { disable_help_flag = true } }

abbrev without_help : App → App
without_help a = record a { top = record a.top { disable_help_subcommand = true } }

abbrev with_need : App → App
with_need a = record a { top = record a.top { subcommand_required = true } }

abbrev globals : Command-F Command → Bool
globals fields = fields.has_globals

pub returns : goal.returns
returns c =
    let flag : app_of c.disable_help_flag.result ≡ without_flag (app_of c.new.result) = ap app_of_fields c.disable_help_flag.ensures in
    let help : app_of c.disable_help_subcommand.result ≡ without_help (app_of c.disable_help_flag.result) =
    ap app_of_fields c.disable_help_subcommand.ensures in
    let need : app_of c.subcommand_required.result ≡ with_need (app_of c.disable_help_subcommand.result) =
    ap app_of_fields c.subcommand_required.ensures in
    let top : app_of c.subcommand_required.result ≡ top_line =
    need ∙ ap with_need (help ∙ ap without_help (flag ∙ ap without_flag c.new.ensures.app)) in
    let local : (fields_of c.subcommand_required.result).has_globals ≡ false =
    ap globals c.subcommand_required.ensures ∙ ap globals c.disable_help_subcommand.ensures
    ∙ ap globals c.disable_help_flag.ensures ∙ c.new.ensures.local in
    let first = described_subcommand top_line _ c.subcommand_required.result c.in_ok-create_line.field-0 c.in_ok-subcommand.field-0
    (record { is = top; local = local }) c.in_ok-create_line.ensures.shape c.in_ok-create_line.ensures.local c.in_ok-subcommand.ensures in
    let second = described_subcommand _ _ _ _ _ first (ap (λ (a : App). a.top) c.new-2.ensures.app) c.new-2.ensures.local c.in_ok-subcommand-2.ensures in
    let third = described_subcommand _ _ _ _ _ second (ap (λ (a : App). a.top) c.new-3.ensures.app) c.new-3.ensures.local c.in_ok-subcommand-3.ensures in
    IfOk-weaker c.subcommand-4.result _ _ (λ line adds.
    (described_subcommand _ _ _ _ line third c.in_ok-gen_line.ensures.shape c.in_ok-gen_line.ensures.local adds).is) c.subcommand-4.ensures
