use Rattle.std.proofs.Common.{◌≡◌, ◌∙◌, ap, codes, Some, true}
use Rattle.std.proofs.lemmas.Result.{IfOk-weaker}
use Rattle.clap.specs.Words.{AddsArg, App, Rule, new_app, rule_of}
use Rattle.clap.specs.declared.builder.arg.Arg.{Arg}
use Rattle.clap.specs.declared.builder.command.Command.{Command}
use Rattle.clap.specs.declared.builder.action.ArgAction.TheVariants.{SetTrue}
use Rattle.fts_args.specs.Line.{text_option}
use Rattle.fts_args.proofs.Described.{described_arg}
use Rattle.fts_args.proofs.line.create_line.Goals as goal

pub returns : goal.returns
returns c =
    let columns : rule_of c.required.result ≡ record (text_option (codes "columns")) { required = true } =
    ap rule_of c.required.ensures ∙ ap (λ (r : Rule). record r { required = true }) c.text_option.ensures.rule in
    let stopword : rule_of c.action.result ≡ record (text_option (codes "no-stopword")) { action = Some SetTrue } =
    ap rule_of c.action.ensures ∙ ap (λ (r : Rule). record r { action = Some SetTrue }) c.text_option-2.ensures.rule in
    let first = described_arg (new_app (codes "create")) _ c.new.result c.required.result c.in_ok-arg.field-0
    (record { is = c.new.ensures.app; local = c.new.ensures.local }) columns (ap (λ (a : Arg). a.global) c.required.ensures ∙ c.text_option.ensures.local) c.in_ok-arg.ensures in
    let second = described_arg _ _ _ _ _ first c.number_option.ensures.rule c.number_option.ensures.local c.in_ok-arg-2.ensures in
    let third = described_arg _ _ _ _ _ second c.number_option-2.ensures.rule c.number_option-2.ensures.local c.in_ok-arg-3.ensures in
    let fourth = described_arg _ _ _ c.action.result _ third stopword (ap (λ (a : Arg). a.global) c.action.ensures ∙ c.text_option-2.ensures.local) c.in_ok-arg-4.ensures in
    let fifth = described_arg _ _ _ _ _ fourth c.number_option-3.ensures.rule c.number_option-3.ensures.local c.in_ok-arg-5.ensures in
    let sixth = described_arg _ _ _ _ _ fifth c.number_option-4.ensures.rule c.number_option-4.ensures.local c.in_ok-arg-6.ensures in
    let all = λ (line : Command) (adds : AddsArg c.in_ok-arg-6.field-0 c.number_option-5.result line). described_arg _ _ _ _ line sixth c.number_option-5.ensures.rule c.number_option-5.ensures.local adds in
    record {
      shape = IfOk-weaker c.arg-7.result _ _ (λ line adds. ap (λ (a : App). a.top) (all line adds).is) c.arg-7.ensures;
      local = IfOk-weaker c.arg-7.result _ _ (λ line adds. (all line adds).local) c.arg-7.ensures;
    }
