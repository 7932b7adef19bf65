use Rattle.std.proofs.Common.{ap, codes}
use Rattle.std.proofs.lemmas.Result.{IfOk-weaker}
use Rattle.clap.specs.Words.{AddsArg, App, new_app}
use Rattle.clap.specs.declared.builder.command.Command.{Command}
use Rattle.fts_args.proofs.Described.{described_arg}
use Rattle.fts_args.proofs.line.gen_line.Goals as goal

pub returns : goal.returns
returns c =
    let first = described_arg (new_app (codes "gen")) _ c.new.result c.number_argument.result c.in_ok-arg.field-0
    (record { is = c.new.ensures.app; local = c.new.ensures.local }) c.number_argument.ensures.rule c.number_argument.ensures.local c.in_ok-arg.ensures in
    let all = λ (line : Command) (adds : AddsArg c.in_ok-arg.field-0 c.number_argument-2.result line).
    described_arg _ _ _ _ line first c.number_argument-2.ensures.rule c.number_argument-2.ensures.local adds in
    record {
      shape = IfOk-weaker c.arg-2.result _ _ (λ line adds. ap (λ (a : App). a.top) (all line adds).is) c.arg-2.ensures;
      local = IfOk-weaker c.arg-2.result _ _ (λ line adds. (all line adds).local) c.arg-2.ensures;
    }
