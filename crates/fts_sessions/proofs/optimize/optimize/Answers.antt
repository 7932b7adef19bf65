use Rattle.std.proofs.Common.{◌≡◌, [], Option, Some, None, sym, ap, ◌∙◌}
use Rattle.fts_schema.specs.declared.reply.Reply.{Reply}
use Rattle.fts_steps.specs.Step.{to_optimize}
use Rattle.fts_sessions.specs.Request.{optimizes}
use Rattle.fts_sessions.specs.Conversation.{asks, ends, begins, unknown_name, unless_unknown}
use Rattle.fts_sessions.proofs.Executing.{calm}
use Rattle.fts_sessions.proofs.Going.{ends_here}
use Rattle.fts_sessions.proofs.optimize.optimize.Goals as goal

pub returns-in-Some : goal.returns-in-Some
returns-in-Some g c = λ transaction.
    let settings = g.S.EngineSteps.sight.settings c.args.steps.now in
    let refused : unknown_name settings.columns c.args.table [] ≡ Some c.in-Some.reply = sym (c.unknown_table.ensures settings.columns) ∙ c.in-Some.is in
    let ended : begins settings transaction (optimizes c.args.table) ≡ ends c.in-Some.reply = ap (λ (reply : Option Reply). unless_unknown reply (asks to_optimize)) refused in
    ends_here g.S.EngineSteps.sight settings transaction (optimizes c.args.table) [] c.args.steps.now c.in-Some.reply ended
    (λ fault. calm settings transaction (optimizes c.args.table) (ended ∙ ap ends fault))

pub returns-in-None : goal.returns-in-None
returns-in-None g c = λ transaction.
    let settings = g.S.EngineSteps.sight.settings c.args.steps.now in
    let known : unknown_name settings.columns c.args.table [] ≡ None = sym (c.unknown_table.ensures settings.columns) ∙ c.in-None.is in
    c.make_steps.ensures settings transaction c.args.table (sym (c.from-most.ensures ∙ c.optimize_words.ensures))
    (ap (λ (reply : Option Reply). unless_unknown reply (asks to_optimize)) known)
