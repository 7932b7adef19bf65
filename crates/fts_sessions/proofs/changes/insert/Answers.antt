use Rattle.std.proofs.Common.{◌∷◌, [], length, subst, sym}
use Rattle.fts_types.specs.declared.settings.Settings.{Settings}
use Rattle.fts_commits.specs.Fits.{CanCommit}
use Rattle.fts_sql.specs.declared.statement.Statement.TheVariants.{Insert}
use Rattle.fts_sessions.specs.Conversation.{unknown_name}
use Rattle.fts_sessions.specs.Table.{change_of}
use Rattle.fts_sessions.proofs.Changing.{made_of}
use Rattle.fts_sessions.proofs.Values.{change_can}
use Rattle.fts_sessions.proofs.changes.insert.Goals as goal

pub change-requires-clause-can : goal.change-requires-clause-can
change-requires-clause-can g c made is =
    let columns = c.settings.result.now.columns in
    let statement = Insert c.args.table c.args.names.now c.args.values in
    subst (λ (settings : Settings). CanCommit (length settings.columns) (made ∷ [])) c.settings.ensures.settings
    (change_can columns c.settings.ensures.some c.settings.ensures.few statement made c.requires.fit
    (made_of (unknown_name columns c.args.table c.args.names.now) (change_of columns statement) made (sym (rw is at c.asked_insert-asked.ensures))))
