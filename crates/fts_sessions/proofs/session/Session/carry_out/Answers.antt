use Rattle.std.proofs.Common.{ap, refl, sym, subst}
use Rattle.fts_sql.specs.declared.statement.Statement.TheVariants.{Insert, Update, Delete}
use Rattle.fts_sql.specs.Statement.{IsStatement}
use Rattle.fts_sessions.specs.Request.{opens, closes, rolls_back, changes, syncs, optimizes, lists}
use Rattle.fts_sessions.specs.Conversation.{ends}
use Rattle.fts_sessions.proofs.Executing.{done, ended_at_once, gone_on, searched}
use Rattle.fts_sessions.proofs.Changing.{stays}
use Rattle.fts_sessions.proofs.Values.{line_fit}
use Rattle.fts_sessions.proofs.session.Session.carry_out.Goals as goal

pub returns-in-Begin-clause-executes : goal.returns-in-Begin-clause-executes
returns-in-Begin-clause-executes g c = λ line is.
    gone_on g.S.EngineSteps.sight line c.args.self.now.transaction opens
    (subst (IsStatement line) c.in-Begin.is is)
    c.args.steps.now c.begin.new.steps c.begin.result c.begin.new.transaction c.begin.ensures.goes c.begin.ensures.behind

pub returns-in-Commit-clause-executes : goal.returns-in-Commit-clause-executes
returns-in-Commit-clause-executes g c = λ line is.
    done g.S.EngineSteps.sight line c.args.self.now.transaction closes
    (subst (IsStatement line) c.in-Commit.is is)
    (λ settings answer. refl) (λ settings. refl) c.args.steps.now c.commit.new.steps c.commit.result c.commit.new.transaction c.commit.ensures.does c.commit.ensures.behind

pub returns-in-Rollback-clause-executes : goal.returns-in-Rollback-clause-executes
returns-in-Rollback-clause-executes g c = λ line is.
    ended_at_once g.S.EngineSteps.sight line c.args.self.now.transaction rolls_back
    (subst (IsStatement line) c.in-Rollback.is is)
    c.args.steps.now c.rollback.result c.rollback.new.transaction (ap ends (sym c.rollback.ensures.told)) c.rollback.ensures.closed

pub insert-requires-clause-fit : goal.insert-requires-clause-fit
insert-requires-clause-fit g c = let line = c.requires.said.0 in let is = c.requires.said.1 in line_fit line (Insert c.in-Insert.table c.in-Insert.columns c.in-Insert.values) (subst (IsStatement line) c.in-Insert.is is)

pub returns-in-Insert-clause-executes : goal.returns-in-Insert-clause-executes
returns-in-Insert-clause-executes g c = λ line is.
    done g.S.EngineSteps.sight line c.args.self.now.transaction (changes (Insert c.in-Insert.table c.in-Insert.columns c.in-Insert.values))
    ((subst (IsStatement line) c.in-Insert.is is), tt)
    (λ settings answer. refl) (λ settings. stays _ _) c.args.steps.now c.insert.new.steps c.insert.result c.insert.new.transaction c.insert.ensures.does c.insert.ensures.behind

pub update-requires-clause-fit : goal.update-requires-clause-fit
update-requires-clause-fit g c = let line = c.requires.said.0 in let is = c.requires.said.1 in line_fit line (Update c.in-Update.table c.in-Update.columns c.in-Update.texts c.in-Update.key) (subst (IsStatement line) c.in-Update.is is)

pub returns-in-Update-clause-executes : goal.returns-in-Update-clause-executes
returns-in-Update-clause-executes g c = λ line is.
    done g.S.EngineSteps.sight line c.args.self.now.transaction (changes (Update c.in-Update.table c.in-Update.columns c.in-Update.texts c.in-Update.key))
    ((subst (IsStatement line) c.in-Update.is is), tt)
    (λ settings answer. refl) (λ settings. stays _ _) c.args.steps.now c.update.new.steps c.update.result c.update.new.transaction c.update.ensures.does c.update.ensures.behind

pub delete-requires-clause-fit : goal.delete-requires-clause-fit
delete-requires-clause-fit g c = let line = c.requires.said.0 in let is = c.requires.said.1 in line_fit line (Delete c.in-Delete.table c.in-Delete.key) (subst (IsStatement line) c.in-Delete.is is)

pub returns-in-Delete-clause-executes : goal.returns-in-Delete-clause-executes
returns-in-Delete-clause-executes g c = λ line is.
    done g.S.EngineSteps.sight line c.args.self.now.transaction (changes (Delete c.in-Delete.table c.in-Delete.key))
    ((subst (IsStatement line) c.in-Delete.is is), tt)
    (λ settings answer. refl) (λ settings. stays _ _) c.args.steps.now c.delete.new.steps c.delete.result c.delete.new.transaction c.delete.ensures.does c.delete.ensures.behind

pub returns-in-Match-clause-executes : goal.returns-in-Match-clause-executes
returns-in-Match-clause-executes g c = λ line is.
    searched g.S.EngineSteps.sight line c.args.self.now.transaction c.in-Match.table c.in-Match.columns c.in-Match.query
    (subst (IsStatement line) c.in-Match.is is)
    c.args.steps.now c.search.new.steps c.search.result
    (rw c.as_slice.ensures at c.search.ensures)

pub returns-in-Sync-clause-executes : goal.returns-in-Sync-clause-executes
returns-in-Sync-clause-executes g c = λ line is.
    gone_on g.S.EngineSteps.sight line c.args.self.now.transaction syncs
    (subst (IsStatement line) c.in-Sync.is is)
    c.args.steps.now c.sync.new.steps c.sync.result c.args.self.now.transaction (c.sync.ensures c.args.self.now.transaction) refl

pub returns-in-Optimize-clause-executes : goal.returns-in-Optimize-clause-executes
returns-in-Optimize-clause-executes g c = λ line is.
    gone_on g.S.EngineSteps.sight line c.args.self.now.transaction (optimizes c.in-Optimize.table)
    (subst (IsStatement line) c.in-Optimize.is is)
    c.args.steps.now c.optimize.new.steps c.optimize.result c.args.self.now.transaction (c.optimize.ensures c.args.self.now.transaction) refl

pub returns-in-List-clause-executes : goal.returns-in-List-clause-executes
returns-in-List-clause-executes g c = λ line is.
    done g.S.EngineSteps.sight line c.args.self.now.transaction (lists c.in-List.schema c.in-List.view)
    (subst (IsStatement line) c.in-List.is is)
    (λ settings answer. refl) (λ settings. refl) c.args.steps.now c.list.new.steps c.list.result c.args.self.now.transaction c.list.ensures refl
