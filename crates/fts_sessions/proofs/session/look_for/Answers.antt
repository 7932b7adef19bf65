use Rattle.std.proofs.Common.{inl}
use Rattle.fts_query.specs.View.{tree_of}
use Rattle.fts_query.specs.Seen.{leaves_seen, view_seen}
use Rattle.fts_sessions.proofs.Searching.{told_found, told_refused}
use Rattle.fts_sessions.proofs.session.look_for.Goals as goal

pub returns-in-Ok-view : goal.returns-in-Ok-view
returns-in-Ok-view g c =
    inl (told_found g.S.EngineSteps.sight (leaves_seen c.in-Ok.leaves.items) (tree_of c.args.query.now) c.args.steps.now c.view-view.new.self c.ids_ascend.ensures
    c.settings.result.now (view_seen c.in-Ok-view.view) c.found_in.result c.in-Ok.ensures c.settings.ensures.told c.found_in.ensures c.in-Ok-view.ensures.steps)

pub returns : goal.returns
returns g c =
    inl (told_refused g.S.EngineSteps.sight (leaves_seen c.in-Ok.leaves.items) (tree_of c.args.query.now) c.args.steps.now c.view-view.new.self
    c.in-Err-view.error c.not_viewed.result c.not_viewed.ensures c.in-Err-view.ensures.steps)
