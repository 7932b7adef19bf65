use Rattle.std.proofs.Common.{subst}
use Rattle.fts_types.specs.Rules.{rules_of}
use Rattle.fts_index.specs.Index.{PlansBatch}
use Rattle.fts_index.proofs.Made.{made_flushed, made_same}
use Rattle.fts_index_tests.proofs.index.sync.Goals as goal

pub install_sync-requires : goal.install_sync-requires
install_sync-requires c =
    let rules = rules_of c.args.settings.now in
    let made = c.requires.2 in
    (subst (PlansBatch rules c.args.batch_docs made.turns made.state c.plan_sync.new.self) c.in-Some.is (c.in_ok-planned.ensures.planned rules made.turns made.state made.stands made.commits made.fits)).1

pub returns-in-Some : goal.returns-in-Some
returns-in-Some c = λ last dead made.
    let rules = rules_of c.args.settings.now in
    let plans = subst (PlansBatch rules c.args.batch_docs made.turns made.state c.plan_sync.new.self) c.in-Some.is (c.in_ok-planned.ensures.planned rules made.turns made.state made.stands made.commits made.fits) in
    made_flushed rules last dead c.args.index.now c.install_sync.new.self made c.args.batch_docs c.in-Some.plan plans.0
    (c.install_sync.ensures rules c.args.batch_docs made.turns made.state (c.plan_sync.ensures.stays rules made.turns made.state made.stands) made.commits made.fits plans.0)

pub returns-in-None : goal.returns-in-None
returns-in-None c = λ last dead made.
    let rules = rules_of c.args.settings.now in
    made_same rules last dead c.args.index.now c.plan_sync.new.self made (c.plan_sync.ensures.stays rules made.turns made.state made.stands)
