use Rattle.std.proofs.Common.{map, []}
use Rattle.fts_types.specs.Rules.{rules_of}
use Rattle.fts_types.specs.Row.{row_of}
use Rattle.fts_index.proofs.Made.{made_add, made_can, made_quiet}
use Rattle.fts_index_tests.proofs.index.commit.Goals as goal

pub plan_commit-requires-clause-births : goal.plan_commit-requires-clause-births
plan_commit-requires-clause-births c =
    made_add (rules_of c.args.settings.now) c.requires.0 c.requires.1 c.args.index.now c.args.index.now c.requires.2 (map row_of c.args.births.now) [] c.args.largest c.requires.3

pub returns : goal.returns
returns c = λ last dead made are.
    let rules = rules_of c.args.settings.now in
    let births = map row_of c.args.births.now in
    made_quiet rules last dead c.args.index.now c.install_commit.new.self made births c.args.largest are
    (c.install_commit.ensures rules made.turns made.state _ (c.plan_commit.ensures.stays rules made.turns made.state made.stands) c.in_ok-plan.ensures.planned
    (made_can rules last dead c.args.index.now c.args.index.now made births [] c.args.largest are))
