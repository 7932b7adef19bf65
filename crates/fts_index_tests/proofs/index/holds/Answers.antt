use Rattle.fts_types.specs.Rules.{rules_of}
use Rattle.fts_index.proofs.Made.{made_first}
use Rattle.fts_index_tests.proofs.index.holds.Goals as goal

pub finds_rows-requires : goal.finds_rows-requires
finds_rows-requires c =
    let rules = rules_of c.settings-settings.result in
    made_first rules c.new-index.result (c.new-index.ensures rules) c.settings-settings.ensures

pub finds_apples-requires : goal.finds_apples-requires
finds_apples-requires c =
    let rules = rules_of c.settings-settings.result in
    made_first rules c.new-index.result (c.new-index.ensures rules) c.settings-settings.ensures

pub lists_apples-requires : goal.lists_apples-requires
lists_apples-requires c =
    let rules = rules_of c.settings-settings.result in
    made_first rules c.new-index.result (c.new-index.ensures rules) c.settings-settings.ensures
