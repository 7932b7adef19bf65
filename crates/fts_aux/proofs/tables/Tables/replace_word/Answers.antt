use Rattle.std.proofs.Common.{◌≡◌, ◌+◌, sym, ◌∙◌, [], ⊎_elim}
use Rattle.std.proofs.lemmas.Bool.{cases_eq}
use Rattle.fts_types.specs.Table.{table_of}
use Rattle.fts_aux.specs.Table.{nodes_in, no_room}
use Rattle.fts_aux.specs.Tables.{room_in}
use Rattle.fts_aux.proofs.Places.{here, other, elsewhere, own_nodes, changed}
use Rattle.fts_aux.proofs.tables.Tables.replace_word.Goals as goal

pub replace-requires : goal.replace-requires
replace-requires c = λ none. c.requires.inside (own_nodes c.self.inside.tables c.args.self.now c.self.view_is c.self.invariant c.place_of.result c.place_of.ensures.few c.index-self-place_of.result c.args.word.now c.place_of.ensures.table ∙ none)

pub invariant_of-self : goal.invariant_of-self
invariant_of-self c =
    changed c.self.inside.tables c.place_of.result c.index-self-place_of.result c.replace.new.self c.args.word.now c.args.reworked.nodes c.self.invariant c.place_of.ensures.few c.place_of.ensures.table c.replace.ensures.nodes c.replace.ensures.others c.requires.ascending

pub returns-clause-nodes : goal.returns-clause-nodes
returns-clause-nodes c = here c.self.inside.tables c.args.self.now c.self.view_is c.self.invariant c.place_of.result c.place_of.ensures.few c.index-self-place_of.result nodes_in [] c.replace.new.self c.args.word.now c.place_of.ensures.table ∙ c.replace.ensures.nodes

pub returns-clause-others : goal.returns-clause-others
returns-clause-others c = λ q apart. other c.self.inside.tables c.args.self.now c.self.view_is c.self.invariant c.place_of.result c.place_of.ensures.few c.index-self-place_of.result nodes_in [] c.replace.new.self q (c.replace.ensures.others q apart)

pub returns-clause-room : goal.returns-clause-room
returns-clause-room c = λ q. ⊎_elim
    (λ (same : table_of q ≡ c.place_of.result + 1). here c.self.inside.tables c.args.self.now c.self.view_is c.self.invariant c.place_of.result c.place_of.ensures.few c.index-self-place_of.result room_in no_room c.replace.new.self q (sym same) ∙ c.replace.ensures.room q)
    (λ apart. elsewhere c.self.inside.tables c.args.self.now c.self.view_is c.self.invariant c.place_of.result c.place_of.ensures.few c.index-self-place_of.result room_in no_room c.replace.new.self q apart ∙ c.requires.room q)
    (cases_eq (table_of q) (c.place_of.result + 1))
