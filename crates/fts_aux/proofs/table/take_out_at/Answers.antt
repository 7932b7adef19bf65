use Rattle.std.proofs.Common.{None, sym, ap, subst}
use Rattle.fts_ilist.specs.NodeList.{NodeState}
use Rattle.fts_aux.specs.Table.{Entries, AreFilledBut}
use Rattle.fts_aux.proofs.Finds.{becomes_by, key_passes, is_same}
use Rattle.fts_aux.proofs.Kept.{listed_one}
use Rattle.fts_aux.proofs.Swapped.{lists_out, filled_out, count_out_at, filled_past}
use Rattle.fts_aux.proofs.table.take_out_at.Goals as goal

pub returns-in-Some-clause-lists : goal.returns-in-Some-clause-lists
returns-in-Some-clause-lists c =
    let es = c.args.words.now.entries in
    let new = c.swap_remove_index.new.self.entries in
    let word = c.in-Some.key in
    let u = c.in-Some.ensures.updates in
    let here = key_passes es word c.args.number c.in-Some.key c.in-Some.field-0-1 (sym c.in-Some.ensures.entry) (is_same word) in
    lists_out es new word (becomes_by es new word None u.3 u.1) (c.requires.empty word here) (c.requires.room word)

pub returns-in-Some-clause-filled : goal.returns-in-Some-clause-filled
returns-in-Some-clause-filled c = λ kept filled.
    let es = c.args.words.now.entries in
    let new = c.swap_remove_index.new.self.entries in
    filled_out es new c.args.number (c.in-Some.key, c.in-Some.field-0-1) (sym c.in-Some.ensures.entry) c.in-Some.ensures.entries
    (λ w. ap (λ (l : NodeState). l.nodes) (returns-in-Some-clause-lists c w)) kept filled

pub returns-in-Some-clause-listed : goal.returns-in-Some-clause-listed
returns-in-Some-clause-listed c = λ listed.
    let es = c.args.words.now.entries in
    let new = c.swap_remove_index.new.self.entries in
    let word = c.in-Some.key in
    let u = c.in-Some.ensures.updates in
    listed_one es new c.args.order.now c.take_out_of.new.order word None (becomes_by es new word None u.3 u.1) c.take_out_of.ensures listed

pub returns-in-Some-clause-loose : goal.returns-in-Some-clause-loose
returns-in-Some-clause-loose c =
    let es = c.args.words.now.entries in
    let new = c.swap_remove_index.new.self.entries in
    let word = c.in-Some.key in
    let here = key_passes es word c.args.number c.in-Some.key c.in-Some.field-0-1 (sym c.in-Some.ensures.entry) (is_same word) in
    count_out_at es new c.args.number (c.in-Some.key, c.in-Some.field-0-1) (sym c.in-Some.ensures.entry) c.in-Some.ensures.entries
    (λ w. ap (λ (l : NodeState). l.nodes) (returns-in-Some-clause-lists c w)) (c.requires.empty word here)

pub returns-in_default-clause-filled : goal.returns-in_default-clause-filled
returns-in_default-clause-filled c = λ kept filled.
    let es = c.args.words.now.entries in
    subst (λ (x : Entries). AreFilledBut x kept c.args.number) (sym c.in_default.ensures.unchanged) (filled_past es c.args.number c.in_default.ensures.entry kept filled)
