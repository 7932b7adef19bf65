use Rattle.std.proofs.Common.{arith}
use Rattle.fts_types.specs.Rules.{rules_of}
use Rattle.fts_index.proofs.Births.{birth_at, words_at}
use Rattle.fts_index.proofs.index.documents_of.Goals as goal

pub document_words-requires-clause-texts : goal.document_words-requires-clause-texts
document_words-requires-clause-texts c =
    let are = c.requires.2 in
    (birth_at c.requires.0 c.requires.1 c.args.births.now c.loop-birth.birth-index c.birth-item.result are.ids are.rows c.loop-birth-test.true c.birth-item.is).1.texts

pub document_words-requires-clause-positive : goal.document_words-requires-clause-positive
document_words-requires-clause-positive c =
    let are = c.requires.2 in
    omega (arith, (birth_at c.requires.0 c.requires.1 c.args.births.now c.loop-birth.birth-index c.birth-item.result are.ids are.rows c.loop-birth-test.true c.birth-item.is).0)

pub document_words-requires-clause-limit : goal.document_words-requires-clause-limit
document_words-requires-clause-limit c =
    let are = c.requires.2 in
    omega (arith, (birth_at c.requires.0 c.requires.1 c.args.births.now c.loop-birth.birth-index c.birth-item.result are.ids are.rows c.loop-birth-test.true c.birth-item.is).1.limit)

pub loop-birth-preserved : goal.loop-birth-preserved
loop-birth-preserved c =
    words_at (rules_of c.args.settings.now) c.args.births.now c.loop-birth.birth-index c.birth-item.result c.loop-birth.documents.items c.push.new.self.items c.in_ok-document_words.field-0 c.loop-birth-test.true c.birth-item.is
    c.loop-birth.invariant c.in_ok-document_words.ensures c.in_ok-push.ensures.items
