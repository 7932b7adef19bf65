use Rattle.std.proofs.Common.{List, ℕ, drop, subst}
use Rattle.std.specs.List.Sorted.{IsStrictlySortedBy}
use Rattle.std.specs.Map.{keys_of}
use Rattle.std.proofs.lemmas.List.{take_rest}
use Rattle.fts_words.specs.Order.{byte_order}
use Rattle.fts_ilist.specs.Node.{Docs}
use Rattle.fts_parts_tests.proofs.Ascending.{StandsBefore, ascend_none, ascend_more}
use Rattle.fts_parts_tests.proofs.aux.checks.+ascend.Goals as goal

pub returns-in-empty : goal.returns-in-empty
returns-in-empty t c is = ascend_none c.args.batch.now c.in-empty.len_below

pub returns-else-not-is_before : goal.returns-else-not-is_before
returns-else-not-is_before t c is =
    let before = subst (StandsBefore c.word.result.now) (take_rest c.args.batch.now 1) (c.is_before.ensures c.if-not-is_before.false) in
    ascend_more c.args.batch.now c.first-item.result c.in-len1-up.len_at_least c.first-item.is
    (subst (λ (word : List ℕ). StandsBefore word (drop 1 c.args.batch.now)) c.word.ensures before)
    (subst (λ (batch : List (List ℕ × List Docs)). IsStrictlySortedBy byte_order (keys_of batch)) (take_rest c.args.batch.now 1) (c.ascend.ensures is))
