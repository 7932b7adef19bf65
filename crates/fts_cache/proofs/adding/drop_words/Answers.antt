use Rattle.std.proofs.Common.{ℕ, ◌+◌, List, drop, get_or, subst}
use Rattle.std.proofs.lemmas.List.{drop_more, drop_all}
use Rattle.fts_cache.proofs.Leaving.{IsDropping, dropping_more, dropping_ends}
use Rattle.fts_cache.proofs.adding.drop_words.Goals as goal

pub loop-number-preserved : goal.loop-number-preserved
loop-number-preserved c =
    let ns = c.args.numbers.now in
    let i = c.loop-number.number-index in
    dropping_more c.args.doc (get_or ns i 0) (drop (i + 1) ns) ns c.args.words.now c.loop-number.words c.drop_until.new.self
    (subst (λ (xs : List ℕ). IsDropping c.args.doc xs ns c.args.words.now c.loop-number.words) (drop_more ns i 0 c.loop-number-test.true) c.loop-number.invariant)
    c.drop_until.ensures

pub returns-clause-postings : goal.returns-clause-postings
returns-clause-postings c =
    let ns = c.args.numbers.now in
    let i = c.loop-number.number-index in
    dropping_ends c.args.doc ns c.args.words.now c.loop-number.words
    (subst (λ (xs : List ℕ). IsDropping c.args.doc xs ns c.args.words.now c.loop-number.words) (drop_all i ns c.loop-number-test.false) c.loop-number.invariant)
