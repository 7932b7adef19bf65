use Rattle.std.proofs.Common.{ℕ, ◌+◌, ◌-◌, List, subst, ◌∙◌}
use Rattle.fts_cache.proofs.Leaving.{IsDropping, numbers_from, numbers_step, numbers_end, dropping_more, dropping_ends, left_by_all}
use Rattle.fts_cache.proofs.adding.drop_all.Goals as goal

pub loop-number-preserved : goal.loop-number-preserved
loop-number-preserved c =
    let i = c.loop-number.number in
    let end = c.places-places.result in
    let all = numbers_from 0 end in
    dropping_more c.args.doc i (numbers_from (i + 1) (end - (i + 1))) all c.args.words.now c.loop-number.words c.drop_until.new.self
    (subst (λ (xs : List ℕ). IsDropping c.args.doc xs all c.args.words.now c.loop-number.words) (numbers_step i end c.loop-number-test.true) c.loop-number.invariant)
    c.drop_until.ensures

pub returns-clause-postings : goal.returns-clause-postings
returns-clause-postings c =
    let i = c.loop-number.number in
    let end = c.places-places.result in
    let all = numbers_from 0 end in
    λ w. dropping_ends c.args.doc all c.args.words.now c.loop-number.words
    (subst (λ (xs : List ℕ). IsDropping c.args.doc xs all c.args.words.now c.loop-number.words) (numbers_end i end c.loop-number-test.false) c.loop-number.invariant) w
    ∙ left_by_all c.args.doc end c.args.words.now c.places-places.ensures w
