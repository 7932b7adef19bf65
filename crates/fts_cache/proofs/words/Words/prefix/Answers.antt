use Rattle.std.proofs.Common.{◌≢◌, ◌↔◌, IsTrue, [], filter, ap, sym, subst, ◌∙◌}
use Rattle.std.proofs.lemmas.Result.{IfOk-weaker}
use Rattle.std.specs.Map.{keys_of}
use Rattle.fts_cache.specs.Sorted.{IsAmong}
use Rattle.fts_cache.specs.Words.{Entries, queue_in, with_documents}
use Rattle.fts_ilist.specs.Front.{front}
use Rattle.fts_ilist.proofs.Fronts.{is_from}
use Rattle.fts_words.specs.Order.{begins_with}
use Rattle.fts_cache.proofs.Listed.{keys_filter, listed_has}
use Rattle.fts_cache.proofs.Prefixed.{prefix_words, prefix_ascends}
use Rattle.fts_cache.proofs.words.Words.prefix.Goals as goal

pub returns-clause-words : goal.returns-clause-words
returns-clause-words c =
    let i = c.self.inside in
    let es : Entries = record { numbers = i.numbers.entries; slots = i.slots.slots } in
    IfOk-weaker c.shown_with_prefix.result _ _
    (λ found is w. subst (λ es. IsAmong w found.items ↔ (IsTrue (begins_with c.args.prefix.now w) × ((queue_in es w).postings ≢ []))) c.self.view_is
    (prefix_words es (keys_of i.order.entries) c.args.prefix.now (keys_of c.range-rest.result) found.items (listed_has es i.order c.self.invariant.listed) c.range-rest.ensures.ordered
    (ap keys_of (c.range-rest.ensures.between tt ∙ ap (λ p. filter (λ e. is_from p e.0) i.order.entries) c.in_ok-first.ensures) ∙ keys_filter (is_from c.args.prefix.now) i.order.entries)
    (is ∙ ap (λ es. with_documents es (front (λ w. w) c.args.prefix.now (keys_of c.range-rest.result))) (sym c.self.view_is)) w))
    c.shown_with_prefix.ensures

pub returns-clause-ascending : goal.returns-clause-ascending
returns-clause-ascending c =
    let i = c.self.inside in
    let es : Entries = record { numbers = i.numbers.entries; slots = i.slots.slots } in
    IfOk-weaker c.shown_with_prefix.result _ _
    (λ found is. prefix_ascends es (keys_of i.order.entries) c.args.prefix.now (keys_of c.range-rest.result) found.items (listed_has es i.order c.self.invariant.listed) c.range-rest.ensures.ordered
    (ap keys_of (c.range-rest.ensures.between tt ∙ ap (λ p. filter (λ e. is_from p e.0) i.order.entries) c.in_ok-first.ensures) ∙ keys_filter (is_from c.args.prefix.now) i.order.entries)
    (is ∙ ap (λ es. with_documents es (front (λ w. w) c.args.prefix.now (keys_of c.range-rest.result))) (sym c.self.view_is)))
    c.shown_with_prefix.ensures
