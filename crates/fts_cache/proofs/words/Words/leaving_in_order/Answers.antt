use Rattle.std.proofs.Common.{◌≡◌, ◌≢◌, ◌↔◌, true, [], sym, subst, ap, ◌∙◌}
use Rattle.std.proofs.lemmas.Result.{IfOk-weaker}
use Rattle.std.specs.List.{All, list_any}
use Rattle.std.specs.List.Sorted.{IsStrictlySortedBy}
use Rattle.std.specs.Map.{keys_of}
use Rattle.std.specs.Str.{bytes_eq}
use Rattle.fts_words.specs.Order.{byte_order}
use Rattle.fts_ilist.specs.Packing.{packed}
use Rattle.fts_cache.specs.Words.{Entries, queue_in, is_leaving_as, leaving_listed}
use Rattle.fts_ilist.specs.Cursor.{postings_until}
use Rattle.fts_cache.proofs.Listed.{listed_are, sorted_filter}
use Rattle.fts_cache.proofs.Shown.{all_sealed}
use Rattle.fts_cache.proofs.words.Words.leaving_in_order.Goals as goal

pub returns-clause-words : goal.returns-clause-words
returns-clause-words c =
    let i = c.self.inside in
    let es : Entries = record { numbers = i.numbers.entries; slots = i.slots.slots } in
    IfOk-weaker c.all_listed.result _ _
    (λ nodes is w. subst (λ es. (list_any (bytes_eq w) (keys_of nodes.items) ≡ true) ↔ (postings_until c.args.doc (queue_in es w).postings ≢ [])) c.self.view_is
    (subst (λ ws. (list_any (bytes_eq w) ws ≡ true) ↔ (postings_until c.args.doc (queue_in es w).postings ≢ []))
    (sym (is ∙ ap (leaving_listed i.slots.slots c.args.doc) c.iter.ensures.rest))
    (listed_are es i.order c.args.doc c.self.invariant.table c.self.invariant.listed w)))
    c.all_listed.ensures.words

pub returns-clause-ascending : goal.returns-clause-ascending
returns-clause-ascending c =
    let i = c.self.inside in
    IfOk-weaker c.all_listed.result _ _
    (λ nodes is. subst (IsStrictlySortedBy byte_order) (sym (is ∙ ap (leaving_listed i.slots.slots c.args.doc) c.iter.ensures.rest))
    (sorted_filter (is_leaving_as i.slots.slots c.args.doc) i.order.entries c.iter.ensures.ordered))
    c.all_listed.ensures.words

pub returns-clause-nodes : goal.returns-clause-nodes
returns-clause-nodes c =
    let i = c.self.inside in
    let es : Entries = record { numbers = i.numbers.entries; slots = i.slots.slots } in
    IfOk-weaker c.all_listed.result _ _
    (λ nodes sealed. subst (λ es. All (λ e. e.1 ≡ packed (postings_until c.args.doc (queue_in es e.0).postings)) nodes.items) c.self.view_is
    (all_sealed es c.args.doc nodes.items c.self.invariant.table sealed))
    c.all_listed.ensures.sealed
