use Rattle.std.proofs.Common.{◌≡◌, ◌≢◌, ◌↔◌, ℕ, Some, true, [], sym, subst}
use Rattle.std.specs.List.{All, IsDistinct, list_any}
use Rattle.std.specs.Map.{keys_of}
use Rattle.std.specs.Str.{bytes_eq}
use Rattle.std.proofs.lemmas.List.Sorted.{All-permutation}
use Rattle.fts_ilist.specs.Packing.{packed}
use Rattle.fts_cache.specs.Words.{Entries, number_in, queue_in, has_number, IsSealed}
use Rattle.fts_ilist.specs.Cursor.{postings_until}
use Rattle.fts_cache.proofs.Shown.{sorted_entries, left_differ, left_are, all_sealed}
use Rattle.fts_cache.proofs.words.Words.leaving.Goals as goal

pub returns-clause-words : goal.returns-clause-words
returns-clause-words c =
    let i = c.self.inside in
    λ w. subst (λ es. (list_any (bytes_eq w) (keys_of c.sort_words.new.nodes.items) ≡ true) ↔ ((n : ℕ) × (number_in es w ≡ Some n) × (has_number n c.args.numbers.now ≡ true) × (postings_until c.args.doc (queue_in es w).postings ≢ []))) c.self.view_is
    (left_are (record { numbers = i.numbers.entries; slots = i.slots.slots }) c.args.doc c.args.numbers.now c.in_ok-nodes.nodes.items c.sort_words.new.nodes.items c.self.invariant.table c.in_ok-nodes.ensures.words c.sort_words.ensures.same w)

pub returns-clause-ascending : goal.returns-clause-ascending
returns-clause-ascending c =
    let i = c.self.inside in
    sorted_entries c.in_ok-nodes.nodes.items c.sort_words.new.nodes.items
    (subst (IsDistinct bytes_eq) (sym c.in_ok-nodes.ensures.words) (left_differ (record { numbers = i.numbers.entries; slots = i.slots.slots }) c.args.doc c.args.numbers.now c.self.invariant.table c.requires))
    c.sort_words.ensures.same c.sort_words.ensures.sorted

pub returns-clause-nodes : goal.returns-clause-nodes
returns-clause-nodes c =
    let i = c.self.inside in
    let es : Entries = record { numbers = i.numbers.entries; slots = i.slots.slots } in
    subst (λ es. All (λ e. e.1 ≡ packed (postings_until c.args.doc (queue_in es e.0).postings)) c.sort_words.new.nodes.items) c.self.view_is
    (all_sealed es c.args.doc c.sort_words.new.nodes.items c.self.invariant.table
    (All-permutation (λ e. IsSealed i.slots.slots c.args.doc e.0 e.1) c.in_ok-nodes.nodes.items c.sort_words.new.nodes.items c.sort_words.ensures.same c.in_ok-nodes.ensures.sealed))
