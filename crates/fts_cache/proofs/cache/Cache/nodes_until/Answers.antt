use Rattle.std.proofs.Common.{◌≡◌, ◌≢◌, ◌↔◌, ℕ, List, Some, true, [], sym, subst}
use Rattle.std.proofs.lemmas.Result.{IfOk-weaker}
use Rattle.fts_cache.specs.Cache.{postings_of}
use Rattle.fts_cache.specs.Words.{number_in, queue_in, has_number}
use Rattle.fts_ilist.specs.Cursor.{postings_until}
use Rattle.std.specs.List.{All, list_any}
use Rattle.std.specs.Str.{bytes_eq}
use Rattle.fts_ilist.specs.Packing.{packed}
use Rattle.std.specs.Map.{keys_of}
use Rattle.fts_cache.proofs.Notes.{word_noted}
use Rattle.fts_cache.proofs.cache.Cache.nodes_until.Goals as goal

pub returns-then-listed_len-noted_len-clause-words : goal.returns-then-listed_len-noted_len-clause-words
returns-then-listed_len-noted_len-clause-words c =
    IfOk-weaker c.leaving_in_order.result _ _
    (λ nodes h w. subst (λ s. (list_any (bytes_eq w) (keys_of nodes.items) ≡ true) ↔ (postings_until c.args.doc (postings_of s w) ≢ [])) c.self.view_is (h w))
    c.leaving_in_order.ensures.words

pub returns-then-listed_len-noted_len-clause-nodes : goal.returns-then-listed_len-noted_len-clause-nodes
returns-then-listed_len-noted_len-clause-nodes c =
    IfOk-weaker c.leaving_in_order.result _ _
    (λ nodes h. subst (λ s. All (λ e. e.1 ≡ packed (postings_until c.args.doc (postings_of s e.0))) nodes.items) c.self.view_is h)
    c.leaving_in_order.ensures.nodes

pub returns-clause-words : goal.returns-clause-words
returns-clause-words c =
    let i = c.self.inside in
    IfOk-weaker c.leaving.result _ _
    (λ nodes h w. subst (λ s. (list_any (bytes_eq w) (keys_of nodes.items) ≡ true) ↔ (postings_until c.args.doc (postings_of s w) ≢ [])) c.self.view_is (
      (λ e. ((h w).0 e).3),
      (λ some. (h w).1 (subst (λ (ns : List ℕ). (n : ℕ) × (number_in i.words w ≡ Some n) × (has_number n ns ≡ true) × (postings_until c.args.doc (queue_in i.words w).postings ≢ [])) (sym c.deref.ensures.value)
          (word_noted i.words i.documents.items c.args.doc c.in_ok-numbers.numbers.items w c.self.invariant.noted c.in_ok-numbers.ensures.noted some))),
    ))
    c.leaving.ensures.words

pub returns-clause-nodes : goal.returns-clause-nodes
returns-clause-nodes c =
    IfOk-weaker c.leaving.result _ _
    (λ nodes h. subst (λ s. All (λ e. e.1 ≡ packed (postings_until c.args.doc (postings_of s e.0))) nodes.items) c.self.view_is h)
    c.leaving.ensures.nodes
