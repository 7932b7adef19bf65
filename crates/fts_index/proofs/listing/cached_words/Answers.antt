use Rattle.std.proofs.Common.{List, ℕ, [], map, ap, sym, subst, arith, ◌∙◌}
use Rattle.std.proofs.lemmas.List.{take_all}
use Rattle.fts_ilist.specs.Node.{Docs}
use Rattle.fts_cache.specs.Cache.{postings_of}
use Rattle.fts_aux.specs.Words.{IsListing}
use Rattle.fts_listing.specs.Listing.{one_group}
use Rattle.fts_index.proofs.Listings.{listed_of, lists_cached}
use Rattle.fts_index.proofs.listing.cached_words.Goals as goal

pub returns : goal.returns
returns c =
    let cache = c.args.cache.now in
    let f : List ℕ → List Docs = λ w. one_group (postings_of cache w) in
    let words = c.deref-word-items.result.now in
    subst (IsListing f [])
    (sym (c.loop-word.invariant
    ∙ ap (λ ws. listed_of f (map (λ w. w.now) ws)) (take_all c.loop-word.word-index words (omega (arith, c.loop-word-test.false)) ∙ c.deref-word-items.ensures.value)))
    (lists_cached cache c.in_ok-prefix.field-0.items c.in_ok-prefix.ensures.ascending c.in_ok-prefix.ensures.words)
