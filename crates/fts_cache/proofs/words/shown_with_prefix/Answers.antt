use Rattle.std.proofs.Common.{◌≡◌, ◌∷◌, [], ◌++◌, true, cond, List, ℕ, map, rules, ap, ◌∙◌}
use Rattle.std.specs.Map.{keys_of}
use Rattle.fts_cache.specs.Words.{has_documents, with_documents}
use Rattle.fts_ilist.specs.Front.{front}
use Rattle.fts_words.specs.Order.{begins_with}
use Rattle.fts_cache.proofs.Prefixed.{taken}
use Rattle.fts_cache.proofs.words.shown_with_prefix.Goals as goal

pub loop-entry-preserved : goal.loop-entry-preserved
loop-entry-preserved c =
    let es = c.args.words.now in
    let word = c.in-Some.entry.0.now in
    let passes : begins_with c.args.prefix.now word ≡ true = search rules in
    let entries : c.loop-entry.rest ≡ (c.in-Some.entry.0.now, c.in-Some.entry.1.now) ∷ c.next.new.self = search rules in
    let parts : keys_of c.loop-entry.rest ≡ word ∷ keys_of c.next.new.self = ap keys_of entries in
    let done : List (List ℕ) = map (λ w. w.now) c.loop-entry.found.items in
    let put : map (λ w. w.now) c.push_shown.new.words.items ≡ done ++ cond (has_documents es word) (word ∷ []) [] = search rules in (
      tt,
      tt,
      ap (λ ws. ws ++ with_documents es (front (λ w. w) c.args.prefix.now (keys_of c.next.new.self))) put
          ∙ taken es c.args.prefix.now (keys_of c.loop-entry.rest) (keys_of c.next.new.self) word done _ parts passes c.loop-entry.invariant.2,
    )
