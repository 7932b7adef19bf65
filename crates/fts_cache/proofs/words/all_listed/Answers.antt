use Rattle.std.proofs.Common.{◌≡◌, ℕ, List, ◌++◌, ◌∷◌, Some, None, cond, append_assoc, rules, ap, sym, subst, ◌∙◌}
use Rattle.std.specs.List.{All}
use Rattle.std.specs.Map.{keys_of}
use Rattle.std.specs.Option.{option_to_list}
use Rattle.fts_cache.specs.Words.{leaving_listed, is_leaving_as, sealed_all, IsSealed}
use Rattle.fts_cache.proofs.Listed.{listed_step}
use Rattle.fts_cache.proofs.Shown.{keys_more, all_more, sealed_in, sealed_from}
use Rattle.fts_cache.proofs.words.all_listed.Goals as goal

pub loop-word-preserved : goal.loop-word-preserved
loop-word-preserved c =
    let slots = c.args.slots.now.slots in
    let doc = c.args.doc in
    let old = c.loop-word.nodes.items ++ sealed_all doc c.loop-word.lent.items in
    let x : List ℕ × ℕ = (c.in-Some.word.now, c.in-Some.number.now) in
    let parts : c.loop-word.rest ≡ x ∷ c.next.new.self = search rules in
    let one = option_to_list (cond (is_leaving_as slots doc x) (Some x.0) None) in
    let put : keys_of (c.put_leaving.new.nodes.items ++ sealed_all doc c.put_leaving.new.lent.items) ≡ keys_of old ++ one
    = ap keys_of c.in_ok-put_leaving.ensures ∙ keys_more doc old c.leaving_as-cached.result ∙ ap (λ o. keys_of old ++ option_to_list o) (c.leaving_as-cached.ensures.word ∙ ap (λ v. cond (is_leaving_as slots doc (v, c.in-Some.number.now)) (Some v) None) c.as_bytes.ensures) in (
      tt,
      tt,
      ap (λ ws. ws ++ leaving_listed slots doc c.next.new.self) put
          ∙ append_assoc (keys_of old) one (leaving_listed slots doc c.next.new.self)
          ∙ ap (λ ws. keys_of old ++ ws) (sym (listed_step slots doc x c.loop-word.rest c.next.new.self parts))
          ∙ c.loop-word.invariant.2,
      subst (All (λ e. IsSealed slots doc e.0 e.1)) (sym c.in_ok-put_leaving.ensures)
          (all_more (λ e. IsSealed slots doc e.0 e.1) old (sealed_in doc c.leaving_as-cached.result) c.loop-word.invariant.3 (sealed_from slots doc c.in-Some.number.now c.leaving_as-cached.result c.leaving_as-cached.ensures.slot)),
    )
