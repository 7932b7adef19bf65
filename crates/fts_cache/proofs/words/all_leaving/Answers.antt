use Rattle.std.proofs.Common.{◌++◌, take, get_or, ap, sym, subst, ◌∙◌}
use Rattle.std.proofs.lemmas.List.{take_more}
use Rattle.std.specs.List.{All}
use Rattle.std.specs.Map.{keys_of}
use Rattle.std.specs.Option.{option_to_list}
use Rattle.fts_cache.specs.Words.{leaving_words, leaving_word, slot_in, sealed_all, IsSealed}
use Rattle.fts_cache.proofs.Shown.{left_more, keys_more, all_more, sealed_in, sealed_from}
use Rattle.fts_cache.proofs.words.all_leaving.Goals as goal

pub loop-number-preserved : goal.loop-number-preserved
loop-number-preserved c =
    let ns = c.args.numbers.now in
    let i = c.loop-number.number-index in
    let n = get_or ns i 0 in
    let slots = c.args.slots.now.slots in
    let doc = c.args.doc in
    let old = c.loop-number.nodes.items ++ sealed_all doc c.loop-number.lent.items in
    record {
      same = ap keys_of c.in_ok-put_leaving.ensures
          ∙ keys_more doc old c.leaving.result
          ∙ ap (λ o. keys_of old ++ option_to_list o) c.leaving.ensures.word
          ∙ ap (λ ws. ws ++ option_to_list (leaving_word doc (slot_in slots n))) c.loop-number.invariant.same
          ∙ sym (left_more slots doc (take i ns) n)
          ∙ sym (ap (leaving_words slots doc) (take_more ns i 0 c.loop-number-test.true));
      sealed = subst (All (λ e. IsSealed slots doc e.0 e.1)) (sym c.in_ok-put_leaving.ensures)
          (all_more (λ e. IsSealed slots doc e.0 e.1) old (sealed_in doc c.leaving.result) c.loop-number.invariant.sealed (sealed_from slots doc n c.leaving.result c.leaving.ensures.slot));
    }
