use Rattle.std.proofs.Common.{◌≡◌, ◌&&◌, ◌∷◌, ◌++◌, ◌+◌, [], map, take, ap, sym, ◌∙◌}
use Rattle.std.proofs.lemmas.List.{take_more, map-append}
use Rattle.fts_ids.specs.Ids.{has}
use Rattle.fts_index.specs.Gathered.{doc_has, doc_has_words}
use Rattle.fts_index.proofs.Gathering.{each_more}
use Rattle.fts_index.proofs.gather.each_of.Goals as goal

pub loop-word-preserved : goal.loop-word-preserved
loop-word-preserved c =
    let shown = doc_has c.args.index.now in
    let others = c.args.others.now in
    let i = c.loop-word.word-index in
    let word = c.word-item.result in
    let before = map (λ w. w.items) (take i others) in
    let more : map (λ w. w.items) (take (i + 1) others) ≡ before ++ word.items ∷ []
    = ap (map (λ w. w.items)) (take_more others i word c.loop-word-test.true ∙ ap (λ w. take i others ++ w ∷ []) (sym c.word-item.is)) ∙ map-append (λ w. w.items) (take i others) (word ∷ []) in
    record {
      ascend = c.in_ok-ids-2.ensures.ascend;
      each = λ id. c.in_ok-ids-2.ensures.each id
          ∙ ap (λ b. b && has c.in_ok-word_ids.field-0 id) (c.loop-word.invariant.each id)
          ∙ ap (λ b. doc_has_words shown id (c.args.first.now ∷ before) && b) (c.in_ok-word_ids.ensures.each id)
          ∙ ap (λ w. doc_has_words shown id (c.args.first.now ∷ before) && shown id w) c.deref.ensures.value
          ∙ each_more shown id c.args.first.now before word.items
          ∙ ap (λ ws. doc_has_words shown id (c.args.first.now ∷ ws)) (sym more);
    }
