use Rattle.std.proofs.Common.{◌≡◌, ◌<◌, length, arith, ap, sym, subst, ◌∙◌, slice_get, Some, slice_range}
use Rattle.fts_cache.specs.Arena.{words_in, no_end, end_before}
use Rattle.fts_cache.specs.Document.{WordPositions}
use Rattle.fts_cache.proofs.Documents.{positions_of_word}
use Rattle.fts_cache.proofs.Arena.{word_here, words_length}
use Rattle.fts_cache.proofs.document.DocWords.word_at.Goals as goal

pub before-start-requires : goal.before-start-requires
before-start-requires c =
    let i = c.self.inside in
    omega (arith, c.requires, ap (λ d. length d.words) c.self.view_is, words_length no_end i.ends.items i.bytes.items i.positions.items, ap length c.deref.ensures.value)

pub index-end-requires : goal.index-end-requires
index-end-requires c =
    let i = c.self.inside in
    omega (arith, c.requires, ap (λ d. length d.words) c.self.view_is, words_length no_end i.ends.items i.bytes.items i.positions.items, ap length c.deref.ensures.value, c.deref.ensures.len)

pub bytes_between-requires-clause-order : goal.bytes_between-requires-clause-order
bytes_between-requires-clause-order c =
    let i = c.self.inside in
    let within : c.args.place < length (words_in no_end i.ends.items i.bytes.items i.positions.items) = omega (arith, c.requires, ap (λ d. length d.words) c.self.view_is) in
    let start = c.before-start.ensures ∙ ap (λ es. end_before no_end es c.args.place) c.deref.ensures.value in
    let h = word_here i.ends.items i.bytes.items i.positions.items c.args.place c.before-start.result c.index-end.result.now c.self.invariant.are_ends within start c.index-end.ensures in
    h.word_order

pub bytes_between-requires-clause-within : goal.bytes_between-requires-clause-within
bytes_between-requires-clause-within c =
    let i = c.self.inside in
    let within : c.args.place < length (words_in no_end i.ends.items i.bytes.items i.positions.items) = omega (arith, c.requires, ap (λ d. length d.words) c.self.view_is) in
    let start = c.before-start.ensures ∙ ap (λ es. end_before no_end es c.args.place) c.deref.ensures.value in
    let h = word_here i.ends.items i.bytes.items i.positions.items c.args.place c.before-start.result c.index-end.result.now c.self.invariant.are_ends within start c.index-end.ensures in
    omega (arith, h.word_within, ap length c.deref-2.ensures.value)

pub positions_between-requires-clause-order : goal.positions_between-requires-clause-order
positions_between-requires-clause-order c =
    let i = c.self.inside in
    let within : c.args.place < length (words_in no_end i.ends.items i.bytes.items i.positions.items) = omega (arith, c.requires, ap (λ d. length d.words) c.self.view_is) in
    let start = c.before-start.ensures ∙ ap (λ es. end_before no_end es c.args.place) c.deref.ensures.value in
    let h = word_here i.ends.items i.bytes.items i.positions.items c.args.place c.before-start.result c.index-end.result.now c.self.invariant.are_ends within start c.index-end.ensures in
    h.positions_order

pub positions_between-requires-clause-within : goal.positions_between-requires-clause-within
positions_between-requires-clause-within c =
    let i = c.self.inside in
    let within : c.args.place < length (words_in no_end i.ends.items i.bytes.items i.positions.items) = omega (arith, c.requires, ap (λ d. length d.words) c.self.view_is) in
    let start = c.before-start.ensures ∙ ap (λ es. end_before no_end es c.args.place) c.deref.ensures.value in
    let h = word_here i.ends.items i.bytes.items i.positions.items c.args.place c.before-start.result c.index-end.result.now c.self.invariant.are_ends within start c.index-end.ensures in
    omega (arith, h.positions_within, ap length c.deref-3.ensures.value)

pub returns-clause-value : goal.returns-clause-value
returns-clause-value c =
    let i = c.self.inside in
    let within : c.args.place < length (words_in no_end i.ends.items i.bytes.items i.positions.items) = omega (arith, c.requires, ap (λ d. length d.words) c.self.view_is) in
    let start = c.before-start.ensures ∙ ap (λ es. end_before no_end es c.args.place) c.deref.ensures.value in
    let h = word_here i.ends.items i.bytes.items i.positions.items c.args.place c.before-start.result c.index-end.result.now c.self.invariant.are_ends within start c.index-end.ensures in
    let w : WordPositions = record { word = c.bytes_between.result.now; positions = c.positions_between.result.now } in
    let at : slice_get (words_in no_end i.ends.items i.bytes.items i.positions.items) c.args.place ≡ Some w
    = h.is
    ∙ ap (λ bs. let v : WordPositions = record { word = bs; positions = slice_range i.positions.items c.before-start.result.positions c.index-end.result.now.positions } in Some v) (sym (c.bytes_between.ensures ∙ ap (λ bs. slice_range bs c.before-start.result.word c.index-end.result.now.word) c.deref-2.ensures.value))
    ∙ ap (λ ps. let v : WordPositions = record { word = c.bytes_between.result.now; positions = ps } in Some v) (sym (c.positions_between.ensures ∙ ap (λ ps. slice_range ps c.before-start.result.positions c.index-end.result.now.positions) c.deref-3.ensures.value)) in
    subst (λ d. slice_get d.words c.args.place ≡ Some w) c.self.view_is at

pub returns-clause-positions : goal.returns-clause-positions
returns-clause-positions c =
    let i = c.self.inside in
    let within : c.args.place < length (words_in no_end i.ends.items i.bytes.items i.positions.items) = omega (arith, c.requires, ap (λ d. length d.words) c.self.view_is) in
    let start = c.before-start.ensures ∙ ap (λ es. end_before no_end es c.args.place) c.deref.ensures.value in
    let h = word_here i.ends.items i.bytes.items i.positions.items c.args.place c.before-start.result c.index-end.result.now c.self.invariant.are_ends within start c.index-end.ensures in
    let w : WordPositions = record { word = c.bytes_between.result.now; positions = c.positions_between.result.now } in
    let at : slice_get (words_in no_end i.ends.items i.bytes.items i.positions.items) c.args.place ≡ Some w
    = h.is
    ∙ ap (λ bs. let v : WordPositions = record { word = bs; positions = slice_range i.positions.items c.before-start.result.positions c.index-end.result.now.positions } in Some v) (sym (c.bytes_between.ensures ∙ ap (λ bs. slice_range bs c.before-start.result.word c.index-end.result.now.word) c.deref-2.ensures.value))
    ∙ ap (λ ps. let v : WordPositions = record { word = c.bytes_between.result.now; positions = ps } in Some v) (sym (c.positions_between.ensures ∙ ap (λ ps. slice_range ps c.before-start.result.positions c.index-end.result.now.positions) c.deref-3.ensures.value)) in
    (positions_of_word _ c.args.place w c.self.invariant.is_document.words at).0

pub returns-clause-few : goal.returns-clause-few
returns-clause-few c =
    let i = c.self.inside in
    let within : c.args.place < length (words_in no_end i.ends.items i.bytes.items i.positions.items) = omega (arith, c.requires, ap (λ d. length d.words) c.self.view_is) in
    let start = c.before-start.ensures ∙ ap (λ es. end_before no_end es c.args.place) c.deref.ensures.value in
    let h = word_here i.ends.items i.bytes.items i.positions.items c.args.place c.before-start.result c.index-end.result.now c.self.invariant.are_ends within start c.index-end.ensures in
    let w : WordPositions = record { word = c.bytes_between.result.now; positions = c.positions_between.result.now } in
    let at : slice_get (words_in no_end i.ends.items i.bytes.items i.positions.items) c.args.place ≡ Some w
    = h.is
    ∙ ap (λ bs. let v : WordPositions = record { word = bs; positions = slice_range i.positions.items c.before-start.result.positions c.index-end.result.now.positions } in Some v) (sym (c.bytes_between.ensures ∙ ap (λ bs. slice_range bs c.before-start.result.word c.index-end.result.now.word) c.deref-2.ensures.value))
    ∙ ap (λ ps. let v : WordPositions = record { word = c.bytes_between.result.now; positions = ps } in Some v) (sym (c.positions_between.ensures ∙ ap (λ ps. slice_range ps c.before-start.result.positions c.index-end.result.now.positions) c.deref-3.ensures.value)) in
    (positions_of_word _ c.args.place w c.self.invariant.is_document.words at).1
