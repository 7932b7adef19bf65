use Rattle.std.proofs.Common.{rules, ℕ, ◌+◌, ◌<◌, List, ◌∷◌, arith, drop, get_or, length, subst, ◌∙◌}
use Rattle.fts_cache.specs.Document.{WordPositions}
use Rattle.fts_cache.specs.Words.{IsPartlyAdded, AreNumbersOf, Changes, queue_in, with_posting}
use Rattle.fts_cache.proofs.Documents.{add_one, words_at, words_from, word_room}
use Rattle.fts_cache.proofs.Promises.{numbers_length, numbers_step, same_numbers}
use Rattle.fts_cache.proofs.adding.add_document.Goals as goal

pub offset_bounds-numbers-place : goal.offset_bounds-numbers-place
offset_bounds-numbers-place c =
    let lt : c.loop-place.place < length c.args.numbers.now = omega (arith, c.loop-place-test.true, c.len-place-end.ensures, numbers_length c.args.words.now c.args.document.now.words c.args.numbers.now c.requires.numbers) in
    search rules

pub bounds-numbers-place : goal.bounds-numbers-place
bounds-numbers-place c =
    omega (arith, c.loop-place-test.true, c.len-place-end.ensures, numbers_length c.args.words.now c.args.document.now.words c.args.numbers.now c.requires.numbers)

pub push-requires : goal.push-requires
push-requires c =
    let d = c.args.document.now in
    let v : WordPositions = record { word = c.word_at.result.0.now; positions = c.word_at.result.1.now } in
    let vs = drop (c.loop-place.place + 1) d.words in
    let at = words_at d.words c.loop-place.place v c.word_at.ensures.value in
    let inv = c.loop-place.invariant in
    let lt : c.loop-place.place < length c.args.numbers.now = omega (arith, c.loop-place-test.true, c.len-place-end.ensures, numbers_length c.args.words.now d.words c.args.numbers.now c.requires.numbers) in
    let step = numbers_step c.args.words.now v vs c.args.numbers.now c.loop-place.place lt (subst (λ (x : List WordPositions). AreNumbersOf c.args.words.now x (drop c.loop-place.place c.args.numbers.now)) at inv.left) in
    let partly : (w : List ℕ) → IsPartlyAdded d (v ∷ vs) c.args.words.now c.loop-place.words w = λ w. subst (λ (x : List WordPositions). IsPartlyAdded d x c.args.words.now c.loop-place.words w) at (inv.added w) in
    let room = word_room d v vs c.args.words.now c.loop-place.words (c.requires.room v.word) (partly v.word) in
    let number = same_numbers c.args.words.now c.loop-place.words inv.numbers v.word (get_or c.args.numbers.now c.loop-place.place 0) step.0 in (
      v.word,
      number,
      record {
        above = omega (arith, c.id-id.ensures.value, room.0);
        limit = omega (arith, c.id-id.ensures.value, c.id-id.ensures.is.limit);
        are_positions = c.word_at.ensures.positions;
        room = room.1;
      },
    )

pub loop-place-preserved : goal.loop-place-preserved
loop-place-preserved c =
    let d = c.args.document.now in
    let v : WordPositions = record { word = c.word_at.result.0.now; positions = c.word_at.result.1.now } in
    let vs = drop (c.loop-place.place + 1) d.words in
    let at = words_at d.words c.loop-place.place v c.word_at.ensures.value in
    let inv = c.loop-place.invariant in
    let lt : c.loop-place.place < length c.args.numbers.now = omega (arith, c.loop-place-test.true, c.len-place-end.ensures, numbers_length c.args.words.now d.words c.args.numbers.now c.requires.numbers) in
    let step = numbers_step c.args.words.now v vs c.args.numbers.now c.loop-place.place lt (subst (λ (x : List WordPositions). AreNumbersOf c.args.words.now x (drop c.loop-place.place c.args.numbers.now)) at inv.left) in
    let partly : (w : List ℕ) → IsPartlyAdded d (v ∷ vs) c.args.words.now c.loop-place.words w = λ w. subst (λ (x : List WordPositions). IsPartlyAdded d x c.args.words.now c.loop-place.words w) at (inv.added w) in
    let room = word_room d v vs c.args.words.now c.loop-place.words (c.requires.room v.word) (partly v.word) in
    let number = same_numbers c.args.words.now c.loop-place.words inv.numbers v.word (get_or c.args.numbers.now c.loop-place.place 0) step.0 in
    let from = words_from d.words c.loop-place.place v c.id-id.ensures.is.words c.word_at.ensures.value in
    let changes = subst (λ (id : ℕ). Changes c.loop-place.words v.word (with_posting id v.positions (queue_in c.loop-place.words v.word)) c.push.new.self) c.id-id.ensures.value (c.push.ensures.changes v.word number) in
    record {
      added = λ w. add_one d v vs c.args.words.now c.loop-place.words c.push.new.self w from.1 (partly w) changes room.1;
      words = from.2;
      left = step.1;
      numbers = c.push.ensures.numbers ∙ inv.numbers;
    }
