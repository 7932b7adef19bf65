use Rattle.std.proofs.Common.{rules, ◌≡◌, ◌+◌, ◌++◌, ◌∷◌, [], List, length, drop, take, arith, refl, ap, sym, subst, ◌∙◌}
use Rattle.fts_cache.specs.Document.{WordPositions, bytes_in}
use Rattle.fts_cache.specs.Words.{queue_in, AreNumbersOf}
use Rattle.fts_cache.proofs.Documents.{reserved_one, still_stays, words_at, words_until}
use Rattle.fts_cache.proofs.Promises.{numbers_kept, numbers_more, same_numbers, grows_again, entered_grows}
use Rattle.fts_cache.proofs.adding.reserve_words.Goals as goal

pub loop-place-preserved : goal.loop-place-preserved
loop-place-preserved c =
    let d = c.args.document.now in
    let v : WordPositions = record { word = c.word_at.result.0.now; positions = c.word_at.result.1.now } in
    let vs = drop (c.loop-place.place + 1) d.words in
    let at = words_at d.words c.loop-place.place v c.word_at.ensures.value in
    let was = c.loop-place.words in
    let now = c.enter.new.self in
    let e = c.in_ok-number.ensures in
    let changed = c.in_ok-reserve.ensures.ok v.word e.number in
    let f = c.loop-place.invariant.few in
    let keeps = same_numbers now c.reserve.new.self c.in_ok-reserve.ensures.numbers in
    let items : c.push.new.self.items ≡ c.loop-place.numbers.items ++ c.in_ok-number.number ∷ [] = search rules in
    record {
      room = λ w. reserved_one v vs now c.reserve.new.self _ changed refl w
          ∙ ap (λ q. q.room + bytes_in w (v ∷ vs)) (e.enters.queues w)
          ∙ ap (λ (x : List WordPositions). (queue_in was w).room + bytes_in w x) (sym at)
          ∙ c.loop-place.invariant.room w;
      numbers = subst (AreNumbersOf c.reserve.new.self (take (c.loop-place.place + 1) d.words)) (sym items)
          (subst (λ (ws : List WordPositions). AreNumbersOf c.reserve.new.self ws (c.loop-place.numbers.items ++ c.in_ok-number.number ∷ [])) (sym (words_until d.words c.loop-place.place v c.word_at.ensures.value))
          (numbers_more c.reserve.new.self (take c.loop-place.place d.words) c.loop-place.numbers.items v c.in_ok-number.number
          (numbers_kept now c.reserve.new.self (take c.loop-place.place d.words) c.loop-place.numbers.items keeps (numbers_kept was now (take c.loop-place.place d.words) c.loop-place.numbers.items e.enters.numbers c.loop-place.invariant.numbers))
          (keeps v.word c.in_ok-number.number e.number)));
      grows = still_stays v.word c.args.words.now now c.reserve.new.self _ changed refl refl (grows_again c.args.words.now was now c.loop-place.invariant.grows (entered_grows was now e.enters)) c.in_ok-reserve.ensures.numbers;
      few = record {
        idle = f.idle;
        few = omega (arith, f.few, e.enters.more, ap length c.in_ok-reserve.ensures.numbers);
        used = c.in_ok-reserve.ensures.used f.idle (e.used f.idle f.used);
      };
    }
