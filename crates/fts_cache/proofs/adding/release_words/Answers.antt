use Rattle.std.proofs.Common.{ℕ, ◌∷◌, [], List, take, get_or, subst, sym}
use Rattle.std.proofs.lemmas.List.{take_more, take_all}
use Rattle.fts_cache.specs.Words.{GivesUp}
use Rattle.fts_cache.proofs.Leaving.{less_again}
use Rattle.fts_cache.proofs.Rooms.{gives_more, gives_none}
use Rattle.fts_cache.proofs.Table.{less_not}
use Rattle.fts_cache.proofs.adding.release_words.Goals as goal

pub loop-number-init : goal.loop-number-init
loop-number-init c = record { less = less_not c.args.words.now; room = λ w. gives_none c.args.words.now w }

pub loop-number-preserved : goal.loop-number-preserved
loop-number-preserved c =
    let ns = c.args.numbers.now in
    let i = c.loop-number.number-index in
    let inv = c.loop-number.invariant in
    record {
      less = less_again c.args.words.now c.loop-number.words c.release.new.self inv.less c.release.ensures.less;
      room = λ w. subst (λ (xs : List ℕ). GivesUp xs c.args.words.now c.release.new.self w) (sym (take_more ns i 0 c.loop-number-test.true))
          (gives_more (take i ns) (get_or ns i 0 ∷ []) c.args.words.now c.loop-number.words c.release.new.self w inv.less (inv.room w) (c.release.ensures.room w));
    }

pub returns-clause-room : goal.returns-clause-room
returns-clause-room c =
    λ w. subst (λ (xs : List ℕ). GivesUp xs c.args.words.now c.loop-number.words w) (take_all c.loop-number.number-index c.args.numbers.now c.loop-number-test.false) (c.loop-number.invariant.room w)
