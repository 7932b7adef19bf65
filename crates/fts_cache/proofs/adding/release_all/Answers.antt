use Rattle.std.proofs.Common.{rules, ◌≡◌, ◌++◌, [], ℕ, List, map, append_assoc, refl, ap, sym, subst, ◌∙◌}
use Rattle.std.specs.List.{concat}
use Rattle.std.proofs.lemmas.List.{append-nil}
use Rattle.fts_cache.specs.Words.{GivesUp}
use Rattle.fts_cache.proofs.Leaving.{less_again}
use Rattle.fts_cache.proofs.Rooms.{gives_more, gives_none}
use Rattle.fts_cache.proofs.Table.{less_not}
use Rattle.fts_cache.proofs.adding.release_all.Goals as goal

pub loop-numbers-init : goal.loop-numbers-init
loop-numbers-init c = record { less = less_not c.args.words.now; room = ([], refl, λ w. gives_none c.args.words.now w) }

pub loop-numbers-preserved : goal.loop-numbers-preserved
loop-numbers-preserved c =
    let inv = c.loop-numbers.invariant in
    let ns = c.in-Some.numbers.items in
    let new = c.release_words.new.words in
    record {
      less = less_again c.args.words.now c.loop-numbers.words new inv.less c.release_words.ensures.less;
      room = (
        inv.room.0 ++ ns,
        append_assoc inv.room.0 ns (concat (map (λ n. n.items) c.pop_front.new.self.items))
            ∙ ap (λ ps. inv.room.0 ++ concat (map (λ n. n.items) ps)) (sym c.in-Some.ensures.items) ∙ inv.room.1,
        λ w. gives_more inv.room.0 ns c.args.words.now c.loop-numbers.words new w inv.less (inv.room.2 w)
            (subst (λ (xs : List ℕ). GivesUp xs c.loop-numbers.words new w) c.deref.ensures.value (c.release_words.ensures.room w)),
      );
    }

pub returns-clause-room : goal.returns-clause-room
returns-clause-room c =
    let inv = c.loop-numbers.invariant in
    let none : c.loop-numbers.promised.items ≡ [] = search rules in
    let all = sym (append-nil inv.room.0) ∙ ap (λ ps. inv.room.0 ++ concat (map (λ n. n.items) ps)) (sym none) ∙ inv.room.1 in
    λ w. subst (λ (xs : List ℕ). GivesUp xs c.args.words.now c.loop-numbers.words w) all (inv.room.2 w)
