use Rattle.std.proofs.Common.{rules, ◌≡◌, ◌++◌, ◌∷◌, ◌-◌, [], Some, false, vec_len, sym, ◌∙◌}
use Rattle.std.specs.List.{slice_get}
use Rattle.fts_cache.specs.Words.{is_spent_at}
use Rattle.fts_cache.proofs.Used.{last_off, used_off}
use Rattle.fts_cache.proofs.words.trim.Goals as goal

pub loop-last-preserved : goal.loop-last-preserved
loop-last-preserved c =
    let all = c.loop-last.idle.items in
    let rest = c.pop.new.self.items in
    let n = c.in-Some.last.now in
    let last : slice_get all (vec_len c.loop-last.idle - 1) ≡ Some n = search rules in
    let some : is_spent_at c.args.slots.now.slots n ≡ false = sym c.is_unused.ensures ∙ c.if-is_unused.false in
    let ends : all ≡ rest ++ n ∷ [] = last_off all rest (vec_len c.loop-last.idle - 1) n c.pop.result last (c.pop.ensures.value 0 search rules) c.pop.ensures.items in
    record {
      used = λ numbers t u. used_off (record { numbers = numbers; slots = c.args.slots.now.slots }) n all rest t ends some (c.loop-last.invariant.used numbers t u);
    }
