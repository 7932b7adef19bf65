use Rattle.std.proofs.Common.{OnOk, ℕ, List, ◌∷◌, subst}
use Rattle.fts_cache.specs.Words.{Entries, IsUsedBut}
use Rattle.fts_cache.proofs.Used.{reserved_kept, reserved_used}
use Rattle.fts_cache.proofs.words.Words.reserve.Goals as goal

pub invariant_of-self : goal.invariant_of-self
invariant_of-self c =
    let i = c.self.inside in
    reserved_kept c.args.number c.args.positions i.numbers.entries i.slots.slots c.reserve_at.new.slots.slots i.order i.idle.items c.reserve_at.result c.self.invariant c.reserve_at.ensures.ok c.reserve_at.ensures.err

pub returns-clause-used : goal.returns-clause-used
returns-clause-used c =
    let i = c.self.inside in
    subst (λ (o : Entries). OnOk c.reserve_at.result ((idle : List ℕ) → IsUsedBut o (c.args.number ∷ idle) → IsUsedBut (record { numbers = i.numbers.entries; slots = c.reserve_at.new.slots.slots }) idle)) c.self.view_is
    (reserved_used c.args.number c.args.positions i.numbers.entries i.slots.slots c.reserve_at.new.slots.slots c.reserve_at.result c.self.invariant.table c.reserve_at.ensures.ok)
