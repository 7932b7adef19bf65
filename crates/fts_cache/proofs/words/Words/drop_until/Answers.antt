use Rattle.std.proofs.Common.{refl, subst}
use Rattle.fts_cache.specs.Words.{Entries, IsDropped, without}
use Rattle.fts_cache.proofs.Table.{altered, dropped}
use Rattle.fts_cache.proofs.Used.{altered_kept}
use Rattle.fts_cache.proofs.words.Words.drop_until.Goals as goal

pub retire-requires : goal.retire-requires
retire-requires c =
    let i = c.self.inside in
    let old : Entries = record { numbers = i.numbers.entries; slots = i.slots.slots } in
    let now : Entries = record { numbers = i.numbers.entries; slots = c.drop_at.new.slots.slots } in
    record { kept = altered_kept c.args.number (without c.args.doc) old now i.order i.idle.items c.self.invariant refl (altered c.args.number (without c.args.doc) i.numbers.entries i.slots.slots c.drop_at.new.slots.slots c.self.invariant.table c.drop_at.ensures) }

pub returns : goal.returns
returns c =
    let i = c.self.inside in
    let old : Entries = record { numbers = i.numbers.entries; slots = i.slots.slots } in
    let now : Entries = record { numbers = i.numbers.entries; slots = c.drop_at.new.slots.slots } in
    let new : Entries = record { numbers = c.retire.new.numbers.entries; slots = c.retire.new.slots.slots } in
    λ w. subst (λ (o : Entries). IsDropped c.args.number c.args.doc o new w) c.self.view_is
    (dropped c.args.number c.args.doc old now new c.self.invariant.table refl (altered c.args.number (without c.args.doc) i.numbers.entries i.slots.slots c.drop_at.new.slots.slots c.self.invariant.table c.drop_at.ensures) c.retire.ensures.less w)
