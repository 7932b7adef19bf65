use Rattle.std.proofs.Common.{◌∷◌, [], refl, subst}
use Rattle.fts_cache.specs.Words.{Entries, GivesUp, without_room}
use Rattle.fts_cache.proofs.Table.{altered}
use Rattle.fts_cache.proofs.Rooms.{gives_one}
use Rattle.fts_cache.proofs.Used.{let_go_kept}
use Rattle.fts_cache.proofs.words.Words.release.Goals as goal

pub let_go-requires-clause-table : goal.let_go-requires-clause-table
let_go-requires-clause-table c =
    (altered c.args.number without_room c.self.inside.numbers.entries c.self.inside.slots.slots c.clear_at.new.slots.slots c.self.invariant.table c.clear_at.ensures).table

pub returns-clause-room : goal.returns-clause-room
returns-clause-room c =
    let i = c.self.inside in
    let old : Entries = record { numbers = i.numbers.entries; slots = i.slots.slots } in
    let now : Entries = record { numbers = i.numbers.entries; slots = c.clear_at.new.slots.slots } in
    let new : Entries = record { numbers = c.let_go.new.numbers.entries; slots = c.let_go.new.slots.slots } in
    λ w. subst (λ (o : Entries). GivesUp (c.args.number ∷ []) o new w) c.self.view_is
    (gives_one c.args.number old now new refl (altered c.args.number without_room i.numbers.entries i.slots.slots c.clear_at.new.slots.slots c.self.invariant.table c.clear_at.ensures) c.let_go.ensures.less w)

pub invariant_of-self : goal.invariant_of-self
invariant_of-self c =
    let i = c.self.inside in
    let old : Entries = record { numbers = i.numbers.entries; slots = i.slots.slots } in
    let now : Entries = record { numbers = i.numbers.entries; slots = c.clear_at.new.slots.slots } in
    let new : Entries = record { numbers = c.let_go.new.numbers.entries; slots = c.let_go.new.slots.slots } in
    let_go_kept c.args.number without_room old now new i.order c.let_go.new.order i.idle.items c.self.invariant refl (altered c.args.number without_room i.numbers.entries i.slots.slots c.clear_at.new.slots.slots c.self.invariant.table c.clear_at.ensures) c.let_go.ensures.less c.let_go.ensures.table c.let_go.ensures.listed
