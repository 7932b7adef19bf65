use Rattle.std.proofs.Common.{rules, ◌≡◌, true, false, Option, Some, None, sym, ap, ◌∙◌}
use Rattle.std.specs.Option.{option_map_or}
use Rattle.fts_cache.specs.declared.words.CachedWord.{CachedWord}
use Rattle.fts_cache.specs.Words.{slot_in, is_spent}
use Rattle.fts_cache.proofs.Table.{let_go, numbers_updated}
use Rattle.fts_cache.proofs.Used.{listed_less}
use Rattle.fts_cache.proofs.words.let_go.Goals as goal

pub returns-in-Some-clause-table : goal.returns-in-Some-clause-table
returns-in-Some-clause-table c =
    let s = c.in-Some.cached in
    let u = c.in-Some.ensures.updates in
    let found : slot_in c.args.slots.now.slots c.args.number ≡ Some s = sym c.in-Some.ensures.value in
    let is_true : c.is_unused.result ≡ true = search rules in
    let spent : is_spent s.queue ≡ true = ap (λ (o : Option CachedWord). option_map_or (λ (x : CachedWord). is_spent x.queue) o false) (sym found) ∙ sym c.is_unused.ensures ∙ is_true in
    let numbers = numbers_updated c.args.numbers.now.entries c.swap_remove.new.self.entries s.word None c.swap_remove.ensures.updates.1 c.swap_remove.ensures.updates.3 in
    (let_go (record { numbers = c.args.numbers.now.entries; slots = c.args.slots.now.slots }) (record { numbers = c.swap_remove.new.self.entries; slots = c.try_remove.new.self.slots }) c.args.number s c.requires.table found spent u.changed u.others numbers).table

pub returns-in-Some-clause-less : goal.returns-in-Some-clause-less
returns-in-Some-clause-less c =
    let s = c.in-Some.cached in
    let u = c.in-Some.ensures.updates in
    let found : slot_in c.args.slots.now.slots c.args.number ≡ Some s = sym c.in-Some.ensures.value in
    let is_true : c.is_unused.result ≡ true = search rules in
    let spent : is_spent s.queue ≡ true = ap (λ (o : Option CachedWord). option_map_or (λ (x : CachedWord). is_spent x.queue) o false) (sym found) ∙ sym c.is_unused.ensures ∙ is_true in
    let numbers = numbers_updated c.args.numbers.now.entries c.swap_remove.new.self.entries s.word None c.swap_remove.ensures.updates.1 c.swap_remove.ensures.updates.3 in
    (let_go (record { numbers = c.args.numbers.now.entries; slots = c.args.slots.now.slots }) (record { numbers = c.swap_remove.new.self.entries; slots = c.try_remove.new.self.slots }) c.args.number s c.requires.table found spent u.changed u.others numbers).less

pub returns-in-Some-clause-listed : goal.returns-in-Some-clause-listed
returns-in-Some-clause-listed c =
    let s = c.in-Some.cached in
    let numbers = numbers_updated c.args.numbers.now.entries c.swap_remove.new.self.entries s.word None c.swap_remove.ensures.updates.1 c.swap_remove.ensures.updates.3 in
    listed_less c.args.numbers.now.entries c.swap_remove.new.self.entries c.args.order.now c.forget.new.order s.word numbers
    c.forget.ensures c.requires.listed
