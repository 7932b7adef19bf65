use Rattle.std.proofs.Common.{rules, ◌≡◌, ◌++◌, ◌∷◌, [], length, ◌≤◌, cond, ℕ, List, Some, None, arith, sym, ap, subst, ◌∙◌}
use Rattle.std.specs.BTreeMap.{get, is_at}
use Rattle.std.specs.Map.{lookup}
use Rattle.std.specs.Str.{bytes_eq}
use Rattle.fts_words.specs.Order.{byte_order}
use Rattle.fts_cache.specs.declared.words.CachedWord.{CachedWord}
use Rattle.fts_cache.specs.Words.{Entries, slot_in, number_in, Enters, IsUsedBut}
use Rattle.fts_cache.proofs.Queues.{ok_holds}
use Rattle.fts_cache.proofs.Table.{numbers_updated, longer_by_insert}
use Rattle.fts_cache.proofs.Used.{LeavesAll, entered_all}
use Rattle.fts_cache.proofs.words.Words.enter.Goals as goal

pub invariant_of-self-2 : goal.invariant_of-self-2
invariant_of-self-2 c =
    let i = c.self.inside in
    let word = c.args.word.now in
    let n = c.in-Ok.number in
    let s : CachedWord = record { word = c.in_ok-word.word; queue = c.new-queue.result } in
    let old : Entries = record { numbers = i.numbers.entries; slots = i.slots.slots } in
    let new : Entries = record { numbers = c.insert-2.new.self.entries; slots = c.insert_reserved.new.self.slots } in
    let absent : number_in old word ≡ None = search rules in
    let number : n ≡ c.vacant_key.result = search rules in
    let slots : c.reserve.new.self.slots ≡ i.slots.slots = ap (λ x. x.slots) c.in_ok-reserve.ensures.rest_kept in
    let at : c.insert_reserved.result ≡ n = c.insert_reserved.ensures.key ∙ ap (λ x. x.vacant_key) c.in_ok-reserve.ensures.rest_kept ∙ sym c.vacant_key.ensures.value ∙ sym number in
    let free : slot_in old.slots n ≡ None = ap (slot_in i.slots.slots) number ∙ c.vacant_key.ensures.vacant in
    let u = c.insert_reserved.ensures.updates in
    let there : slot_in new.slots n ≡ Some s = ap (slot_in new.slots) (sym at) ∙ u.changed in
    let key : c.in_ok-key.key ≡ word = c.in_ok-key.ensures in
    let same : c.reserve-2.new.self.entries ≡ i.numbers.entries = c.reserve-2.ensures.entries in
    let more : c.push.new.self.items ≡ i.idle.items ++ n ∷ [] = search rules in
    let up = ok_holds c.insert-2.result _ (c.insert-2.ensures.succeeds (omega (arith, c.in_ok-reserve-2.ensures.ok))) c.insert-2.ensures.updates in
    let numbers = numbers_updated c.reserve-2.new.self.entries c.insert-2.new.self.entries c.in_ok-key.key (Some n) up.1 up.3 in
    let longer : length old.numbers ≤ length new.numbers = longer_by_insert c.insert-2.result c.reserve-2.new.self.entries c.insert-2.new.self.entries i.numbers.entries (c.insert-2.ensures.succeeds (omega (arith, c.in_ok-reserve-2.ensures.ok))) c.insert-2.ensures.len same in
    let all : LeavesAll old new c.insert.new.self c.push.new.self.items n
    = entered_all old new i.order c.insert.new.self i.idle.items c.push.new.self.items word n s c.self.invariant absent c.in_ok-word.ensures c.new-queue.ensures free there
    (λ m differs. u.others m (λ e. differs (e ∙ at)) ∙ ap (λ xs. slot_in xs m) slots)
    (λ w. numbers w ∙ ap (λ (x : List ℕ). cond (bytes_eq w x) (Some n) (lookup (λ k. bytes_eq w k) c.reserve-2.new.self.entries)) key ∙ ap (λ (es : List (List ℕ × ℕ)). cond (bytes_eq w word) (Some n) (lookup (λ k. bytes_eq w k) es)) same)
    (subst (λ (x : List ℕ). (w : List ℕ) → get byte_order c.insert.new.self w ≡ cond (is_at (byte_order x) w) (Some n) (get byte_order i.order w)) c.in_ok-listed.ensures c.in_ok-insert.ensures.updates.0)
    more longer in
    all.kept

pub returns-clause-enters : goal.returns-clause-enters
returns-clause-enters c =
    let i = c.self.inside in
    let word = c.args.word.now in
    let n = c.in-Ok.number in
    let s : CachedWord = record { word = c.in_ok-word.word; queue = c.new-queue.result } in
    let old : Entries = record { numbers = i.numbers.entries; slots = i.slots.slots } in
    let new : Entries = record { numbers = c.insert-2.new.self.entries; slots = c.insert_reserved.new.self.slots } in
    let absent : number_in old word ≡ None = search rules in
    let number : n ≡ c.vacant_key.result = search rules in
    let slots : c.reserve.new.self.slots ≡ i.slots.slots = ap (λ x. x.slots) c.in_ok-reserve.ensures.rest_kept in
    let at : c.insert_reserved.result ≡ n = c.insert_reserved.ensures.key ∙ ap (λ x. x.vacant_key) c.in_ok-reserve.ensures.rest_kept ∙ sym c.vacant_key.ensures.value ∙ sym number in
    let free : slot_in old.slots n ≡ None = ap (slot_in i.slots.slots) number ∙ c.vacant_key.ensures.vacant in
    let u = c.insert_reserved.ensures.updates in
    let there : slot_in new.slots n ≡ Some s = ap (slot_in new.slots) (sym at) ∙ u.changed in
    let key : c.in_ok-key.key ≡ word = c.in_ok-key.ensures in
    let same : c.reserve-2.new.self.entries ≡ i.numbers.entries = c.reserve-2.ensures.entries in
    let more : c.push.new.self.items ≡ i.idle.items ++ n ∷ [] = search rules in
    let up = ok_holds c.insert-2.result _ (c.insert-2.ensures.succeeds (omega (arith, c.in_ok-reserve-2.ensures.ok))) c.insert-2.ensures.updates in
    let numbers = numbers_updated c.reserve-2.new.self.entries c.insert-2.new.self.entries c.in_ok-key.key (Some n) up.1 up.3 in
    let longer : length old.numbers ≤ length new.numbers = longer_by_insert c.insert-2.result c.reserve-2.new.self.entries c.insert-2.new.self.entries i.numbers.entries (c.insert-2.ensures.succeeds (omega (arith, c.in_ok-reserve-2.ensures.ok))) c.insert-2.ensures.len same in
    let all : LeavesAll old new c.insert.new.self c.push.new.self.items n
    = entered_all old new i.order c.insert.new.self i.idle.items c.push.new.self.items word n s c.self.invariant absent c.in_ok-word.ensures c.new-queue.ensures free there
    (λ m differs. u.others m (λ e. differs (e ∙ at)) ∙ ap (λ xs. slot_in xs m) slots)
    (λ w. numbers w ∙ ap (λ (x : List ℕ). cond (bytes_eq w x) (Some n) (lookup (λ k. bytes_eq w k) c.reserve-2.new.self.entries)) key ∙ ap (λ (es : List (List ℕ × ℕ)). cond (bytes_eq w word) (Some n) (lookup (λ k. bytes_eq w k) es)) same)
    (subst (λ (x : List ℕ). (w : List ℕ) → get byte_order c.insert.new.self w ≡ cond (is_at (byte_order x) w) (Some n) (get byte_order i.order w)) c.in_ok-listed.ensures c.in_ok-insert.ensures.updates.0)
    more longer in
    subst (λ (o : Entries). Enters o new) c.self.view_is all.enters

pub returns-clause-used : goal.returns-clause-used
returns-clause-used c =
    let i = c.self.inside in
    let word = c.args.word.now in
    let n = c.in-Ok.number in
    let s : CachedWord = record { word = c.in_ok-word.word; queue = c.new-queue.result } in
    let old : Entries = record { numbers = i.numbers.entries; slots = i.slots.slots } in
    let new : Entries = record { numbers = c.insert-2.new.self.entries; slots = c.insert_reserved.new.self.slots } in
    let absent : number_in old word ≡ None = search rules in
    let number : n ≡ c.vacant_key.result = search rules in
    let slots : c.reserve.new.self.slots ≡ i.slots.slots = ap (λ x. x.slots) c.in_ok-reserve.ensures.rest_kept in
    let at : c.insert_reserved.result ≡ n = c.insert_reserved.ensures.key ∙ ap (λ x. x.vacant_key) c.in_ok-reserve.ensures.rest_kept ∙ sym c.vacant_key.ensures.value ∙ sym number in
    let free : slot_in old.slots n ≡ None = ap (slot_in i.slots.slots) number ∙ c.vacant_key.ensures.vacant in
    let u = c.insert_reserved.ensures.updates in
    let there : slot_in new.slots n ≡ Some s = ap (slot_in new.slots) (sym at) ∙ u.changed in
    let key : c.in_ok-key.key ≡ word = c.in_ok-key.ensures in
    let same : c.reserve-2.new.self.entries ≡ i.numbers.entries = c.reserve-2.ensures.entries in
    let more : c.push.new.self.items ≡ i.idle.items ++ n ∷ [] = search rules in
    let up = ok_holds c.insert-2.result _ (c.insert-2.ensures.succeeds (omega (arith, c.in_ok-reserve-2.ensures.ok))) c.insert-2.ensures.updates in
    let numbers = numbers_updated c.reserve-2.new.self.entries c.insert-2.new.self.entries c.in_ok-key.key (Some n) up.1 up.3 in
    let longer : length old.numbers ≤ length new.numbers = longer_by_insert c.insert-2.result c.reserve-2.new.self.entries c.insert-2.new.self.entries i.numbers.entries (c.insert-2.ensures.succeeds (omega (arith, c.in_ok-reserve-2.ensures.ok))) c.insert-2.ensures.len same in
    let all : LeavesAll old new c.insert.new.self c.push.new.self.items n
    = entered_all old new i.order c.insert.new.self i.idle.items c.push.new.self.items word n s c.self.invariant absent c.in_ok-word.ensures c.new-queue.ensures free there
    (λ m differs. u.others m (λ e. differs (e ∙ at)) ∙ ap (λ xs. slot_in xs m) slots)
    (λ w. numbers w ∙ ap (λ (x : List ℕ). cond (bytes_eq w x) (Some n) (lookup (λ k. bytes_eq w k) c.reserve-2.new.self.entries)) key ∙ ap (λ (es : List (List ℕ × ℕ)). cond (bytes_eq w word) (Some n) (lookup (λ k. bytes_eq w k) es)) same)
    (subst (λ (x : List ℕ). (w : List ℕ) → get byte_order c.insert.new.self w ≡ cond (is_at (byte_order x) w) (Some n) (get byte_order i.order w)) c.in_ok-listed.ensures c.in_ok-insert.ensures.updates.0)
    more longer in
    subst (λ (o : Entries). (idle : List ℕ) → IsUsedBut o idle → IsUsedBut new (n ∷ idle)) c.self.view_is all.used
