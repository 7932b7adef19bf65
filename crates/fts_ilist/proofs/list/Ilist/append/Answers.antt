use Rattle.std.proofs.Common.{arith, ◌≡◌, ◌<◌, ◌++◌, ◌-◌, length, take, drop, ap, sym, subst, ◌∙◌, List, ℕ}
use Rattle.std.proofs.lemmas.Bool.{eqb-false}
use Rattle.std.proofs.lemmas.List.{take_rest}
use Rattle.fts_ilist.specs.Number.{number_bytes}
use Rattle.fts_ilist.specs.Spelling.{Posting, PostingsAfter, last_id}
use Rattle.fts_ilist.specs.Reading.{postings_in}
use Rattle.fts_ilist.proofs.Lists.{appended, list_tail, first_id_of}
use Rattle.fts_ilist.proofs.Cursors.{first_increase}
use Rattle.fts_ilist.proofs.Kept.{few_kept, kept_more}
use Rattle.fts_ilist.proofs.list.Ilist.append.Goals as goal

pub overflow_sub-first : goal.overflow_sub-first
overflow_sub-first c =
    let some : 0 < length c.other.inside.bytes.items = omega (arith, eqb-false _ _ (sym c.is_empty.ensures ∙ c.if-is_empty.false)) in
    let number = subst (λ b. b ≡ number_bytes c.front_number-first.result.0 ++ drop c.front_number-first.result.1 b) c.deref.ensures.value c.front_number-first.ensures.found in
    let found = first_increase c.other.inside.bytes.items c.front_number-first.result.0 c.front_number-first.result.1 (list_tail c.other.inside.last c.other.inside.bytes.items c.other.invariant.list) some number c.front_number-first.ensures.length in
    let after : PostingsAfter (last_id (postings_in 0 c.self.inside.bytes.items)) (postings_in 0 c.other.inside.bytes.items) = rw (c.self.view_is, c.other.view_is) c.requires in
    let a = appended c.self.inside.last c.self.inside.bytes.items c.other.inside.last c.other.inside.bytes.items c.front_number-first.result.0 c.front_number-first.result.1 c.self.invariant.list c.other.invariant.list after found in
    omega (arith, a.above)

pub overflow_add-self : goal.overflow_add-self
overflow_add-self c = omega (arith, few_kept _ _ _ _ c.self.invariant, few_kept _ _ _ _ c.other.invariant)

pub invariant_of-self-2 : goal.invariant_of-self-2
invariant_of-self-2 c =
    let some : 0 < length c.other.inside.bytes.items = omega (arith, eqb-false _ _ (sym c.is_empty.ensures ∙ c.if-is_empty.false)) in
    let number = subst (λ b. b ≡ number_bytes c.front_number-first.result.0 ++ drop c.front_number-first.result.1 b) c.deref.ensures.value c.front_number-first.ensures.found in
    let found = first_increase c.other.inside.bytes.items c.front_number-first.result.0 c.front_number-first.result.1 (list_tail c.other.inside.last c.other.inside.bytes.items c.other.invariant.list) some number c.front_number-first.ensures.length in
    let after : PostingsAfter (last_id (postings_in 0 c.self.inside.bytes.items)) (postings_in 0 c.other.inside.bytes.items) = rw (c.self.view_is, c.other.view_is) c.requires in
    let a = appended c.self.inside.last c.self.inside.bytes.items c.other.inside.last c.other.inside.bytes.items c.front_number-first.result.0 c.front_number-first.result.1 c.self.invariant.list c.other.invariant.list after found in
    let tail = take_rest c.deref-2.result.now c.front_number-first.result.1 ∙ ap (drop c.front_number-first.result.1) c.deref-2.ensures.value in
    let written = c.put_tail.ensures.items
    ∙ ap (λ (w : List ℕ). w ++ (number_bytes (c.front_number-first.result.0 - c.self.inside.last) ++ take (length c.deref-2.result.now - c.front_number-first.result.1) (drop c.front_number-first.result.1 c.deref-2.result.now))) c.in_ok-reserve.ensures.items in
    let m = a.made c.put_tail.new.out.items (written ∙ ap (λ (w : List ℕ). c.self.inside.bytes.items ++ (number_bytes (c.front_number-first.result.0 - c.self.inside.last) ++ w)) tail) in
    let has = first_id_of 0 c.other.inside.bytes.items _ _ (list_tail c.other.inside.last c.other.inside.bytes.items c.other.invariant.list) found in
    rw (c.first_with-self-inside.ensures, c.other.invariant.count_is)
    (kept_more _ _ _ _ c.front_number-first.result.0 c.other.inside.last _ (postings_in 0 c.other.inside.bytes.items) c.self.invariant has m)

pub returns-clause-ok : goal.returns-clause-ok
returns-clause-ok c =
    let some : 0 < length c.other.inside.bytes.items = omega (arith, eqb-false _ _ (sym c.is_empty.ensures ∙ c.if-is_empty.false)) in
    let number = subst (λ b. b ≡ number_bytes c.front_number-first.result.0 ++ drop c.front_number-first.result.1 b) c.deref.ensures.value c.front_number-first.ensures.found in
    let found = first_increase c.other.inside.bytes.items c.front_number-first.result.0 c.front_number-first.result.1 (list_tail c.other.inside.last c.other.inside.bytes.items c.other.invariant.list) some number c.front_number-first.ensures.length in
    let after : PostingsAfter (last_id (postings_in 0 c.self.inside.bytes.items)) (postings_in 0 c.other.inside.bytes.items) = rw (c.self.view_is, c.other.view_is) c.requires in
    let a = appended c.self.inside.last c.self.inside.bytes.items c.other.inside.last c.other.inside.bytes.items c.front_number-first.result.0 c.front_number-first.result.1 c.self.invariant.list c.other.invariant.list after found in
    let tail = take_rest c.deref-2.result.now c.front_number-first.result.1 ∙ ap (drop c.front_number-first.result.1) c.deref-2.ensures.value in
    let written = c.put_tail.ensures.items
    ∙ ap (λ (w : List ℕ). w ++ (number_bytes (c.front_number-first.result.0 - c.self.inside.last) ++ take (length c.deref-2.result.now - c.front_number-first.result.1) (drop c.front_number-first.result.1 c.deref-2.result.now))) c.in_ok-reserve.ensures.items in
    let m = a.made c.put_tail.new.out.items (written ∙ ap (λ (w : List ℕ). c.self.inside.bytes.items ++ (number_bytes (c.front_number-first.result.0 - c.self.inside.last) ++ w)) tail) in
    m.view
    ∙ ap (λ (w : List Posting). w ++ postings_in 0 c.other.inside.bytes.items) c.self.view_is
    ∙ ap (λ (w : List Posting). c.args.self.now ++ w) c.other.view_is
