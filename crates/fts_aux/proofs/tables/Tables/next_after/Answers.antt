use Rattle.std.proofs.Common.{subst, ◌∙◌, sym}
use Rattle.std.proofs.lemmas.Bool.{false≢true}
use Rattle.fts_aux.specs.Words.{IsNext, IsLast}
use Rattle.fts_aux.specs.Tables.{nodes, IsNextIn, IsLastIn}
use Rattle.fts_aux.proofs.Nexts.{if_some, if_none, found_high, none_high, found_own, low_none, low_past, found_later, found_first, none_first}
use Rattle.fts_aux.proofs.tables.Tables.next_after.Goals as goal
use Rattle.fts_aux.proofs.tables.Tables.next_after.Goals.{in-Some+else-not-is_behind_letters, in_default}

pub returns-then-is_behind_letters-clause-found : goal.returns-then-is_behind_letters-clause-found
returns-then-is_behind_letters-clause-found c =
    let w = c.args.word.now in
    if_some c.next_after-own.result _ (λ next. IsNext (nodes c.args.self.now) w next.now)
    (λ next is. found_high c.self.inside.tables c.args.self.now c.self.view_is c.self.invariant w c.place_of-place.result c.place_of-place.ensures.few c.place_of-place.ensures.table c.index-self-place.result (c.is_behind_letters.ensures.0 c.if-is_behind_letters.true) next.now is)
    c.next_after-own.ensures.found

pub returns-then-is_behind_letters-clause-none : goal.returns-then-is_behind_letters-clause-none
returns-then-is_behind_letters-clause-none c =
    let w = c.args.word.now in
    if_none c.next_after-own.result _ (IsLast (nodes c.args.self.now) w)
    (λ last. none_high c.self.inside.tables c.args.self.now c.self.view_is c.self.invariant w c.place_of-place.result c.place_of-place.ensures.few c.place_of-place.ensures.table c.index-self-place.result (c.is_behind_letters.ensures.0 c.if-is_behind_letters.true) last)
    c.next_after-own.ensures.none

pub returns-then-not-is_behind_letters-clause-found : goal.returns-then-not-is_behind_letters-clause-found
returns-then-not-is_behind_letters-clause-found c =
    let w = c.args.word.now in
    found_own c.self.inside.tables c.args.self.now c.self.view_is c.self.invariant w c.place_of-place.result c.place_of-place.ensures.few c.place_of-place.ensures.table c.index-self-place.result c.in-Some.next.now
    (λ high. false≢true (sym c.if-not-is_behind_letters.true ∙ c.is_behind_letters-in-Some.ensures.1 high))
    c.in-Some.ensures.found

pub returns-in-Some-next_in-clause-found : goal.returns-in-Some-next_in-clause-found
returns-in-Some-next_in-clause-found c =
    let w = c.args.word.now in
    found_later c.self.inside.tables c.args.self.now c.self.view_is c.self.invariant w c.place_of-place.result c.place_of-place.ensures.few c.place_of-place.ensures.table c.index-self-place.result
    (elim c.match-own.branch [
      | in-Some+else-not-is_behind_letters b ↦ low_past c.self.inside.tables c.args.self.now c.self.view_is c.self.invariant w c.place_of-place.result c.place_of-place.ensures.few c.place_of-place.ensures.table c.index-self-place.result b.in-Some.next.now (b.is_behind_letters-in-Some.ensures.0 b.if-not-is_behind_letters.false) b.in-Some.ensures.found
      | in_default b ↦ low_none c.self.inside.tables c.args.self.now c.self.view_is c.self.invariant w c.place_of-place.result c.place_of-place.ensures.few c.place_of-place.ensures.table c.index-self-place.result b.in_default.ensures.none
    ])
    c.in-Some-next_in.next.now
    (subst (λ ts. IsNextIn ts w c.in-Some-next_in.next.now) c.split_at.ensures.back c.in-Some-next_in.ensures.found)

pub returns-in-None-clause-found : goal.returns-in-None-clause-found
returns-in-None-clause-found c =
    let w = c.args.word.now in
    if_some c.next_after.result _ (λ next. IsNext (nodes c.args.self.now) w next.now)
    (λ next is. found_first c.self.inside.tables c.args.self.now c.self.view_is c.self.invariant w c.place_of-place.result c.place_of-place.ensures.few c.place_of-place.ensures.table c.index-self-place.result
    (elim c.match-own.branch [
      | in-Some+else-not-is_behind_letters b ↦ low_past c.self.inside.tables c.args.self.now c.self.view_is c.self.invariant w c.place_of-place.result c.place_of-place.ensures.few c.place_of-place.ensures.table c.index-self-place.result b.in-Some.next.now (b.is_behind_letters-in-Some.ensures.0 b.if-not-is_behind_letters.false) b.in-Some.ensures.found
      | in_default b ↦ low_none c.self.inside.tables c.args.self.now c.self.view_is c.self.invariant w c.place_of-place.result c.place_of-place.ensures.few c.place_of-place.ensures.table c.index-self-place.result b.in_default.ensures.none
    ])
    (subst (λ ts. IsLastIn ts w) c.split_at.ensures.back c.in-None.ensures.none) c.index-self-0.result next.now is)
    c.next_after.ensures.found

pub returns-in-None-clause-none : goal.returns-in-None-clause-none
returns-in-None-clause-none c =
    let w = c.args.word.now in
    if_none c.next_after.result _ (IsLast (nodes c.args.self.now) w)
    (λ last. none_first c.self.inside.tables c.args.self.now c.self.view_is c.self.invariant w c.place_of-place.result c.place_of-place.ensures.few c.place_of-place.ensures.table c.index-self-place.result
    (elim c.match-own.branch [
      | in-Some+else-not-is_behind_letters b ↦ low_past c.self.inside.tables c.args.self.now c.self.view_is c.self.invariant w c.place_of-place.result c.place_of-place.ensures.few c.place_of-place.ensures.table c.index-self-place.result b.in-Some.next.now (b.is_behind_letters-in-Some.ensures.0 b.if-not-is_behind_letters.false) b.in-Some.ensures.found
      | in_default b ↦ low_none c.self.inside.tables c.args.self.now c.self.view_is c.self.invariant w c.place_of-place.result c.place_of-place.ensures.few c.place_of-place.ensures.table c.index-self-place.result b.in_default.ensures.none
    ])
    (subst (λ ts. IsLastIn ts w) c.split_at.ensures.back c.in-None.ensures.none) c.index-self-0.result last)
    c.next_after.ensures.none
