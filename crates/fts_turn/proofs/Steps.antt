-- The kinds of step from drawing a ticket to leaving the turn keep the rule, and tell what they say.
use Rattle.std.proofs.Common.{◌≡◌, ◌≢◌, ℕ, ◌+◌, ◌^◌, ◌%◌, ◌<◌, ◌≤◌, List, [], ◌∷◌, ◌++◌, length, set, Option, Some, refl, sym, ap, ◌∙◌, subst, arith, length-append}
use Rattle.std.specs.Prelude.{slice_index, slice_set}
use Rattle.std.proofs.lemmas.List.{append-nil}
use mathlib.Core.Option as maybe
use mathlib.Core.Option.{some, some-injective}
use mathlib.Core.Logic.{dite}
use native.Mathlib.Decide.{ℕ_discrete, dec_lt}
use lib.ListN.{get_elem?}
use Rattle.atomic_table.specs.Table.{State, Act, keeps, takes, gives, Valid, Allows, carried_after, homes_after}
use Rattle.atomic_table.proofs.Lists.{set_here, set_again}
use Rattle.fts_turn.specs.declared.view.Account.{Account}
use Rattle.fts_turn.specs.declared.view.Stage.{Stage}
use Rattle.fts_turn.specs.declared.view.Stage.TheVariants.{Rests, Waits, HasTurn}
use Rattle.fts_turn.specs.declared.view.View.{View}
use Rattle.fts_turn.specs.Histories.{Begins, entries_by, AllBy}
use Rattle.fts_turn.specs.Views.{place_in_line, IsOut, in_line, weight, waiting, turning, adding, resting}
use Rattle.fts_turn.specs.Rule.{IsTrueAccount, AreTrueAccounts, HasTicket, IsServed, FitsStage, Fits, NobodyHas, IsKept}
use Rattle.fts_turn.specs.Steps.{Seated, Draws, TakesTurn, Looks, Raises, Leaves}
use Rattle.fts_turn.proofs.Lists.{unwrapped, put, put_here, put_else, begins_all, begins_more, entries_by-append, entries_by-all, entries_by-none, sum_by-set_at, sum_by-le_each, set_there, each_set, none_before}

-- one list of one element has one element
pub same_one : {A : Type 0} (x y : A) → x ∷ [] ≡ y ∷ [] → x ≡ y
same_one x y e = cc

pub waits_not_out : {E T : Type 0} (v : View T E) (t : ℕ) → v.stage ≡ Waits t → ¬ (IsOut v.stage)
waits_not_out v t e out = subst IsOut e out

pub rests_not_out : {E T : Type 0} (v : View T E) → v.stage ≡ Rests → ¬ (IsOut v.stage)
rests_not_out v e out = subst IsOut e out

module _ {T E : Type 0} (history : List E) (serving next : ℕ) (queuer : ℕ → ℕ) (j : ℕ) (accounts : List (Account T E)) where
  -- the view that has the turn has the ticket that is served
  pub out_is_served : (st : Stage) → FitsStage history serving next queuer j accounts st → IsOut st → queuer serving ≡ j
  out_is_served Rests fit out = absurd out
  out_is_served (Waits t) fit out = absurd out
  out_is_served (HasTurn t) fit out = ap queuer fit.served ∙ fit.mine

  -- a view in line has one account
  pub in_line_has_one : (st : Stage) → FitsStage history serving next queuer j accounts st → place_in_line st ≤ length accounts
  in_line_has_one Rests fit = omega arith
  in_line_has_one (Waits t) fit = let e = ap length fit.one in omega arith
  in_line_has_one (HasTurn t) fit = let e = ap length fit.one in omega arith

  -- a view that isn't served fits its stage whatever the history becomes
  pub fits_any_history : (other : List E) (st : Stage) → FitsStage history serving next queuer j accounts st → queuer serving ≢ j → FitsStage other serving next queuer j accounts st
  fits_any_history other Rests fit apart = tt
  fits_any_history other (Waits t) fit apart = fit
  fits_any_history other (HasTurn t) fit apart = absurd (apart (ap queuer fit.served ∙ fit.mine))

  -- one more ticket is drawn
  pub fits_drawn : (id : ℕ) (st : Stage) → FitsStage history serving next queuer j accounts st → FitsStage history serving (next + 1) (put queuer next id) j accounts st
  fits_drawn id Rests fit = tt
  fits_drawn id (Waits t) fit =
      let drawn = fit.drawn in
      record { mine = put_else queuer next id t (λ e. omega arith) ∙ fit.mine; unserved = fit.unserved; drawn = omega arith; account = fit.account; one = fit.one }
  fits_drawn id (HasTurn t) fit =
      let drawn = fit.drawn in
      record { mine = put_else queuer next id t (λ e. omega arith) ∙ fit.mine; served = fit.served; drawn = omega arith; early = fit.early; account = fit.account; one = fit.one; whole = fit.whole }

  -- the next ticket is served
  pub fits_left : (st : Stage) → FitsStage history serving next queuer j accounts st → queuer serving ≢ j → FitsStage history (serving + 1) next queuer j accounts st
  fits_left Rests fit apart = tt
  fits_left (Waits t) fit apart =
      let unserved = fit.unserved in
      let later : serving ≢ t = λ e. apart (ap queuer e ∙ fit.mine) in
      record { mine = fit.mine; unserved = omega arith; drawn = fit.drawn; account = fit.account; one = fit.one }
  fits_left (HasTurn t) fit apart = absurd (apart (ap queuer fit.served ∙ fit.mine))

module _ {T E : Type 0} (by : E → ℕ) (start : T) (history : List E) (made : ℕ) (holder : ℕ → ℕ) where
  -- the accounts of a view are true of a longer history too, if another view's number made what was added
  pub true_with_more : (j k : ℕ) (added : List E) → AllBy by k added → holder k ≢ j → (accounts : List (Account T E)) → AreTrueAccounts by start history made holder j accounts → AreTrueAccounts by start (history ++ added) made holder j accounts
  true_with_more j k added all apart [] fit = tt
  true_with_more j k added all apart (a ∷ others) fit =
      let f = fit.0 in (
        record {
          origin = f.origin;
          held = f.held;
          number = f.number;
          seen = begins_more a.seen history added f.seen;
          gave = entries_by-append by a.number history added
              ∙ ap (λ l. entries_by by a.number history ++ l) (entries_by-none by k a.number added all (λ e. apart (ap holder (sym e) ∙ f.held)))
              ∙ append-nil (entries_by by a.number history)
              ∙ f.gave;
        },
        true_with_more j k added all apart others fit.1,
      )

module _ {T E : Type 0} (stands_for : T → T → List E → Type 0) (at_first : T → ℕ) (by : E → ℕ) (start : T) where
  abbrev Kept : List ℕ → List (maybe.Option (Option T)) → List (View T E) → Type 0
  Kept words homes views = IsKept stands_for at_first by start words homes views

  abbrev pub keeps_rule : State (Option T) (View T E) → Type 0
  keeps_rule s = Kept s.words s.homes s.views

  -- what a step owes where the words are these
  abbrev Owes : List (maybe.Option (Option T)) → List (View T E) → ℕ → Seated T E → ℕ → (ℕ → ℕ) → (ℕ → Seated T E → Type 0) → List ℕ → Type 0
  Owes homes views id me i f then words = (w : View T E) × (act : Act (Option T)) × Valid homes me.1 act × Kept (slice_set words i (f (slice_index words i))) (homes_after homes me.1 act) (set views id w) × then (slice_index words i) (w, carried_after me.1 act)

  -- as many views are in line as there are accounts at most, so no ticket wraps
  line_is_short : (words : List ℕ) (homes : List (maybe.Option (Option T))) (views : List (View T E)) (r : Kept words homes views) → r.next ≤ r.serving + 18
  line_is_short words homes views r =
      let few = sum_by-le_each in_line weight views (λ j v at. let f = r.each j v at in let one = in_line_has_one r.history r.serving r.next r.queuer j v.accounts v.stage f.stage in omega arith) in
      let line = r.line in
      let seats = r.seats in
      omega arith

  module _ (slots id : ℕ) (me : Seated T E) where
    -- a seat at rest draws a ticket
    pub draws : (a : Account T E) → me.0.stage ≡ Rests → me.0.accounts ≡ a ∷ [] → Allows keeps_rule slots id me 0 (λ n. (n + 1) % 2 ^ 64) (λ n. Draws me n)
    draws a rests one s r len at fits =
        let v = me.0 in
        let w = waiting v r.next in
        let fit = r.each id v at in
        let short = line_is_short s.words s.homes s.views r in
        let early = r.early in
        let line = r.line in
        let seats = r.seats in
        let none_in_line : in_line v ≡ 0 = ap place_in_line rests in
        let one_more = sum_by-set_at in_line s.views id v w at in
        let as_many = sum_by-set_at weight s.views id v w at in
        subst (Owes s.homes s.views id me 0 (λ n. (n + 1) % 2 ^ 64) (λ n. Draws me n)) (sym r.three) (
          w,
          keeps,
          tt,
          record {
            history = r.history;
            made = r.made;
            maker = r.maker;
            serving = r.serving;
            next = r.next + 1;
            holder = r.holder;
            queuer = put r.queuer r.next id;
            three = ap (λ (n : ℕ). n ∷ r.serving ∷ (at_first start + length r.history) ∷ []) (unwrapped (r.next + 1) (omega arith));
            few = r.few;
            early = r.early;
            line = omega arith;
            seats = omega arith;
            each = each_set (λ j u. Fits by start r.history r.made r.maker r.serving (r.next + 1) r.holder (put r.queuer r.next id) j u) s.views id w
                record { accounts = fit.accounts; stage = record { mine = put_here r.queuer r.next id; unserved = omega arith; drawn = omega arith; account = a; one = one }; makes = fit.makes }
                (λ j u apart there. let f = r.each j u there in record { accounts = f.accounts; stage = fits_drawn r.history r.serving r.next r.queuer j u.accounts id u.stage f.stage; makes = f.makes });
            unmade = r.unmade;
            home = λ none. r.home (none_before (λ u. IsOut u.stage) s.views id v w at (rests_not_out v rests) none);
          },
          refl,
        )

    -- its ticket isn't served: nothing changes
    still_waits : (t : ℕ) (a : Account T E) → me.0.stage ≡ Waits t → (words : List ℕ) (homes : List (maybe.Option (Option T))) (views : List (View T E)) (r : Kept words homes views) → get_elem? views id ≡ some me.0 → ¬ ((r.serving ≡ t) × (t < 2 ^ 63)) → Owes homes views id me 1 (λ n. n) (λ n. Looks stands_for by me n) (r.next ∷ r.serving ∷ (at_first start + length r.history) ∷ [])
    still_waits t a waits words homes views r at not_yet = (
      me.0,
      keeps,
      tt,
      subst (λ vs. Kept (r.next ∷ r.serving ∷ (at_first start + length r.history) ∷ []) homes vs) (sym (set_again views id me.0 at)) (subst (λ ws. Kept ws homes views) r.three r),
      λ ticket b waits_with only.
          let same : t ≡ ticket = cc in
          ((λ found early. absurd (not_yet (found ∙ sym same, subst (λ n. n < 2 ^ 63) (sym same) early))), (λ _. refl)),
    )

    -- its ticket is served: the value is at home, and it takes it
    takes_turn : (t : ℕ) (a : Account T E) → me.0.stage ≡ Waits t → me.0.accounts ≡ a ∷ [] → (words : List ℕ) (homes : List (maybe.Option (Option T))) (views : List (View T E)) (r : Kept words homes views) → get_elem? views id ≡ some me.0 → r.serving ≡ t → t < 2 ^ 63 → Owes homes views id me 1 (λ n. n) (λ n. Looks stands_for by me n) (r.next ∷ r.serving ∷ (at_first start + length r.history) ∷ [])
    takes_turn t a waits one words homes views r at served early =
        let v = me.0 in
        let w = turning v a t r.history in
        let fit = r.each id v at in
        let ticket : HasTicket r.serving r.next r.queuer id v.accounts t = subst (FitsStage r.history r.serving r.next r.queuer id v.accounts) waits fit.stage in
        let mine : r.queuer r.serving ≡ id = ap r.queuer served ∙ ticket.mine in
        let account : IsTrueAccount by start r.history r.made r.holder id a = (subst (AreTrueAccounts by start r.history r.made r.holder id) one fit.accounts).0 in
        let nobody : NobodyHas views = λ j u there out.
        let f = r.each j u there in
        let here : j ≡ id = sym (out_is_served r.history r.serving r.next r.queuer j u.accounts u.stage f.stage out) ∙ mine in
        let same : u ≡ v = some-injective u v (sym there ∙ ap (λ i. get_elem? views i) here ∙ at) in
        waits_not_out v t waits (subst (λ (x : View T E). IsOut x.stage) same out) in
        let home = r.home nobody in
        let none_more = sum_by-set_at in_line views id v w at in
        let as_many = sum_by-set_at weight views id v w at in
        let was_in_line : in_line v ≡ 1 = ap place_in_line waits in
        let was_one : length v.accounts ≡ 1 = ap length one in
        let line = r.line in
        let seats = r.seats in
        let stands : stands_for start home.0 r.history = home.2 in (
          w,
          takes 0 (Some home.0),
          home.1,
          record {
            history = r.history;
            made = r.made;
            maker = r.maker;
            serving = r.serving;
            next = r.next;
            holder = r.holder;
            queuer = r.queuer;
            three = refl;
            few = r.few;
            early = r.early;
            line = omega arith;
            seats = omega arith;
            each = each_set (λ j u. Fits by start r.history r.made r.maker r.serving r.next r.holder r.queuer j u) views id w
                record {
                  accounts = (record { origin = account.origin; held = account.held; number = account.number; seen = begins_all r.history; gave = account.gave }, tt);
                  stage = record { mine = ticket.mine; served = served; drawn = ticket.drawn; early = early; account = record a { seen = r.history }; one = refl; whole = refl };
                  makes = fit.makes;
                }
                (λ j u apart there. r.each j u there);
            unmade = r.unmade;
            home = λ none. absurd (none id w (set_there views id v w at) tt);
          },
          λ number b waits_with only.
              let same : t ≡ number = cc in
              let same_account : a ≡ b = same_one a b (sym one ∙ only) in (
                (λ found soon. subst (λ (y : ℕ × Account T E). TakesTurn stands_for by y.0 y.1 me (w, (0, Some home.0) ∷ me.1)) (λ i. (same i, same_account i))
                    record { value = home.0; history = r.history; stands = subst (λ o. stands_for o home.0 r.history) (sym account.origin) stands; seen = account.seen; gave = account.gave; now = refl }),
                (λ other. absurd (other (served ∙ same, subst (λ n. n < 2 ^ 63) same early))),
              ),
        )

    -- a seat that waits looks which ticket is served
    pub looks : (t : ℕ) (a : Account T E) → me.0.stage ≡ Waits t → me.0.accounts ≡ a ∷ [] → Allows keeps_rule slots id me 1 (λ n. n) (λ n. Looks stands_for by me n)
    looks t a waits one s r len at fits =
        subst (Owes s.homes s.views id me 1 (λ n. n) (λ n. Looks stands_for by me n)) (sym r.three)
        (dite (ℕ_discrete r.serving t)
        (λ (served : r.serving ≡ t). dite (dec_lt t (2 ^ 63))
        (λ (early : t < 2 ^ 63). takes_turn t a waits one s.words s.homes s.views r at served early)
        (λ (late : ¬ (t < 2 ^ 63)). still_waits t a waits s.words s.homes s.views r at (λ p. late p.1)))
        (λ (other : ¬ (r.serving ≡ t)). still_waits t a waits s.words s.homes s.views r at (λ p. other p.0)))

    -- a seat that has the turn raises the count by the entries that it adds, and all entries are few
    pub raises : (t n : ℕ) (a : Account T E) (added : List E) → me.0.stage ≡ HasTurn t → me.0.accounts ≡ a ∷ [] → length added ≡ n → AllBy by a.number added → at_first a.origin + length (a.seen ++ added) < 2 ^ 63 → Allows keeps_rule slots id me 2 (λ k. (k + n) % 2 ^ 64) (λ _. Raises added me)
    raises t n a added has one many all few s r len at fits =
        let v = me.0 in
        let w = adding v a added in
        let fit = r.each id v at in
        let turn : IsServed r.history r.serving r.next r.queuer id v.accounts t = subst (FitsStage r.history r.serving r.next r.queuer id v.accounts) has fit.stage in
        let mine : r.queuer r.serving ≡ id = ap r.queuer turn.served ∙ turn.mine in
        let account : IsTrueAccount by start r.history r.made r.holder id a = (subst (AreTrueAccounts by start r.history r.made r.holder id) one fit.accounts).0 in
        let whole : a.seen ≡ r.history = ap (λ (x : Account T E). x.seen) (same_one a turn.account (sym one ∙ turn.one)) ∙ turn.whole in
        let longer = r.history ++ added in
        let few_here : at_first start + length longer < 2 ^ 63 = subst (λ (y : T × List E). at_first y.0 + length (y.1 ++ added) < 2 ^ 63) (λ i. (account.origin i, whole i)) few in
        let sum : length longer ≡ length r.history + n = length-append r.history added ∙ ap (λ k. length r.history + k) many in
        let none_more = sum_by-set_at in_line s.views id v w at in
        let as_many = sum_by-set_at weight s.views id v w at in
        let was_one : length v.accounts ≡ 1 = ap length one in
        let line = r.line in
        let seats = r.seats in
        let raised : (at_first start + length r.history + n) % 2 ^ 64 ≡ at_first start + length longer = unwrapped _ (omega arith) ∙ omega arith in
        subst (Owes s.homes s.views id me 2 (λ k. (k + n) % 2 ^ 64) (λ _. Raises added me)) (sym r.three) (
          w,
          keeps,
          tt,
          record {
            history = longer;
            made = r.made;
            maker = r.maker;
            serving = r.serving;
            next = r.next;
            holder = r.holder;
            queuer = r.queuer;
            three = ap (λ (k : ℕ). r.next ∷ r.serving ∷ k ∷ []) raised;
            few = few_here;
            early = r.early;
            line = omega arith;
            seats = omega arith;
            each = each_set (λ j u. Fits by start longer r.made r.maker r.serving r.next r.holder r.queuer j u) s.views id w
                record {
                  accounts = (
                    record {
                      origin = account.origin;
                      held = account.held;
                      number = account.number;
                      seen = subst (λ seen. Begins (seen ++ added) longer) (sym whole) (begins_all longer);
                      gave = entries_by-append by a.number r.history added ∙ ap (λ l. l ++ entries_by by a.number added) account.gave ∙ ap (λ l. a.gave ++ l) (entries_by-all by a.number added all);
                    },
                    tt,
                  );
                  stage = subst (FitsStage longer r.serving r.next r.queuer id w.accounts) (sym has)
                      record { mine = turn.mine; served = turn.served; drawn = turn.drawn; early = turn.early; account = record a { gave = a.gave ++ added; seen = a.seen ++ added }; one = refl; whole = ap (λ l. l ++ added) whole };
                  makes = fit.makes;
                }
                (λ j u apart there.
                let f = r.each j u there in
                record {
                  accounts = true_with_more by start r.history r.made r.holder j a.number added all (λ e. apart (sym e ∙ account.held)) u.accounts f.accounts;
                  stage = fits_any_history r.history r.serving r.next r.queuer j u.accounts longer u.stage f.stage (λ e. apart (sym e ∙ mine));
                  makes = f.makes;
                });
            unmade = λ k above. let number = account.number in
                entries_by-append by k r.history added ∙ ap (λ l. l ++ entries_by by k added) (r.unmade k above) ∙ entries_by-none by a.number k added all (λ e. omega arith);
            home = λ none. absurd (none id w (set_there s.views id v w at) (subst IsOut (sym has) tt));
          },
          λ b only. let same = same_one a b (sym one ∙ only) in λ i. (adding v (same i) added, me.1),
        )

  -- a seat that holds the value puts it back, and the next ticket is served
  pub leaves : (slots id : ℕ) (v : View T E) (t : ℕ) (a : Account T E) (value : T) → slots ≡ 1 → v.stage ≡ HasTurn t → v.accounts ≡ a ∷ [] → stands_for a.origin value a.seen → Allows keeps_rule slots id (v, (0, Some value) ∷ []) 1 (λ n. (n + 1) % 2 ^ 64) (λ _. Leaves (v, (0, Some value) ∷ []))
  leaves slots id v t a value one_slot has one stands s r len at fits =
      let me : Seated T E = (v, (0, Some value) ∷ []) in
      let w = resting v in
      let fit = r.each id v at in
      let turn : IsServed r.history r.serving r.next r.queuer id v.accounts t = subst (FitsStage r.history r.serving r.next r.queuer id v.accounts) has fit.stage in
      let mine : r.queuer r.serving ≡ id = ap r.queuer turn.served ∙ turn.mine in
      let account : IsTrueAccount by start r.history r.made r.holder id a = (subst (AreTrueAccounts by start r.history r.made r.holder id) one fit.accounts).0 in
      let whole : a.seen ≡ r.history = ap (λ (x : Account T E). x.seen) (same_one a turn.account (sym one ∙ turn.one)) ∙ turn.whole in
      let stands_here : stands_for start value r.history = subst (λ (y : T × List E). stands_for y.0 value y.1) (λ i. (account.origin i, whole i)) stands in
      let one_less = sum_by-set_at in_line s.views id v w at in
      let as_many = sum_by-set_at weight s.views id v w at in
      let was_in_line : in_line v ≡ 1 = ap place_in_line has in
      let served = turn.served in
      let early = turn.early in
      let line = r.line in
      let seats = r.seats in
      subst (Owes s.homes s.views id me 1 (λ n. (n + 1) % 2 ^ 64) (λ _. Leaves me)) (sym r.three) (
        w,
        gives,
        tt,
        record {
          history = r.history;
          made = r.made;
          maker = r.maker;
          serving = r.serving + 1;
          next = r.next;
          holder = r.holder;
          queuer = r.queuer;
          three = ap (λ (n : ℕ). r.next ∷ n ∷ (at_first start + length r.history) ∷ []) (unwrapped (r.serving + 1) (omega arith));
          few = r.few;
          early = omega arith;
          line = omega arith;
          seats = omega arith;
          each = each_set (λ j u. Fits by start r.history r.made r.maker (r.serving + 1) r.next r.holder r.queuer j u) s.views id w
              record { accounts = fit.accounts; stage = tt; makes = fit.makes }
              (λ j u apart there. let f = r.each j u there in record { accounts = f.accounts; stage = fits_left r.history r.serving r.next r.queuer j u.accounts u.stage f.stage (λ e. apart (sym e ∙ mine)); makes = f.makes });
          unmade = r.unmade;
          home = λ none. (value, set_here s.homes 0 (some (Some value)) (omega arith), stands_here);
        },
        refl,
      )

  pub leaves_as : (slots id : ℕ) (me : Seated T E) (t : ℕ) (a : Account T E) (value : T) → me.1 ≡ (0, Some value) ∷ [] → slots ≡ 1 → me.0.stage ≡ HasTurn t → me.0.accounts ≡ a ∷ [] → stands_for a.origin value a.seen → Allows keeps_rule slots id me 1 (λ n. (n + 1) % 2 ^ 64) (λ _. Leaves me)
  leaves_as slots id me t a value holds one_slot has one stands =
      subst (λ (cs : List (ℕ × Option T)). Allows keeps_rule slots id (me.0, cs) 1 (λ n. (n + 1) % 2 ^ 64) (λ _. Leaves (me.0, cs))) (sym holds) (leaves slots id me.0 t a value one_slot has one stands)
