-- Making a seat beside another, and taking one in, keep the rule.
use Rattle.std.proofs.Common.{◌≡◌, ◌≢◌, ℕ, zero, suc, ◌+◌, ◌<◌, ◌==◌, cond, List, [], ◌∷◌, ◌++◌, length, set, refl, sym, ap, ◌∙◌, subst, ⊎_elim, arith, length-append, eq-eqb, ne_eqb}
use Rattle.std.proofs.lemmas.List.Sums.{sum_by_push}
use mathlib.Core.Option.{some}
use lib.ListN.{get_elem?}
use Rattle.atomic_table.specs.Table.{Splits, Joins}
use Rattle.atomic_table.proofs.Lists.{set_else, at_longer}
use Rattle.fts_turn.specs.declared.view.Account.{Account}
use Rattle.fts_turn.specs.declared.view.Stage.TheVariants.{Rests}
use Rattle.fts_turn.specs.declared.view.View.{View}
use Rattle.fts_turn.specs.Views.{place_in_line, IsOut, in_line, weight, account_beside, kept_part, new_part, both_parts, spent_part}
use Rattle.fts_turn.specs.Rule.{IsTrueAccount, AreTrueAccounts, FitsStage, Fits}
use Rattle.fts_turn.proofs.Lists.{put, put_here, put_else, sum_by-set_at, each_set, none_before, at_snoc_end, length-set_at}
use Rattle.fts_turn.proofs.Steps.{keeps_rule, rests_not_out}

module _ {T E : Type 0} (by : E → ℕ) (start : T) (history : List E) (made : ℕ) (holder : ℕ → ℕ) where
  -- one more number was made, and the new view has it
  pub true_with_next : (j new : ℕ) (accounts : List (Account T E)) → AreTrueAccounts by start history made holder j accounts → AreTrueAccounts by start history (made + 1) (put holder made new) j accounts
  true_with_next j new [] fit = tt
  true_with_next j new (a ∷ others) fit =
      let f = fit.0 in
      let number = f.number in (
        record { origin = f.origin; held = put_else holder made new a.number (λ e. omega arith) ∙ f.held; number = omega arith; seen = f.seen; gave = f.gave },
        true_with_next j new others fit.1,
      )

  -- the numbers of one view are those of another from now on
  abbrev pub moved : ℕ → ℕ → ℕ → ℕ
  moved from to n = cond (holder n == from) to (holder n)

  pub true_where_moved : (j from to : ℕ) → j ≢ from → (accounts : List (Account T E)) → AreTrueAccounts by start history made holder j accounts → AreTrueAccounts by start history made (moved from to) j accounts
  true_where_moved j from to apart [] fit = tt
  true_where_moved j from to apart (a ∷ others) fit =
      let f = fit.0 in (
        record { origin = f.origin; held = ap (λ b. cond b to (holder a.number)) (ne_eqb (holder a.number) from (λ e. apart (sym f.held ∙ e))) ∙ f.held; number = f.number; seen = f.seen; gave = f.gave },
        true_where_moved j from to apart others fit.1,
      )

  pub true_when_moved : (from to : ℕ) (accounts : List (Account T E)) → AreTrueAccounts by start history made holder from accounts → AreTrueAccounts by start history made (moved from to) to accounts
  true_when_moved from to [] fit = tt
  true_when_moved from to (a ∷ others) fit =
      let f = fit.0 in (
        record { origin = f.origin; held = ap (λ b. cond b to (holder a.number)) (eq-eqb (holder a.number) from f.held); number = f.number; seen = f.seen; gave = f.gave },
        true_when_moved from to others fit.1,
      )

  pub true_together : (j : ℕ) (xs ys : List (Account T E)) → AreTrueAccounts by start history made holder j xs → AreTrueAccounts by start history made holder j ys → AreTrueAccounts by start history made holder j (xs ++ ys)
  true_together j [] ys fits more = more
  true_together j (a ∷ xs) ys fits more = (fits.0, true_together j xs ys fits.1 more)

-- of two views one makes the next seat at most, and the view of both makes it then
makes_both : (id other maker made x y : ℕ) → id ≢ other → (0 < x → (maker ≡ id) × (x ≡ made)) → (0 < y → (maker ≡ other) × (y ≡ made)) → 0 < x + y → (cond (maker == other) id maker ≡ id) × (x + y ≡ made)
makes_both id other maker made zero y apart here there some_next =
    let m = there (omega arith) in
    (ap (λ b. cond b id maker) (eq-eqb maker other m.0), let same = m.1 in omega arith)
makes_both id other maker made (suc x) zero apart here there some_next =
    let m = here (omega arith) in
    (ap (λ b. cond b id maker) (ne_eqb maker other (λ e. apart (sym m.0 ∙ e))) ∙ m.0, let same = m.1 in omega arith)
makes_both id other maker made (suc x) (suc y) apart here there some_next = absurd (apart (sym (here (omega arith)).0 ∙ (there (omega arith)).0))

module _ {T E : Type 0} (stands_for : T → T → List E → Type 0) (at_first : T → ℕ) (by : E → ℕ) (start : T) where
  -- a seat at rest, which is to make the next one, makes it
  pub splits : (id : ℕ) (v : View T E) (a : Account T E) → v.stage ≡ Rests → v.accounts ≡ a ∷ [] → 0 < v.next_number → 0 < v.seats_left → Splits (keeps_rule stands_for at_first by start) id v (kept_part v) (new_part v)
  splits id v a rests one next left s r at =
      let keep = kept_part v in
      let new = new_part v in
      let fit = r.each id v at in
      let makes = fit.makes next in
      let account : IsTrueAccount by start r.history r.made r.holder id a = (subst (AreTrueAccounts by start r.history r.made r.holder id) one fit.accounts).0 in
      let there = length s.views in
      let as_long : length (set s.views id keep) ≡ there = length-set_at s.views id keep in
      let holder = put r.holder r.made there in
      let kept_line = sum_by-set_at in_line s.views id v keep at in
      let kept_weight = sum_by-set_at weight s.views id v keep at in
      let new_line = sum_by_push in_line (set s.views id keep) new in
      let new_weight = sum_by_push weight (set s.views id keep) new in
      let one_new : length new.accounts ≡ 1 = ap (λ as_. length (account_beside v.next_number as_)) one in
      let line = r.line in
      let seats = r.seats in
      record {
        history = r.history;
        made = r.made + 1;
        maker = there;
        serving = r.serving;
        next = r.next;
        holder = holder;
        queuer = r.queuer;
        three = r.three;
        few = r.few;
        early = r.early;
        line = omega arith;
        seats = omega arith;
        each = λ j u found. ⊎_elim
            (λ (t : (j ≢ length (set s.views id keep)) × (get_elem? (set s.views id keep) j ≡ some u)).
            each_set (λ k x. Fits by start r.history (r.made + 1) there r.serving r.next holder r.queuer k x) s.views id keep
            record { accounts = true_with_next by start r.history r.made r.holder id there v.accounts fit.accounts; stage = fit.stage; makes = λ some_next. absurd (omega arith) }
            (λ k x apart old.
            let f = r.each k x old in
            record { accounts = true_with_next by start r.history r.made r.holder k there x.accounts f.accounts; stage = f.stage; makes = λ some_next. absurd (apart (sym (f.makes some_next).0 ∙ makes.0)) })
            j u t.1)
            (λ (t : (j ≡ length (set s.views id keep)) × (new ≡ u)).
            subst (λ (y : ℕ × View T E). Fits by start r.history (r.made + 1) there r.serving r.next holder r.queuer y.0 y.1) (λ i. (sym (t.0 ∙ as_long) i, t.1 i))
            record {
              accounts = subst (λ as_. AreTrueAccounts by start r.history (r.made + 1) holder there (account_beside v.next_number as_)) (sym one) (
                record {
                  origin = account.origin;
                  held = ap holder makes.1 ∙ put_here r.holder r.made there;
                  number = let same = makes.1 in omega arith;
                  seen = account.seen;
                  gave = r.unmade v.next_number (let same = makes.1 in omega arith);
                },
                tt,
              );
              stage = tt;
              makes = λ some_next. (refl, let same = makes.1 in omega arith);
            })
            (at_snoc_end (set s.views id keep) new u j found);
        unmade = λ n above. r.unmade n (omega arith);
        home = λ none. r.home (none_before (λ u. IsOut u.stage) s.views id v keep at (rests_not_out v rests)
            (λ j u found. none j u (at_longer (set s.views id keep) (new ∷ []) j u found)));
      }

  -- a seat at rest takes in another that rests too
  pub joins : (id other : ℕ) (v w : View T E) → v.stage ≡ Rests → w.stage ≡ Rests → Joins (keeps_rule stands_for at_first by start) id v other w (both_parts v w) spent_part
  joins id other v w rests also s r at apart there =
      let both = both_parts v w in
      let views = set s.views id both in
      let there_before : get_elem? s.views other ≡ some w = sym (set_else s.views id other both apart) ∙ there in
      let fit = r.each id v at in
      let more = r.each other w there_before in
      let holder = moved by start r.history r.made r.holder other id in
      let maker = cond (r.maker == other) id r.maker in
      let line_both = sum_by-set_at in_line s.views id v both at in
      let weight_both = sum_by-set_at weight s.views id v both at in
      let line_spent = sum_by-set_at in_line views other w spent_part there in
      let weight_spent = sum_by-set_at weight views other w spent_part there in
      let lengths = length-append v.accounts w.accounts in
      let rests_too : in_line w ≡ 0 = ap place_in_line also in
      let line = r.line in
      let seats = r.seats in
      let id_apart : id ≢ other = λ e. apart (sym e) in
      record {
        history = r.history;
        made = r.made;
        maker = maker;
        serving = r.serving;
        next = r.next;
        holder = holder;
        queuer = r.queuer;
        three = r.three;
        few = r.few;
        early = r.early;
        line = omega arith;
        seats = omega arith;
        each = each_set (λ j u. Fits by start r.history r.made maker r.serving r.next holder r.queuer j u) views other spent_part
            record { accounts = tt; stage = tt; makes = λ some_next. absurd (omega arith) }
            (λ j u not_other found. each_set (λ k x. k ≢ other → Fits by start r.history r.made maker r.serving r.next holder r.queuer k x) s.views id both
            (λ _. record {
              accounts = true_together by start r.history r.made holder id v.accounts w.accounts
                  (true_where_moved by start r.history r.made r.holder id other id id_apart v.accounts fit.accounts)
                  (true_when_moved by start r.history r.made r.holder other id w.accounts more.accounts);
              stage = subst (FitsStage r.history r.serving r.next r.queuer id both.accounts) (sym rests) tt;
              makes = makes_both id other r.maker r.made v.next_number w.next_number id_apart fit.makes more.makes;
            })
            (λ k x not_id old not_there.
            let f = r.each k x old in
            record {
              accounts = true_where_moved by start r.history r.made r.holder k other id not_there x.accounts f.accounts;
              stage = f.stage;
              makes = λ some_next. let m = f.makes some_next in (ap (λ b. cond b id r.maker) (ne_eqb r.maker other (λ e. not_there (sym m.0 ∙ e))) ∙ m.0, m.1);
            })
            j u found not_other);
        unmade = r.unmade;
        home = λ none. r.home (none_before (λ u. IsOut u.stage) s.views id v both at (rests_not_out v rests) (none_before (λ u. IsOut u.stage) views other w spent_part there (rests_not_out w also) none));
      }
