-- Room that is given up.
use Rattle.std.proofs.Common.{◌≡◌, ◌≢◌, ◌⊎◌, inl, inr, ⊎_elim, ℕ, Bool, true, false, cond, ◌||◌, nat_eq, List, [], ◌∷◌, ◌++◌, Option, Some, None, refl, sym, ap, subst, ◌∙◌, arith}
use Rattle.std.specs.List.{concat}
use Rattle.std.specs.Option.{option_map_or}
use Rattle.fts_ilist.specs.Queue.{Queue}
use Rattle.fts_cache.specs.Cache.{CacheState, room_of, room_left}
use Rattle.fts_cache.specs.Words.{Entries, number_in, queue_in, has_number, IsLess, LetsGo, GivesUp, without_room}
use Rattle.fts_cache.proofs.Table.{IsAltered, some_is, none_is_not, queue_of_none}
use Rattle.fts_cache.proofs.Notes.{has_left, has_right}

true_or_false : (b : Bool) → (b ≡ true) ⊎ (b ≡ false)
true_or_false true = inl refl
true_or_false false = inr refl

or_false : (b : Bool) → (b || false) ≡ true → b ≡ true
or_false true e = refl
or_false false e = e

in_either : (n : ℕ) (a b : List ℕ) → has_number n (a ++ b) ≡ true → has_number n b ≡ false → has_number n a ≡ true
in_either n [] b e f = absurd (let never : true ≡ false = sym e ∙ f in cc)
in_either n (m ∷ ms) b e f = by (nat_eq n m) refl e (in_either n ms b)
  where
    by : (t : Bool) → nat_eq n m ≡ t → (nat_eq n m || has_number n (ms ++ b)) ≡ true → (has_number n (ms ++ b) ≡ true → has_number n b ≡ false → has_number n ms ≡ true) → (nat_eq n m || has_number n ms) ≡ true
    by true g e rest = ap (λ (x : Bool). x || has_number n ms) g
    by false g e rest = ap (λ (x : Bool). x || has_number n ms) g ∙ rest (sym (ap (λ (x : Bool). x || has_number n (ms ++ b)) g) ∙ e) f

not_left : (n : ℕ) (a b : List ℕ) → has_number n (a ++ b) ≡ false → has_number n a ≡ false
not_left n a b e =
    ⊎_elim
    (λ (h : has_number n a ≡ true). absurd (let never : true ≡ false = sym (has_left n a b h) ∙ e in cc))
    (λ (h : has_number n a ≡ false). h)
    (true_or_false (has_number n a))

not_right : (n : ℕ) (a b : List ℕ) → has_number n (a ++ b) ≡ false → has_number n b ≡ false
not_right n a b e =
    ⊎_elim
    (λ (h : has_number n b ≡ true). absurd (let never : true ≡ false = sym (has_right n a b h) ∙ e in cc))
    (λ (h : has_number n b ≡ false). h)
    (true_or_false (has_number n b))

pub gives_none : (old : Entries) (w : List ℕ) → GivesUp [] old old w
gives_none old w = record { given = λ n e h. absurd cc; kept = λ h. refl }

pub gives_more : (a b : List ℕ) (old now new : Entries) (w : List ℕ) → IsLess old now → GivesUp a old now w → GivesUp b now new w → GivesUp (a ++ b) old new w
gives_more a b old now new w l g h = record {
  given = λ n e has. by n e has (number_in now w) refl;
  kept = λ none.
      h.kept (λ n e. not_right n a b (none n (l.numbers w n e))) ∙ g.kept (λ n e. not_left n a b (none n e));
}
  where
    by : (n : ℕ) → number_in old w ≡ Some n → has_number n (a ++ b) ≡ true → (o : Option ℕ) → number_in now w ≡ o → (queue_in new w).room ≡ 0
    by n e has None f =
        h.kept (λ m x. none_is_not m (has_number m b ≡ false) (sym f ∙ x)) ∙ ap (λ (q : Queue). q.room) (queue_of_none now w f)
    by n e has (Some k) f =
        let same : n ≡ k = some_is n k (sym e ∙ l.numbers w k f) in
        ⊎_elim
        (λ (t : has_number n b ≡ true). h.given n (f ∙ ap Some (sym same)) t)
        (λ (t : has_number n b ≡ false).
        h.kept (λ m x. subst (λ (j : ℕ). has_number j b ≡ false) (some_is n m (sym (f ∙ ap Some (sym same)) ∙ x)) t)
        ∙ g.given n e (in_either n a b has t))
        (true_or_false (has_number n b))

pub gives_one : (n : ℕ) (old now new : Entries) → now.numbers ≡ old.numbers → IsAltered n without_room old now → LetsGo n now new → (w : List ℕ) → GivesUp (n ∷ []) old new w
gives_one n old now new same a l w = record {
  given = λ m e h.
      let is : m ≡ n = equal m n (or_false (nat_eq m n) h) in
      omega (arith, l.room w, ap (λ (q : Queue). q.room) (a.here w (e ∙ ap Some is)));
  kept = λ h.
      let differs : number_in old w ≢ Some n = λ e. other (h n e) in
      ap (λ (q : Queue). q.room) (l.others w (λ e. differs (sym (ap (λ ns. number_in (record { numbers = ns; slots = now.slots }) w) same) ∙ e)))
      ∙ ap (λ (q : Queue). q.room) (a.others w differs);
}
  where
    equal : (i j : ℕ) → nat_eq i j ≡ true → i ≡ j
    equal i j e = grind arith

    reflexive : (i : ℕ) → nat_eq i i ≡ true
    reflexive i = grind arith

    other : (nat_eq n n || false) ≡ false → ⊥
    other e = absurd (
        let never : true ≡ false = sym (ap (λ (b : Bool). b || false) (reflexive n)) ∙ e in
        cc)

-- what is left after the promised room was given up
pub left_after : (c : CacheState) (new : Entries) (w : List ℕ) → GivesUp (concat c.promised) c.words new w → (queue_in new w).room ≡ room_left c w
left_after c new w g = by (number_in c.words w) refl
  where
    is : Option ℕ → Bool
    is None = false
    is (Some n) = has_number n (concat c.promised)

    room : (o : Option ℕ) → number_in c.words w ≡ o → (b : Bool) → is o ≡ b → cond b 0 (room_of c w) ≡ room_left c w
    room None e b f = ap (λ (x : Bool). cond x 0 (room_of c w)) (sym f) ∙ sym (ap (λ (o : Option ℕ). cond (option_map_or (λ n. has_number n (concat c.promised)) o false) 0 (room_of c w)) e)
    room (Some n) e b f = ap (λ (x : Bool). cond x 0 (room_of c w)) (sym f) ∙ sym (ap (λ (o : Option ℕ). cond (option_map_or (λ n. has_number n (concat c.promised)) o false) 0 (room_of c w)) e)

    by : (o : Option ℕ) → number_in c.words w ≡ o → (queue_in new w).room ≡ room_left c w
    by None e = g.kept (λ n f. none_is_not n (has_number n (concat c.promised) ≡ false) (sym e ∙ f)) ∙ room None e false refl
    by (Some n) e =
        ⊎_elim
        (λ (t : has_number n (concat c.promised) ≡ true). g.given n e t ∙ room (Some n) e true t)
        (λ (t : has_number n (concat c.promised) ≡ false).
        g.kept (λ m f. subst (λ (j : ℕ). has_number j (concat c.promised) ≡ false) (some_is n m (sym e ∙ f)) t) ∙ room (Some n) e false t)
        (true_or_false (has_number n (concat c.promised)))
