-- A walk over words in byte order.
use Rattle.std.proofs.Common.{◌≡◌, ◌≢◌, ℕ, Bool, true, false, cond, List, [], ◌∷◌, ◌++◌, Option, Some, None, refl, sym, ap, subst, ◌∙◌, ⊎_elim, inl, inr, ◌⊎◌}
use Rattle.std.specs.List.{AllByRecursion}
use Rattle.std.specs.Map.{lookup}
use Rattle.std.specs.Option.{unwrap_or}
use Rattle.std.specs.BTreeMap.{is_at}
use Rattle.std.specs.declared.cmp.Ordering.{Ordering}
use Rattle.std.specs.declared.cmp.Ordering.TheVariants.{Less, Equal, Greater}
use Rattle.std.specs.Ordering.{is_eq, is_gt, ordering_reverse}
use Rattle.std.specs.Cmp.Lexicographic.{nat_list_cmp_total}
use Rattle.std.proofs.lemmas.Bool.{true≢false, cases_Bool}
use Rattle.std.proofs.lemmas.List.Elements.{All-from_recursion}
use Rattle.fts_words.specs.Order.{byte_order}
use Rattle.fts_ilist.specs.Node.{Docs}
use Rattle.fts_aux.specs.Words.{nodes_at, IsNext, IsLast, IsListing, IsWalked}
use Rattle.fts_aux.proofs.Ordered.{AllBehind, Ascends, ascends_from, sorted_to, same_word, equal_itself, is_Equal}

-- ---- words in byte order

by_order : (o : Ordering) → is_gt o ≡ false → (o ≡ Less) ⊎ (o ≡ Equal)
by_order Less e = inl refl
by_order Equal e = inr refl
by_order Greater e = absurd (true≢false e)

-- not behind a word, and that before another
le_less : (a b c : List ℕ) → is_gt (byte_order a b) ≡ false → byte_order b c ≡ Less → byte_order a c ≡ Less
le_less a b c le less =
    ⊎_elim
    (λ (h : byte_order a b ≡ Less). nat_list_cmp_total.trans a b c h less)
    (λ (h : byte_order a b ≡ Equal). subst (λ (x : List ℕ). byte_order x c ≡ Less) (sym (same_word a b (ap is_eq h))) less)
    (by_order (byte_order a b) le)

less_gt : (a b : List ℕ) → byte_order a b ≡ Less → is_gt (byte_order b a) ≡ true
less_gt a b less = ap is_gt (nat_list_cmp_total.antisymm b a ∙ ap ordering_reverse less)

gt_less : (a b : List ℕ) → is_gt (byte_order a b) ≡ true → byte_order b a ≡ Less
gt_less a b gt = nat_list_cmp_total.antisymm b a ∙ ap ordering_reverse (is_Greater (byte_order a b) gt)
  where
    is_Greater : (o : Ordering) → is_gt o ≡ true → o ≡ Greater
    is_Greater Less e = absurd (true≢false (sym e))
    is_Greater Equal e = absurd (true≢false (sym e))
    is_Greater Greater e = refl

less_le : (a b : List ℕ) → byte_order a b ≡ Less → is_gt (byte_order a b) ≡ false
less_le a b less = ap is_gt less

less_apart : (a b : List ℕ) → byte_order a b ≡ Less → is_eq (byte_order b a) ≡ false
less_apart a b less = ap is_eq (nat_list_cmp_total.antisymm b a ∙ ap ordering_reverse less)

no_nodes_left : (ns : List Docs) → (ns ≢ [] → ⊥) → ns ≡ []
no_nodes_left [] h = refl
no_nodes_left (n ∷ ns) h = absurd (h (λ e. absurd (cc)))

-- ---- one word more at the end

abbrev Words : Type 0
Words = List (List ℕ × List Docs)

behind_last : (w n : List ℕ) (ns : List Docs) (es : Words) → byte_order w n ≡ Less → AllBehind w es → AllBehind w (es ++ (n, ns) ∷ [])
behind_last w n ns [] less h = (less, tt)
behind_last w n ns (e ∷ es) less h = (h.0, behind_last w n ns es less h.1)

ascends_last : (at n : List ℕ) (ns : List Docs) (es : Words) → byte_order at n ≡ Less → AllByRecursion (λ e. is_gt (byte_order e.0 at) ≡ false) es → Ascends es → Ascends (es ++ (n, ns) ∷ [])
ascends_last at n ns [] less within up = (tt, tt)
ascends_last at n ns (e ∷ es) less within up = (behind_last e.0 n ns es (le_less e.0 at n within.0 less) up.0, ascends_last at n ns es less within.1 up.1)

filled_last : (n : List ℕ) (ns : List Docs) (es : Words) → ns ≢ [] → AllByRecursion (λ e. e.1 ≢ []) es → AllByRecursion (λ e. e.1 ≢ []) (es ++ (n, ns) ∷ [])
filled_last n ns [] some h = (some, tt)
filled_last n ns (e ∷ es) some h = (h.0, filled_last n ns es some h.1)

within_last : (at n : List ℕ) (ns : List Docs) (es : Words) → byte_order at n ≡ Less → AllByRecursion (λ e. is_gt (byte_order e.0 at) ≡ false) es
    → AllByRecursion (λ e. is_gt (byte_order e.0 n) ≡ false) (es ++ (n, ns) ∷ [])
within_last at n ns [] less h = (ap is_gt (is_Equal (byte_order n n) (equal_itself n)), tt)
within_last at n ns (e ∷ es) less h = (less_le e.0 n (le_less e.0 at n h.0 less), within_last at n ns es less h.1)

-- a word behind all of them is none of them
none_within : (at q : List ℕ) (es : Words) → byte_order at q ≡ Less → AllByRecursion (λ e. is_gt (byte_order e.0 at) ≡ false) es → lookup (is_at (byte_order q)) es ≡ None
none_within at q [] less h = refl
none_within at q (e ∷ es) less h =
    ap (λ (b : Bool). cond b (Some e.1) (lookup (is_at (byte_order q)) es)) (less_apart e.0 q (le_less e.0 at q h.0 less))
    ∙ none_within at q es less h.1

-- what a list with one more has for a word
here_last : (q n : List ℕ) (ns : List Docs) (es : Words) → lookup (is_at (byte_order q)) es ≡ None → is_eq (byte_order q n) ≡ true → nodes_at q (es ++ (n, ns) ∷ []) ≡ ns
here_last q n ns [] none same = ap (λ (b : Bool). unwrap_or (cond b (Some ns) None) []) same
here_last q n ns (e ∷ es) none same =
    ⊎_elim
    (λ (h : is_eq (byte_order q e.0) ≡ true). absurd (let never : Some e.1 ≡ None = sym (ap (λ (b : Bool). cond b (Some e.1) (lookup (is_at (byte_order q)) es)) h) ∙ none in cc))
    (λ (h : is_eq (byte_order q e.0) ≡ false).
    ap (λ (b : Bool). unwrap_or (cond b (Some e.1) (lookup (is_at (byte_order q)) (es ++ (n, ns) ∷ []))) []) h
    ∙ here_last q n ns es (sym (ap (λ (b : Bool). cond b (Some e.1) (lookup (is_at (byte_order q)) es)) h) ∙ none) same)
    (cases_Bool (is_eq (byte_order q e.0)))

other_last : (q n : List ℕ) (ns : List Docs) (es : Words) → is_eq (byte_order q n) ≡ false → nodes_at q (es ++ (n, ns) ∷ []) ≡ nodes_at q es
other_last q n ns [] apart = ap (λ (b : Bool). unwrap_or (cond b (Some ns) None) []) apart
other_last q n ns (e ∷ es) apart =
    ⊎_elim
    (λ (h : is_eq (byte_order q e.0) ≡ true).
    ap (λ (b : Bool). unwrap_or (cond b (Some e.1) (lookup (is_at (byte_order q)) (es ++ (n, ns) ∷ []))) []) h
    ∙ sym (ap (λ (b : Bool). unwrap_or (cond b (Some e.1) (lookup (is_at (byte_order q)) es)) []) h))
    (λ (h : is_eq (byte_order q e.0) ≡ false).
    ap (λ (b : Bool). unwrap_or (cond b (Some e.1) (lookup (is_at (byte_order q)) (es ++ (n, ns) ∷ []))) []) h
    ∙ other_last q n ns es apart
    ∙ sym (ap (λ (b : Bool). unwrap_or (cond b (Some e.1) (lookup (is_at (byte_order q)) es)) []) h))
    (cases_Bool (is_eq (byte_order q e.0)))

-- ---- a step

module _ (nodes : List ℕ → List Docs) (at : List ℕ) (done : Words) (walked : IsWalked nodes at done) where
  none_behind : (q : List ℕ) → byte_order at q ≡ Less → nodes_at q done ≡ []
  none_behind q less = ap (λ (o : Option (List Docs)). unwrap_or o []) (none_within at q done less walked.within)

  exact_with : (n : List ℕ) → IsNext nodes at n → (q : List ℕ) → is_gt (byte_order q n) ≡ false → nodes_at q (done ++ (n, nodes n) ∷ []) ≡ nodes q
  exact_with n next q le =
      ⊎_elim
      (λ (same : is_eq (byte_order q n) ≡ true).
      let e : q ≡ n = same_word q n same in
      here_last q n (nodes n) done (none_within at q done (subst (λ (x : List ℕ). byte_order at x ≡ Less) (sym e) next.after) walked.within) same ∙ ap nodes (sym e))
      (λ (apart : is_eq (byte_order q n) ≡ false).
      other_last q n (nodes n) done apart
      ∙ ⊎_elim
      (λ (gt : is_gt (byte_order q at) ≡ true).
      let behind : byte_order at q ≡ Less = gt_less q at gt in
      none_behind q behind ∙ sym (no_nodes_left (nodes q) (λ some. true≢false (sym (less_gt q n (before q apart le)) ∙ next.least q behind some))))
      (λ (upto : is_gt (byte_order q at) ≡ false). walked.exact q upto)
      (cases_Bool (is_gt (byte_order q at))))
      (cases_Bool (is_eq (byte_order q n)))
    where
      before : (x : List ℕ) → is_eq (byte_order x n) ≡ false → is_gt (byte_order x n) ≡ false → byte_order x n ≡ Less
      before x differs upto =
          ⊎_elim
          (λ (h : byte_order x n ≡ Less). h)
          (λ (h : byte_order x n ≡ Equal). absurd (true≢false (sym (ap is_eq h) ∙ differs)))
          (by_order (byte_order x n) upto)

  pub walked_more : (n : List ℕ) (ns : List Docs) → IsNext nodes at n → ns ≡ nodes n → IsWalked nodes n (done ++ (n, ns) ∷ [])
  walked_more n ns next is =
      subst (λ (x : List Docs). IsWalked nodes n (done ++ (n, x) ∷ [])) (sym is) (record {
        ascending = sorted_to (done ++ (n, nodes n) ∷ []) (ascends_last at n (nodes n) done next.after walked.within (ascends_from done walked.ascending));
        filled = filled_last n (nodes n) done next.inside walked.filled;
        within = within_last at n (nodes n) done next.after walked.within;
        exact = exact_with n next;
      })

  pub walked_all : IsLast nodes at → IsListing nodes [] done
  walked_all last = record {
    ascending = walked.ascending;
    filled = All-from_recursion (λ e. e.1 ≢ []) done walked.filled;
    exact = λ q. ⊎_elim
        (λ (gt : is_gt (byte_order q at) ≡ true). let behind : byte_order at q ≡ Less = gt_less q at gt in none_behind q behind ∙ sym (last q behind))
        (λ (upto : is_gt (byte_order q at) ≡ false). walked.exact q upto)
        (cases_Bool (is_gt (byte_order q at)));
  }
