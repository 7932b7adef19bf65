-- A walk over all words of the tables ends.
use Rattle.std.proofs.Common.{◌≡◌, ◌≢◌, ℕ, suc, ◌<◌, ◌≤◌, ◌==◌, Bool, true, false, cond, List, [], ◌∷◌, filter, length, sum_by, bytes_eq, is_lt, is_gt, Some, refl, sym, ap, subst, ◌∙◌, ⊎_elim, arith}
use Rattle.std.specs.List.Sorted.{IsStrictlySortedBy}
use Rattle.std.specs.Map.{keys_of}
use Rattle.std.specs.Option.{unwrap_or}
use Rattle.std.specs.declared.cmp.Ordering.TheVariants.{Less, Equal, Greater}
use Rattle.std.specs.Cmp.Lexicographic.{nat_list_cmp_total}
use Rattle.std.proofs.lemmas.Bool.{cases_Bool, false≢true}
use Rattle.std.proofs.lemmas.List.Sums.{sum_by-cons}
use Rattle.std.proofs.lemmas.Cmp.{tied_itself}
use Rattle.std.proofs.lemmas.Slice.Eq.{bytes_eq-Decides}
use Rattle.fts_types.specs.Table.{table_of}
use Rattle.fts_words.specs.Order.{byte_order}
use Rattle.fts_ilist.specs.Node.{Docs}
use Rattle.fts_aux.specs.Words.{nodes_at, IsNext, IsWalked}
use Rattle.fts_aux.specs.Table.{Entries, find, no_list, nodes_in}
use Rattle.fts_aux.specs.Tables.{Held, nodes, nodes_from}

-- how many words of a table stand behind one
abbrev behind_in : List ℕ → List (List ℕ) → ℕ
behind_in word keys = length (filter (λ k. is_lt (byte_order word k)) keys)

-- and of all tables
abbrev pub behind : List ℕ → Held → ℕ
behind word held = sum_by (λ t. behind_in word (keys_of t)) held

module _ (word next : List ℕ) (less : byte_order word next ≡ Less) where
  more_one : (a b : Bool) (k : List ℕ) (ks ms : List (List ℕ)) → (a ≡ true → b ≡ true) → length ks ≤ length ms → length (cond a (k ∷ ks) ks) ≤ length (cond b (k ∷ ms) ms)
  more_one true true k ks ms leads le = omega (arith, le)
  more_one true false k ks ms leads le = absurd (false≢true (leads refl))
  more_one false true k ks ms leads le = omega (arith, le)
  more_one false false k ks ms leads le = le

  both : (v : List ℕ) → is_lt (byte_order next v) ≡ true → is_lt (byte_order word v) ≡ true
  both v lt = ap is_lt (nat_list_cmp_total.trans word next v less (is_less (byte_order next v) lt))
    where
      is_less : (o : _) → is_lt o ≡ true → o ≡ Less
      is_less Less e = refl
      is_less Equal e = absurd (false≢true e)
      is_less Greater e = absurd (false≢true e)

  fewer_or : (ks : List (List ℕ)) → behind_in next ks ≤ behind_in word ks
  fewer_or [] = omega arith
  fewer_or (k ∷ ks) =
      more_one (is_lt (byte_order next k)) (is_lt (byte_order word k)) k (filter (λ v. is_lt (byte_order next v)) ks) (filter (λ v. is_lt (byte_order word v)) ks) (both k) (fewer_or ks)

  one_here : (a b : Bool) (k : List ℕ) (ks ms : List (List ℕ)) → a ≡ false → b ≡ true → length ks ≤ length ms → length (cond a (k ∷ ks) ks) < length (cond b (k ∷ ms) ms)
  one_here true b k ks ms e f le = absurd (false≢true (sym e))
  one_here false true k ks ms e f le = omega (arith, le)
  one_here false false k ks ms e f le = absurd (false≢true f)

  one_later : (a b : Bool) (k : List ℕ) (ks ms : List (List ℕ)) → (a ≡ true → b ≡ true) → length ks < length ms → length (cond a (k ∷ ks) ks) < length (cond b (k ∷ ms) ms)
  one_later true true k ks ms leads lt = omega (arith, lt)
  one_later true false k ks ms leads lt = absurd (false≢true (leads refl))
  one_later false true k ks ms leads lt = omega (arith, lt)
  one_later false false k ks ms leads lt = lt

  -- a table that has the next word
  fewer : (t : Entries) → nodes_in t next ≢ [] → behind_in next (keys_of t) < behind_in word (keys_of t)
  fewer [] some = absurd (some refl)
  fewer (e ∷ es) some =
      let ks = filter (λ (v : List ℕ). is_lt (byte_order next v)) (keys_of es) in
      let ms = filter (λ (v : List ℕ). is_lt (byte_order word v)) (keys_of es) in
      ⊎_elim
      (λ (here : bytes_eq next e.0 ≡ true).
      let same : next ≡ e.0 = (bytes_eq-Decides next e.0).0 here in
      one_here (is_lt (byte_order next e.0)) (is_lt (byte_order word e.0)) e.0 ks ms
      (ap (λ (v : List ℕ). is_lt (byte_order next v)) (sym same) ∙ ap is_lt (tied_itself nat_list_cmp_total next))
      (ap (λ (v : List ℕ). is_lt (byte_order word v)) (sym same) ∙ ap is_lt less)
      (fewer_or (keys_of es)))
      (λ (no : bytes_eq next e.0 ≡ false).
      one_later (is_lt (byte_order next e.0)) (is_lt (byte_order word e.0)) e.0 ks ms (both e.0)
      (fewer es (subst (λ (b : Bool). (unwrap_or (cond b (Some e.1) (find next es)) no_list).nodes ≢ []) no some)))
      (cases_Bool (bytes_eq next e.0))

  fewer_all : (k : ℕ) (ts : Held) → nodes_from k ts next ≢ [] → behind next ts < behind word ts
  fewer_all k [] some = absurd (some refl)
  fewer_all k (t ∷ ts) some =
      let at = sum_by-cons (λ (u : Entries). behind_in next (keys_of u)) t ts in
      let now = sum_by-cons (λ (u : Entries). behind_in word (keys_of u)) t ts in
      ⊎_elim
      (λ (here : (table_of next == k) ≡ true).
      let one = fewer t (subst (λ (b : Bool). cond b (nodes_in t next) (nodes_from (suc k) ts next) ≢ []) here some) in
      omega (arith, at, now, one, fewer_at_most ts))
      (λ (no : (table_of next == k) ≡ false).
      let one = fewer_all (suc k) ts (subst (λ (b : Bool). cond b (nodes_in t next) (nodes_from (suc k) ts next) ≢ []) no some) in
      omega (arith, at, now, one, fewer_or (keys_of t)))
      (cases_Bool (table_of next == k))
    where
      fewer_at_most : (us : Held) → behind next us ≤ behind word us
      fewer_at_most [] = omega arith
      fewer_at_most (u ∷ us) =
          omega (arith, fewer_at_most us, fewer_or (keys_of u), sum_by-cons (λ (v : Entries). behind_in next (keys_of v)) u us, sum_by-cons (λ (v : Entries). behind_in word (keys_of v)) u us)

-- a step of the walk leaves fewer words
pub fewer_behind : (held : Held) (word next : List ℕ) → IsNext (nodes held) word next → behind next held < behind word held
fewer_behind held word next is = fewer_all word next is.after 1 held is.inside

-- ---- its begin

no_word_before : (w : List ℕ) → is_gt (byte_order w []) ≡ false → w ≡ []
no_word_before [] e = refl
no_word_before (x ∷ w) e = absurd (false≢true (sym e))

pub walk_begins : (ns : List ℕ → List Docs) (done : List (List ℕ × List Docs)) → done ≡ [] → ns [] ≡ [] → IsWalked ns [] done
unfolding IsStrictlySortedBy
walk_begins ns done is none =
    subst (IsWalked ns []) (sym is) (record {
      ascending = tt;
      filled = tt;
      within = tt;
      exact = λ word le. sym (ap ns (no_word_before word le) ∙ none);
    })

pub walk_begins_with : (ns : List ℕ → List Docs) (done : List (List ℕ × List Docs)) → done ≡ ([], ns []) ∷ [] → ns [] ≢ [] → IsWalked ns [] done
unfolding IsStrictlySortedBy
walk_begins_with ns done is some =
    subst (IsWalked ns []) (sym is) (record {
      ascending = (tt, tt);
      filled = (some, tt);
      within = (refl, tt);
      exact = λ word le. ap (λ (w : List ℕ). nodes_at w (([], ns []) ∷ [])) (no_word_before word le) ∙ ap ns (sym (no_word_before word le));
    })
