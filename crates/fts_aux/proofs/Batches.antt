-- A step of the install of a batch.
use Rattle.std.proofs.Common.{◌≡◌, ◌≢◌, ◌⊎◌, ℕ, ◌-◌, ◌≤◌, ◌&&◌, ◌||◌, Bool, true, false, refl, cond, List, [], ◌∷◌, ◌++◌, length, get_or, take, drop, sym, ap, subst, ◌∙◌, ⊎_elim, append_assoc, arith}
use Rattle.std.proofs.lemmas.List.{take_rest}
use Rattle.std.specs.List.{AllByRecursion, list_any}
use Rattle.std.specs.Str.{bytes_eq}
use Rattle.std.specs.Cmp.Lexicographic.{same_text, other_text}
use Rattle.std.specs.declared.cmp.Ordering.TheVariants.{Less}
use Rattle.std.specs.Ordering.{is_eq}
use Rattle.std.proofs.lemmas.Bool.{false≢true, cases_Bool}
use Rattle.fts_words.specs.Order.{byte_order}
use Rattle.fts_ilist.specs.Node.{Docs, NodesAfter, last_of, nodes_for}
use Rattle.fts_aux.specs.Tables.{Held, nodes, holds, HasNoOther, begins_above, begin_behind}
use Rattle.fts_aux.proofs.Finds.{is_same}
use Rattle.fts_aux.proofs.Ordered.{AllBehind, equal_itself}
use Rattle.std.specs.Map.{keys_of}

apart_from : (w q : List ℕ) → byte_order w q ≡ Less → q ≢ w
apart_from w q less e = false≢true (sym (ap is_eq less) ∙ ap (λ z. is_eq (byte_order w z)) e ∙ equal_itself w)

module _ (held held' : Held) (word : List ℕ) (added : List Docs) (here : nodes held' word ≡ nodes held word ++ added)
    (others : (q : List ℕ) → q ≢ word → nodes held' q ≡ nodes held q) where
  pub nodes_step : (rest : List (List ℕ × List Docs)) (w : List ℕ) → nodes held' w ++ nodes_for w rest ≡ nodes held w ++ nodes_for w ((word, added) ∷ rest)
  nodes_step rest w =
      ⊎_elim
      (λ same. let e : w ≡ word = same_text w word (sym same) in
      ap (λ ns. ns ++ nodes_for w rest) (ap (nodes held') e ∙ here ∙ ap (λ z. nodes held z ++ added) (sym e))
      ∙ append_assoc (nodes held w) added (nodes_for w rest)
      ∙ sym (ap (λ b. nodes held w ++ (cond b added [] ++ nodes_for w rest)) same))
      (λ other. ap (λ ns. ns ++ nodes_for w rest) (others w (other_text w word (sym other)))
      ∙ sym (ap (λ b. nodes held w ++ (cond b added [] ++ nodes_for w rest)) other))
      (cases_Bool (bytes_eq w word))

  pub after_step : (rest : List (List ℕ × List Docs)) → AllBehind word rest → AllByRecursion (λ g. NodesAfter (last_of 0 (nodes held g.0)) g.1) rest → AllByRecursion (λ g. NodesAfter (last_of 0 (nodes held' g.0)) g.1) rest
  after_step [] behind h = tt
  after_step (g ∷ gs) behind h =
      (subst (λ ns. NodesAfter (last_of 0 ns) g.1) (sym (others g.0 (apart_from word g.0 behind.0))) h.0, after_step gs behind.1 h.1)

any_more : (a b : Bool) → b ≡ true → (a || b) ≡ true
any_more true b e = refl
any_more false b e = e

-- a word of the rest of a batch is one of the batch
pub among_more : (rest behind batch : List (List ℕ × List Docs)) (g : List ℕ × List Docs) → rest ≡ g ∷ behind → ((w : List ℕ) → list_any (bytes_eq w) (keys_of rest) ≡ true → list_any (bytes_eq w) (keys_of batch) ≡ true)
    → (w : List ℕ) → list_any (bytes_eq w) (keys_of behind) ≡ true → list_any (bytes_eq w) (keys_of batch) ≡ true
among_more rest behind batch g parts among w e = among w (ap (λ (b : List (List ℕ × List Docs)). list_any (bytes_eq w) (keys_of b)) parts ∙ any_more (bytes_eq w g.0) (list_any (bytes_eq w) (keys_of behind)) e)

-- room was made for the first group of the rest
pub no_other : (held held' : Held) (rest behind batch : List (List ℕ × List Docs)) (g : List ℕ × List Docs) → rest ≡ g ∷ behind
    → ((w : List ℕ) → list_any (bytes_eq w) (keys_of rest) ≡ true → list_any (bytes_eq w) (keys_of batch) ≡ true)
    → ((w : List ℕ) → nodes held' w ≡ nodes held w) → ((w : List ℕ) → holds held' w ≡ true → (holds held w ≡ true) ⊎ (w ≡ g.0)) → HasNoOther held batch → HasNoOther held' batch
no_other held held' rest behind batch g parts among stay are has w k none =
    ⊎_elim
    (λ was. has w was (sym (stay w) ∙ none))
    (λ it. among w (ap (λ (b : List (List ℕ × List Docs)). list_any (bytes_eq w) (keys_of b)) parts
    ∙ ap (λ b. b || list_any (bytes_eq w) (keys_of behind)) (subst (λ z. bytes_eq w z ≡ true) it (is_same w))))
    (are w k)

-- what stands behind the first of a list
abbrev pub behind_of : {X : Type 0} → List X → List X
behind_of xs = take (length xs - 1) (drop 1 xs)

pub first_parts : {X : Type 0} (xs : List X) (x : X) → 1 ≤ length xs → x ≡ get_or xs 0 x → xs ≡ x ∷ behind_of xs
first_parts [] x some is = absurd (omega (arith, some))
first_parts {X} (y ∷ ys) x some is = ap (λ (z : X). z ∷ ys) (sym is) ∙ ap (λ (zs : List X). x ∷ zs) (sym (take_rest (y ∷ ys) 1))

and_assoc : (a b c : Bool) → ((a && b) && c) ≡ (a && (b && c))
and_assoc true b c = refl
and_assoc false b c = refl

-- one word more was tried
pub still_told : (first held : Held) (so_far next : Bool) (last : ℕ) (g : List ℕ × List Docs) (behind batch rest : List (List ℕ × List Docs)) → rest ≡ g ∷ behind
    → ((w : List ℕ) → nodes held w ≡ nodes first w) → next ≡ (so_far && begins_above last g.1) → last ≡ last_of 0 (nodes held g.0)
    → (so_far && begin_behind first rest) ≡ begin_behind first batch → (next && begin_behind first behind) ≡ begin_behind first batch
still_told first held so_far next last g behind batch rest parts same is_next is_last told =
    ap (λ (b : Bool). b && begin_behind first behind) (is_next ∙ ap (λ (n : ℕ). so_far && begins_above n g.1) (is_last ∙ ap (last_of 0) (same g.0)))
    ∙ and_assoc so_far (begins_above (last_of 0 (nodes first g.0)) g.1) (begin_behind first behind)
    ∙ sym (ap (λ (r : List (List ℕ × List Docs)). so_far && begin_behind first r) parts)
    ∙ told
