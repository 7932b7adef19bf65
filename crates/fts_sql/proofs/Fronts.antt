use Rattle.std.proofs.Common.{◌≡◌, ℕ, Bool, true, false, List, [], ◌∷◌, ◌++◌, refl, sym, ap, ◌∙◌}
use Rattle.std.specs.List.{list_all}
use Rattle.std.proofs.lemmas.Bool.{and_parts, both_ways}
use Rattle.fts_sql.specs.Token.{begins_with, IsFront}

-- two cuts of one list at the first byte that fails a test are the same
pub same_cut : (p : ℕ → Bool) (a b c d : List ℕ)
    → list_all p a ≡ true → begins_with p b ≡ false → list_all p c ≡ true → begins_with p d ≡ false
    → a ++ b ≡ c ++ d → (a ≡ c) × (b ≡ d)
same_cut p [] b [] d pa nb pc nd e = (refl, e)
same_cut p [] b (y ∷ c) d pa nb pc nd e =
    absurd (both_ways (p y) (sym (ap (begins_with p) e) ∙ nb) (and_parts (p y) (list_all p c) pc).0)
same_cut p (x ∷ a) b [] d pa nb pc nd e =
    absurd (both_ways (p x) (ap (begins_with p) e ∙ nd) (and_parts (p x) (list_all p a) pa).0)
same_cut p (x ∷ a) b (y ∷ c) d pa nb pc nd e =
    let head : x ≡ y = cc in
    let tail : a ++ b ≡ c ++ d = cc in
    let rest = same_cut p a b c d (and_parts (p x) (list_all p a) pa).1 nb (and_parts (p y) (list_all p c) pc).1 nd tail in
    (cc (head, rest.0), rest.1)

-- the widest front is one
pub one_front : (p : ℕ → Bool) (bytes a b c d : List ℕ)
    → IsFront p bytes a b → bytes ≡ c ++ d → list_all p c ≡ true → begins_with p d ≡ false → (a ≡ c) × (b ≡ d)
one_front p bytes a b c d front e pc nd = same_cut p a b c d front.passes front.ends pc nd (sym front.cut ∙ e)
