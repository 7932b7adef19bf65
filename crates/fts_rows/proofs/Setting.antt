-- The texts that an UPDATE sets, column by column.
use Rattle.std.proofs.Common.{◌≡◌, ℕ, ◌+◌, ◌<◌, ◌≤◌, List, [], ◌∷◌, ◌++◌, Option, Some, None, is_some, false, true≢false, drop, take, get_or, length, refl, sym, ap, ◌∙◌, append_assoc, append-nil}
use Rattle.std.proofs.lemmas.List.{drop_more, drop_all, take_more, take_all}
use Rattle.std.specs.Prelude.{MatchOption}
use Rattle.std.specs.Borrow.{Bor}
use Rattle.fts_commits.specs.Commit.{updated}

abbrev News : Type 0
News = List (Option (List ℕ))

-- the texts from a column on
pub kept_one : (news : News) (texts : List (List ℕ)) (place : ℕ) → place < length news → place < length texts → get_or news place None ≡ None
    → updated (drop place news) (drop place texts) ≡ get_or texts place [] ∷ updated (drop (place + 1) news) (drop (place + 1) texts)
kept_one news texts place less under none =
    ap (λ (l : News). updated l (drop place texts)) (drop_more news place None less ∙ ap (λ (new : Option (List ℕ)). new ∷ drop (place + 1) news) none)
    ∙ ap (updated (None ∷ drop (place + 1) news)) (drop_more texts place [] under)

pub new_one : (news : News) (texts : List (List ℕ)) (place : ℕ) (text : List ℕ) → place < length news → place < length texts → get_or news place None ≡ Some text
    → updated (drop place news) (drop place texts) ≡ text ∷ updated (drop (place + 1) news) (drop (place + 1) texts)
new_one news texts place text less under some =
    ap (λ (l : News). updated l (drop place texts)) (drop_more news place None less ∙ ap (λ (new : Option (List ℕ)). new ∷ drop (place + 1) news) some)
    ∙ ap (updated (Some text ∷ drop (place + 1) news)) (drop_more texts place [] under)

none_left : (news : News) → updated news [] ≡ []
none_left [] = refl
none_left (new ∷ news) = refl

-- no column is left
pub no_more_news : (news : News) (texts : List (List ℕ)) (place : ℕ) → length news ≤ place → updated (drop place news) (drop place texts) ≡ []
no_more_news news texts place end = ap (λ (l : News). updated l (drop place texts)) (drop_all place news end)

pub no_more_texts : (news : News) (texts : List (List ℕ)) (place : ℕ) → length texts ≤ place → updated (drop place news) (drop place texts) ≡ []
no_more_texts news texts place end = ap (updated (drop place news)) (drop_all place texts end) ∙ none_left (drop place news)

-- a column that is not set
pub not_set : (news : News) (place : ℕ) (found : Option (Bor (List ℕ))) → MatchOption found (get_or news place None ≡ None) (λ text. get_or news place None ≡ Some text.now) → is_some found ≡ false → get_or news place None ≡ None
not_set news place None is out = is
not_set news place (Some text) is out = absurd (true≢false out)

-- the texts that stay so far, and what is made of the others
pub kept_more : (news : News) (texts : List (List ℕ)) (place : ℕ) → place < length news → place < length texts → get_or news place None ≡ None
    → take place texts ++ updated (drop place news) (drop place texts) ≡ updated news texts → take (place + 1) texts ++ updated (drop (place + 1) news) (drop (place + 1) texts) ≡ updated news texts
kept_more news texts place less under none so =
    let rest = updated (drop (place + 1) news) (drop (place + 1) texts) in
    ap (λ (l : List (List ℕ)). l ++ rest) (take_more texts place [] under)
    ∙ append_assoc (take place texts) (get_or texts place [] ∷ []) rest
    ∙ ap (λ (l : List (List ℕ)). take place texts ++ l) (sym (kept_one news texts place less under none))
    ∙ so

pub kept_end : (news : News) (texts : List (List ℕ)) (place : ℕ) → length texts ≤ place → take place texts ++ updated (drop place news) (drop place texts) ≡ updated news texts → updated news texts ≡ texts
kept_end news texts place end so =
    sym so ∙ ap (λ (l : List (List ℕ)). take place texts ++ l) (no_more_texts news texts place end) ∙ append-nil (take place texts) ∙ take_all place texts end
