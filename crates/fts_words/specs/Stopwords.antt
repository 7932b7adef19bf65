use Rattle.std.specs.Prelude.{ℕ, List, [], ◌∷◌, codes}

-- the default stopwords, in the order of the manual's list ("Full-Text Stopwords"), in which `the` stands twice
unfoldable pub default_stopwords : List (List ℕ)
default_stopwords =
    codes "a" ∷ codes "about" ∷ codes "an" ∷ codes "are" ∷ codes "as" ∷ codes "at" ∷ codes "be" ∷ codes "by" ∷
    codes "com" ∷ codes "de" ∷ codes "en" ∷ codes "for" ∷ codes "from" ∷ codes "how" ∷ codes "i" ∷ codes "in" ∷
    codes "is" ∷ codes "it" ∷ codes "la" ∷ codes "of" ∷ codes "on" ∷ codes "or" ∷ codes "that" ∷ codes "the" ∷
    codes "this" ∷ codes "to" ∷ codes "was" ∷ codes "what" ∷ codes "when" ∷ codes "where" ∷ codes "who" ∷
    codes "will" ∷ codes "with" ∷ codes "und" ∷ codes "the" ∷ codes "www" ∷ []
