-- How many documents a node has, and the last id of nodes.
use Rattle.std.proofs.Common.{◌≡◌, ◌≢◌, ℕ, List, [], ◌∷◌, ◌++◌, length, refl, ap, ◌∙◌}
use Rattle.fts_ilist.specs.Spelling.{Posting, last_id, id_at_end}
use Rattle.fts_ilist.specs.Node.{Docs, last_of}

pub none_counted : (ps : List Posting) (count : ℕ) → count ≡ 0 → count ≡ length ps → ps ≡ []
none_counted [] count zero e = refl
none_counted (p ∷ ps) count zero e = absurd cc

pub some_counted : (ps : List Posting) (count : ℕ) → (count ≡ 0 → ⊥) → count ≡ length ps → ps ≢ []
some_counted ps count zero e none = zero (e ∙ ap length none)

-- the last id of nodes and one behind them is that one's
pub last_of-push : (before : ℕ) (ns : List Docs) (docs : Docs) → last_of before (ns ++ docs ∷ []) ≡ last_id docs
last_of-push before [] docs = refl
last_of-push before (n ∷ ns) docs = last_of-push (id_at_end 0 n) ns docs
