-- Nodes that documents are packed into: they have these documents, and ascend where these do.
use Rattle.std.proofs.Common.{◌≡◌, ℕ, ◌≤◌, Bool, true, false, cond, filter, List, [], ◌∷◌, ◌++◌, if◌then◌else◌, refl, sym, subst, arith}
use Rattle.std.specs.List.{AllByRecursion}
use Rattle.fts_ilist.specs.Spelling.{Posting, id_at_end}
use Rattle.fts_ilist.specs.Node.{Docs, NodesAfter, BeginsAfter, last_of}
use Rattle.fts_ilist.specs.Packing.{has_place, packed_from, packed, joined}
use Rattle.fts_entries.specs.Exact.{IdsAfter}

-- ---- ids that ascend

ids_append : (last : ℕ) (ps rest : List Posting) → IdsAfter last ps → IdsAfter (id_at_end last ps) rest → IdsAfter last (ps ++ rest)
ids_append last [] rest ids more = more
ids_append last (p ∷ ps) rest ids more = (ids.0, ids_append p.id ps rest ids.1 more)

-- the documents of nodes ascend where the nodes do, and the documents of each
pub nodes_ids : (last : ℕ) (nodes : List Docs) → NodesAfter last nodes → AllByRecursion (λ docs. IdsAfter 0 docs) nodes → IdsAfter last (joined nodes)
nodes_ids last [] after each = tt
nodes_ids last ([] ∷ nodes) after each = absurd after.0
nodes_ids last ((p ∷ ps) ∷ nodes) after each =
    (after.0, ids_append p.id ps (joined nodes) each.0.1 (nodes_ids (id_at_end p.id ps) nodes after.1 each.1))

pub after_lower : (low last : ℕ) (ps : List Posting) → low ≤ last → IdsAfter last ps → IdsAfter low ps
after_lower low last [] less ids = tt
after_lower low last (p ∷ ps) less ids = (omega (arith, less, ids.0), ids.1)

pub after_left : (test : Posting → Bool) (last : ℕ) (ps : List Posting) → IdsAfter last ps → IdsAfter last (filter test ps)
after_left test last [] ids = tt
after_left test last (p ∷ ps) ids = by (test p) (after_left test p.id ps ids.1)
  where
    by : (b : Bool) → IdsAfter p.id (filter test ps) → IdsAfter last (cond b (p ∷ filter test ps) (filter test ps))
    by true rest = (ids.0, rest)
    by false rest = after_lower last p.id (filter test ps) (omega (arith, ids.0)) rest

id_pushed : (before : ℕ) (node : List Posting) (p : Posting) → id_at_end before (node ++ p ∷ []) ≡ p.id
id_pushed before [] p = refl
id_pushed before (d ∷ node) p = id_pushed d.id node p

begins_still : (last : ℕ) (node : List Posting) (p : Posting) → BeginsAfter last node → BeginsAfter last (node ++ p ∷ [])
begins_still last [] p begins = absurd begins
begins_still last (d ∷ node) p begins = begins

packed_on : (limit last : ℕ) (node ps : List Posting) → BeginsAfter last node → IdsAfter (id_at_end 0 node) ps → NodesAfter last (packed_from limit node ps)
packed_on limit last node [] begins ids = (begins, tt)
packed_on limit last node (p ∷ ps) begins ids =
    by (has_place limit node p)
    (packed_on limit last (node ++ p ∷ []) ps (begins_still last node p begins) (subst (λ id. IdsAfter id ps) (sym (id_pushed 0 node p)) ids.1))
    (packed_on limit (id_at_end 0 node) (p ∷ []) ps ids.0 ids.1)
  where
    by : (b : Bool) → NodesAfter last (packed_from limit (node ++ p ∷ []) ps) → NodesAfter (id_at_end 0 node) (packed_from limit (p ∷ []) ps)
        → NodesAfter last (if b then packed_from limit (node ++ p ∷ []) ps else node ∷ packed_from limit (p ∷ []) ps)
    by true more next = more
    by false more next = (begins, next)

-- the nodes of documents with ascending ids ascend
pub packed_ascend : (last : ℕ) (ps : List Posting) → IdsAfter last ps → NodesAfter last (packed ps)
packed_ascend last [] ids = tt
packed_ascend last (p ∷ ps) ids = packed_on 8192 last (p ∷ []) ps ids.0 ids.1

pub nodes_lower : (low last : ℕ) (nodes : List Docs) → low ≤ last → NodesAfter last nodes → NodesAfter low nodes
nodes_lower low last [] less after = tt
nodes_lower low last ([] ∷ nodes) less after = absurd after.0
nodes_lower low last ((p ∷ ps) ∷ nodes) less after = (omega (arith, less, after.0), after.1)

-- the last id of nodes is not above a bound of all their ids
pub last_within : (before bound : ℕ) (nodes : List Docs) → before ≤ bound → AllByRecursion (λ p. p.id ≤ bound) (joined nodes) → last_of before nodes ≤ bound
last_within before bound [] less low = less
last_within before bound (node ∷ nodes) less low =
    last_within (id_at_end 0 node) bound nodes (here 0 node (omega arith) (first node (joined nodes) low)) (behind node (joined nodes) low)
  where
    here : (start : ℕ) (docs : List Posting) → start ≤ bound → AllByRecursion (λ p. p.id ≤ bound) docs → id_at_end start docs ≤ bound
    here start [] le all = le
    here start (p ∷ docs) le all = here p.id docs all.0 all.1

    first : (docs rest : List Posting) → AllByRecursion (λ p. p.id ≤ bound) (docs ++ rest) → AllByRecursion (λ p. p.id ≤ bound) docs
    first [] rest all = tt
    first (p ∷ docs) rest all = (all.0, first docs rest all.1)

    behind : (docs rest : List Posting) → AllByRecursion (λ p. p.id ≤ bound) (docs ++ rest) → AllByRecursion (λ p. p.id ≤ bound) rest
    behind [] rest all = all
    behind (p ∷ docs) rest all = behind docs rest all.1

-- documents behind others whose ids are within a bound
pub after_join : (last bound : ℕ) (front rest : List Posting) → last ≤ bound → IdsAfter last front → AllByRecursion (λ p. p.id ≤ bound) front → IdsAfter bound rest → IdsAfter last (front ++ rest)
after_join last bound [] rest less ids low more = after_lower last bound rest less more
after_join last bound (p ∷ front) rest less ids low more = (ids.0, after_join p.id bound front rest low.0 ids.1 low.1 more)
