-- What a crash within a step leaves of a log.
use Rattle.std.proofs.Common.{◌≡◌, ℕ, List, [], ◌∷◌, ◌++◌, length, take, refl, ap, subst, sym, ◌∙◌, inl, inr, ⊎_elim, arith}
use Rattle.std.proofs.lemmas.List.{append-nil, append_cancel_left}
use Rattle.std.specs.Prelude.{◌⊎◌}
use Rattle.fts_commits.specs.Commit.{Commit}
use Rattle.fts_disk.specs.Device.{Files}
use Rattle.fts_disk.specs.Crash.{Images}
use Rattle.fts_disk.specs.declared.disk.Disk.{Ghosts}
use Rattle.fts_entries.specs.Entry.{IndexEntry}
use Rattle.fts_steps.specs.State.{State, with_commits, with_entries, IsRows, IsIndex}
use Rattle.fts_steps.specs.Running.{Running}
use Rattle.fts_steps.specs.Crash.{MayHold, MayHoldIndex, IsBetween, IsIndexBetween}
use Rattle.fts_steps.specs.Step.{Below, Leaves}

-- ---- lists

-- one at most
abbrev pub IsOne : {A : Type 0} → List A → Type 0
IsOne {A} more = (more ≡ []) ⊎ ((x : A) × (more ≡ x ∷ []))

nothing : {A : Type 0} (front rest : List A) → [] ≡ front ++ rest → front ≡ []
nothing [] rest is = refl
nothing (y ∷ front) rest is = absurd (omega (arith, ap length is))

front_is : {A : Type 0} (front rest : List A) (x : A) → x ∷ [] ≡ front ++ rest → (front ≡ []) ⊎ (front ≡ x ∷ [])
front_is [] rest x is = inl refl
front_is (y ∷ []) rest x is = inr (ap (take 1) (sym is))
front_is (y ∷ z ∷ front) rest x is = absurd (omega (arith, ap length is))

-- a front of one at most is none of it, or all
pub front_of : {A : Type 0} (front rest more : List A) → IsOne more → more ≡ front ++ rest → (front ≡ []) ⊎ (front ≡ more)
front_of front rest more (inl none) is = inl (nothing front rest (sym none ∙ is))
front_of front rest more (inr (x, one)) is = ⊎_elim inl (λ same. inr (same ∙ sym one)) (front_is front rest x (sym one ∙ is))

-- ---- with nothing more

pub none_more : (state : State) (file : List ℕ) → IsRows (with_commits state []) file → IsRows state file
none_more state file rows =
    subst (λ (commits : List Commit). IsRows (record { settings = state.settings; commits = commits; entries = state.entries }) file) (append-nil state.commits) rows

pub no_entry_more : (state : State) (files : Files) → IsIndex (with_entries state []) files → IsIndex state files
no_entry_more state files index =
    subst (λ (entries : List IndexEntry). IsIndex (record { settings = state.settings; commits = state.commits; entries = entries }) files) (append-nil state.entries) index

-- where nothing is in doubt, a log is that of the state, whatever is in doubt later
pub sure_holds : (state : State) (doubt more : List Commit) (c : Files) → doubt ≡ [] → MayHold state doubt c → MayHold state more c
sure_holds state doubt more c sure (inl rows) = inl rows
sure_holds state doubt more c sure (inr rows) = inl (none_more state (c 0) (subst (λ (d : List Commit). IsRows (with_commits state d) (c 0)) sure rows))

pub sure_index : (state : State) (loose more : List IndexEntry) (c : Files) → loose ≡ [] → MayHoldIndex state loose c → MayHoldIndex state more c
sure_index state loose more c sure (inl index) = inl index
sure_index state loose more c sure (inr index) =
    inl (no_entry_more state c (subst (λ (l : List IndexEntry). IsIndex (with_entries state l) c) sure index))

-- ---- within a step

-- what is between before a commit and behind it is without it or with it
pub within_commit : (running now : Running) (commit : Commit) (c : Files) → now.state.commits ++ now.doubt ≡ running.state.commits ++ commit ∷ [] → IsBetween running now c
    → MayHold running.state (commit ∷ []) c
within_commit running now commit c added between =
    ⊎_elim
    (λ none. inl (none_more running.state (c 0) (subst (λ (front : List Commit). IsRows (with_commits running.state front) (c 0)) none between.rows)))
    (λ whole. inr (subst (λ (front : List Commit). IsRows (with_commits running.state front) (c 0)) whole between.rows))
    (front_of between.front between.rest (commit ∷ []) (inr (commit, refl))
    (append_cancel_left running.state.commits (commit ∷ []) (between.front ++ between.rest) (sym added ∙ between.added)))

-- and so of an entry of the index log
pub within_entry : (running now : Running) (more : List IndexEntry) (c : Files) → IsOne more
    → ((entries : List IndexEntry) (files : Files) → IsIndex (record now.state { entries = entries }) files → IsIndex (record running.state { entries = entries }) files)
    → now.state.entries ++ now.loose ≡ running.state.entries ++ more → IsIndexBetween running now c → MayHoldIndex running.state more c
within_entry running now more c one same added between =
    ⊎_elim
    (λ none. inl (no_entry_more running.state c (subst (λ (front : List IndexEntry). IsIndex (with_entries running.state front) c) none is)))
    (λ whole. inr (subst (λ (front : List IndexEntry). IsIndex (with_entries running.state front) c) whole is))
    (front_of between.front between.rest more one
    (append_cancel_left running.state.entries more (between.front ++ between.rest) (sym added ∙ between.added)))
  where
    is : IsIndex (with_entries running.state between.front) c
    is = same (running.state.entries ++ between.front) c between.index

-- a crash at a moment since a step began leaves what the step may leave, or what stood before it
pub since_began : {S : Type 0} (below : Below S) (P Q : Images) (old new : S)
    → ((d : below.Device) (c : Files) → below.disk.left_since d (below.disk.moment d) c → below.disk.images d c) → Leaves below P old new → ((c : Files) → P c → Q c)
    → ((c : Files) → below.disk.images (below.device old) c → Q c) → (c : Files)
    → below.disk.left_since (below.device new) (below.disk.moment (below.device old)) c → Q c
since_began below P Q old new only (inl same) within before c left =
    before c (only (below.device old) c (subst (λ (d : below.Device). below.disk.left_since d (below.disk.moment (below.device old)) c) same left))
since_began below P Q old new only (inr run) within before c left = within c (run.each c left)

-- a crash since now leaves what a crash now may leave
pub since_now : {D : Type 0} (disk : Ghosts D) (Q : Images) (old new : D) → ((d : D) (c : Files) → disk.left_since d (disk.moment d) c → disk.images d c) → new ≡ old
    → ((c : Files) → disk.images old c → Q c) → (c : Files) → disk.left_since new (disk.moment old) c → Q c
since_now {D} disk Q old new only same before c left = before c (only old c (subst (λ (d : D). disk.left_since d (disk.moment old) c) same left))
