-- What is known of a log when its first entries were loaded.
use Rattle.std.proofs.Common.{◌≡◌, ◌⊎◌, ℕ, ◌+◌, ◌<◌, ◌≤◌, List, [], ◌∷◌, ◌++◌, refl, ap, subst, sym, ◌∙◌, length, arith, map, take, drop, get_or, add-one, inl, inr, length-append}
use Rattle.std.proofs.lemmas.List.{take_all, take_more, take-take, length-take, length-take-le, get_or-take, length-map}
use Rattle.std.proofs.lemmas.List.Elements.{All-head, All-tail}
use Rattle.std.specs.Prelude.{Result, Ok, Err, IsOk, All, fold}
use Rattle.fts_types.specs.declared.settings.Settings.{Settings}
use Rattle.fts_types.specs.Settings.{AreSettings}
use Rattle.fts_types.specs.Limits.{standard_limits}
use Rattle.fts_commits.specs.Commit.{Commit, Rows, no_rows, after_commit, rows_after, replay, AreAccepted}
use Rattle.fts_rowcodec.specs.Payload.{commit_payload, settings_payload, IsWritten}
use Rattle.fts_rowcodec.specs.declared.error.DecodeError.{DecodeError}
use Rattle.fts_rowcodec.specs.declared.error.DecodeError.TheVariants as decode
use Rattle.fts_rowcodec.proofs.Unique.{payload_has_one_commit, payload_has_one_settings}
use Rattle.fts_commits.specs.declared.refusal.Refusal.{Refusal}
use Rattle.fts_rows.specs.declared.error.PlanError.{PlanError}
use Rattle.fts_rows.specs.declared.error.PlanError.TheVariants.{NoMemory, Refused}
use Rattle.fts_rows.specs.Refusal.{IsNoPlan}
use Rattle.fts_steps.specs.State.{State, payloads, with_commits, IsSound}
use Rattle.fts_engine.specs.Fitting.{IsTableRow}
use Rattle.fts_engine.specs.Loading.{BeginsWith, AreLoaded, AreNoRows, IsNoCommit, IsWrongEntry}
use Rattle.fts_log.specs.Record.{gate_at}
use Rattle.fts_rowcodec.proofs.Bounds.{few_columns}
use Rattle.fts_rowcodec.proofs.Sizes.{settings_size}
use Rattle.fts_engine.proofs.Accepting.{replay_accepted}
use Rattle.fts_engine.proofs.Fitting.{accepted_size, replay_fits}
use Rattle.fts_engine.proofs.Committing.{payloads-push, sound-push}

-- a list of commits goes on behind another with one commit more
record GoesOn (columns : ℕ) (front whole : List Commit) : Type 0 where
  commit : Commit
  rest : List Commit
  is : whole ≡ front ++ commit ∷ rest
  here : get_or (map commit_payload whole) (length front) [] ≡ commit_payload commit
  written : IsWritten columns commit

-- commits whose payloads are the first of others are the first of these
goes_on : (columns : ℕ) (front whole : List Commit) → All (IsWritten columns) front → All (IsWritten columns) whole
    → map commit_payload front ≡ take (length front) (map commit_payload whole) → length front < length whole → GoesOn columns front whole
goes_on columns [] [] written written' same less = absurd (omega arith)
goes_on columns [] (commit ∷ whole) written written' same less =
    record { commit = commit; rest = whole; is = refl; here = refl; written = All-head (IsWritten columns) commit whole written' }
goes_on columns (first ∷ front) [] written written' same less = absurd (omega arith)
goes_on columns (first ∷ front) (other ∷ whole) written written' same less =
    let tail = goes_on columns front whole (All-tail (IsWritten columns) first front written) (All-tail (IsWritten columns) other whole written') (ap (drop 1) same) (omega arith) in
    let head : first ≡ other = payload_has_one_commit columns first other (All-head (IsWritten columns) first front written) (All-head (IsWritten columns) other whole written')
    (ap (λ (l : List (List ℕ)). get_or l 0 []) same) in
    record {
      commit = tail.commit;
      rest = tail.rest;
      is = ap (λ (c : Commit). c ∷ whole) (sym head) ∙ ap (λ (l : List Commit). first ∷ l) tail.is;
      here = tail.here;
      written = tail.written;
    }

-- an accepted list's commit is accepted by the rows before it
accepted_at : (rows : Rows) (front : List Commit) (commit : Commit) (rest : List Commit) → AreAccepted rows (front ++ commit ∷ rest)
    → IsOk (after_commit standard_limits commit (fold rows_after rows front))
accepted_at rows [] commit rest accepted = accepted.0
accepted_at rows (first ∷ front) commit rest accepted = accepted_at (rows_after rows first) front commit rest accepted.1

-- what was refused was not accepted
refused_not : (answer : Result Rows Refusal) (error : PlanError) → (error ≡ NoMemory → ⊥) → IsNoPlan answer error → IsOk answer → ⊥
refused_not answer NoMemory other why ok = other refl
refused_not answer (Refused refusal) other why ok = (let no = (rw why at ok) in cc)

-- commits whose payloads are the first of others are the first of these
fronts_are : (columns : ℕ) (front whole : List Commit) → All (IsWritten columns) front → All (IsWritten columns) whole
    → map commit_payload front ≡ take (length front) (map commit_payload whole) → (rest : List Commit) × (whole ≡ front ++ rest)
fronts_are columns [] whole written written' same = (whole, refl)
fronts_are columns (first ∷ front) [] written written' same = absurd (let no = same in cc)
fronts_are columns (first ∷ front) (other ∷ whole) written written' same =
    let tail = fronts_are columns front whole (All-tail (IsWritten columns) first front written) (All-tail (IsWritten columns) other whole written') (ap (drop 1) same) in
    let head : first ≡ other = payload_has_one_commit columns first other (All-head (IsWritten columns) first front written) (All-head (IsWritten columns) other whole written')
    (ap (λ (l : List (List ℕ)). get_or l 0 []) same) in
    (tail.0, ap (λ (c : Commit). c ∷ whole) (sym head) ∙ ap (λ (l : List Commit). first ∷ l) tail.1)

module _ (all : List (List ℕ)) (k : ℕ) (settings : Settings) (rows : Rows) (l : AreLoaded all k settings rows) where
  -- the payloads that were loaded are the first of a sound database with all of them
  split_of : (whole : State) → payloads whole ≡ all → payloads l.state ≡ settings_payload whole.settings ∷ take (length l.state.commits) (map commit_payload whole.commits)
  split_of whole is =
      let split : payloads l.state ≡ take (length l.state.commits + 1) (payloads whole) =
      l.loaded ∙ ap (λ (n : ℕ). take n all) (sym l.count) ∙ ap (take (length l.state.commits + 1)) (sym is) in
      rw add-one at split

  -- its settings are those that were loaded
  pub same_settings : (whole : State) → IsSound whole → payloads whole ≡ all → l.state.settings ≡ whole.settings
  same_settings whole sound is =
      payload_has_one_settings l.state.settings whole.settings l.sound.settings sound.settings (ap (λ (entries : List (List ℕ)). get_or entries 0 []) (split_of whole is))

  front_written : All (IsWritten (length settings.columns)) l.state.commits
  front_written = subst (λ (s : Settings). All (IsWritten (length s.columns)) l.state.commits) l.same l.sound.written

  whole_written : (whole : State) → IsSound whole → payloads whole ≡ all → All (IsWritten (length settings.columns)) whole.commits
  whole_written whole sound is = subst (λ (s : Settings). All (IsWritten (length s.columns)) whole.commits) (sym (same_settings whole sound is) ∙ l.same) sound.written

  -- and its commits are the first of it
  pub front_of : (whole : State) → IsSound whole → payloads whole ≡ all → (rest : List Commit) × (whole.commits ≡ l.state.commits ++ rest)
  front_of whole sound is =
      fronts_are (length settings.columns) l.state.commits whole.commits front_written (whole_written whole sound is) (ap (drop 1) (split_of whole is))

  -- no more were loaded than there are
  pub within_all : k ≤ length all
  within_all =
      let loaded = l.loaded in
      let count = l.count in
      omega (arith, ap length loaded, count, length-map l.state.commits commit_payload, length-take k all)

  module _ (within : k < length all) where
    -- such a state goes on behind what was loaded
    whole_goes_on : (whole : State) → IsSound whole → payloads whole ≡ all → GoesOn (length settings.columns) l.state.commits whole.commits
    whole_goes_on whole sound is =
        let long : length (payloads whole) ≡ length all = ap length is in
        goes_on (length settings.columns) l.state.commits whole.commits front_written (whole_written whole sound is) (ap (drop 1) (split_of whole is))
        (let count = l.count in omega (arith, long, within, length-map whole.commits commit_payload))

    -- its next payload is that commit's
    entry_is : (whole : State) (sound : IsSound whole) (is : payloads whole ≡ all) → get_or all k [] ≡ commit_payload (whole_goes_on whole sound is).commit
    entry_is whole sound is =
        let at : get_or all k [] ≡ get_or (payloads whole) (length l.state.commits + 1) [] =
        ap (λ (n : ℕ). get_or all n []) (sym l.count) ∙ ap (λ (entries : List (List ℕ)). get_or entries (length l.state.commits + 1) []) (sym is) in
        let at' : get_or all k [] ≡ get_or (map commit_payload whole.commits) (length l.state.commits) [] = rw add-one at at in
        at' ∙ (whole_goes_on whole sound is).here

    -- a payload that is no commit's: no sound state has it
    no_commit : IsNoCommit (length settings.columns) (get_or all k []) → AreNoRows all
    no_commit (inl long) whole sound whole_is =
        let next = whole_goes_on whole sound whole_is in
        let accepted : AreAccepted no_rows (l.state.commits ++ next.commit ∷ next.rest) = subst (λ (commits : List Commit). AreAccepted no_rows commits) next.is sound.accepted in
        let few : length settings.columns ≤ 8 = subst (λ (s : Settings). length s.columns ≤ 8) l.same (few_columns l.state.settings l.sound.settings) in
        let fit = subst (λ (s : Settings). All (IsTableRow (length s.columns)) (replay l.state.commits).list) l.same
        (replay_fits (length l.state.settings.columns) l.state.commits l.sound.written l.sound.accepted) in
        let most = accepted_size (length settings.columns) standard_limits next.commit (replay l.state.commits) _ few
        (record { rows = omega arith; ids = omega arith; log_bytes = omega arith }) fit next.written refl
        (accepted_at no_rows l.state.commits next.commit next.rest accepted) in
        omega (arith, long, most, ap length (entry_is whole sound whole_is))
    no_commit (inr none) whole sound whole_is =
        let next = whole_goes_on whole sound whole_is in
        none next.commit next.written (entry_is whole sound whole_is)

    -- a commit that the rows refuse: no sound state has it
    no_accepted : (commit : Commit) (error : PlanError) → IsWritten (length settings.columns) commit → commit_payload commit ≡ get_or all k []
        → (error ≡ NoMemory → ⊥) → IsNoPlan (after_commit standard_limits commit rows) error → AreNoRows all
    no_accepted commit error written spelled other refused whole sound whole_is =
        let next = whole_goes_on whole sound whole_is in
        let same : next.commit ≡ commit = payload_has_one_commit (length settings.columns) next.commit commit next.written written (sym (entry_is whole sound whole_is) ∙ sym spelled) in
        let accepted : AreAccepted no_rows (l.state.commits ++ next.commit ∷ next.rest) = subst (λ (commits : List Commit). AreAccepted no_rows commits) next.is sound.accepted in
        let ok : IsOk (after_commit standard_limits commit (replay l.state.commits)) =
        subst (λ (c : Commit). IsOk (after_commit standard_limits c (replay l.state.commits))) same (accepted_at no_rows l.state.commits next.commit next.rest accepted) in
        refused_not (after_commit standard_limits commit (replay l.state.commits)) error other
        (subst (λ (rows : Rows). IsNoPlan (after_commit standard_limits commit rows) error) l.kept refused) ok

    -- one commit more is loaded
    abbrev pub one_more : (commit : Commit) (rows' : Rows) → IsWritten (length settings.columns) commit → commit_payload commit ≡ get_or all k []
        → after_commit standard_limits commit rows ≡ Ok rows' → AreLoaded all (k + 1) settings rows'
    one_more commit rows' written spelled ok =
        let accepted : after_commit standard_limits commit (replay l.state.commits) ≡ Ok rows' = ap (λ (rows : Rows). after_commit standard_limits commit rows) (sym l.kept) ∙ ok in
        let written' : IsWritten (length l.state.settings.columns) commit = subst (λ (s : Settings). IsWritten (length s.columns) commit) (sym l.same) written in
        record {
          state = with_commits l.state (commit ∷ []);
          sound = sound-push l.state commit rows' l.sound written' accepted;
          same = l.same;
          loaded = payloads-push l.state commit ∙ ap (λ (front : List (List ℕ)). front ++ commit_payload commit ∷ []) l.loaded
              ∙ ap (λ (payload' : List ℕ). take k all ++ payload' ∷ []) spelled ∙ sym (take_more all k [] within);
          count = let count = l.count in omega (arith, count, length-append l.state.commits (commit ∷ []));
          kept = sym (replay_accepted l.state.commits commit rows' accepted);
        }

-- what was loaded stands at the front of fewer payloads too
cut : (all : List (List ℕ)) (k : ℕ) (settings : Settings) (rows : Rows) → AreLoaded all k settings rows → AreLoaded (take (k + 1) all) k settings rows
cut all k settings rows l = record {
  state = l.state;
  sound = l.sound;
  same = l.same;
  loaded = l.loaded ∙ sym (take-take k (k + 1) all (omega arith));
  count = l.count;
  kept = l.kept;
}

module _ (magic : List ℕ) (all : List (List ℕ)) (k at : ℕ) (settings : Settings) (rows : Rows) (l : AreLoaded all k settings rows) (within : k < length all) (place : at ≡ gate_at magic all k) where
  within_cut : k < length (take (k + 1) all)
  within_cut = omega (arith, within, length-take-le (k + 1) all (omega (arith, within)))

  same_cut : get_or (take (k + 1) all) k [] ≡ get_or all k []
  same_cut = get_or-take (k + 1) all k [] (omega arith)

  -- a payload that is no commit's is the first at fault
  pub wrong_commit : IsNoCommit (length settings.columns) (get_or all k []) → IsWrongEntry magic all at
  wrong_commit none = record {
    k = k;
    within = within;
    place = place;
    before = inr (l.state, l.sound, l.loaded);
    wrong = no_commit (take (k + 1) all) k settings rows (cut all k settings rows l) within_cut (subst (IsNoCommit (length settings.columns)) (sym same_cut) none);
    none = no_commit all k settings rows l within none;
  }

  -- and so is a commit that the rows refuse
  pub wrong_accepted : (commit : Commit) (error : PlanError) → IsWritten (length settings.columns) commit → commit_payload commit ≡ get_or all k []
      → (error ≡ NoMemory → ⊥) → IsNoPlan (after_commit standard_limits commit rows) error → IsWrongEntry magic all at
  wrong_accepted commit error written spelled other refused = record {
    k = k;
    within = within;
    place = place;
    before = inr (l.state, l.sound, l.loaded);
    wrong = no_accepted (take (k + 1) all) k settings rows (cut all k settings rows l) within_cut commit error written (spelled ∙ sym same_cut) other refused;
    none = no_accepted all k settings rows l within commit error written spelled other refused;
  }

-- a first entry that is no settings: no sound state has it
no_settings : (all : List (List ℕ)) (payload : List ℕ) (result : Result Settings DecodeError) → payload ≡ get_or all 0 []
    → ((settings : Settings) → AreSettings settings → payload ≡ settings_payload settings → (result ≡ Ok settings) ⊎ (result ≡ Err decode.NoMemory))
    → (wrong : ℕ) → result ≡ Err (decode.Bad wrong) → AreNoRows all
no_settings all payload result is exact wrong bad state sound same =
    elim (exact state.settings sound.settings (is ∙ ap (λ (entries : List (List ℕ)). get_or entries 0 []) (sym same))) [
      | inl e ↦ (let f = bad in cc)
      | inr e ↦ (let f = bad in cc)
    ]

pub wrong_settings : (magic : List ℕ) (all : List (List ℕ)) (at : ℕ) (payload : List ℕ) (result : Result Settings DecodeError) → 0 < length all → at ≡ gate_at magic all 0
    → payload ≡ get_or all 0 []
    → ((settings : Settings) → AreSettings settings → payload ≡ settings_payload settings → (result ≡ Ok settings) ⊎ (result ≡ Err decode.NoMemory))
    → (field : ℕ) → result ≡ Err (decode.Bad field) → IsWrongEntry magic all at
wrong_settings magic all at payload result some place is exact field bad = record {
  k = 0;
  within = some;
  place = place;
  before = inl refl;
  wrong = no_settings (take 1 all) payload result (is ∙ sym (get_or-take 1 all 0 [] (omega arith))) exact field bad;
  none = no_settings all payload result is exact field bad;
}

-- and so is one that is longer than any settings
no_long_settings : (all : List (List ℕ)) → 300 < length (get_or all 0 []) → AreNoRows all
no_long_settings all long state sound same =
    omega (arith, long, settings_size state.settings sound.settings, ap (λ (entries : List (List ℕ)). length (get_or entries 0 [])) same)

pub wrong_long_settings : (magic : List ℕ) (all : List (List ℕ)) (at : ℕ) → 0 < length all → at ≡ gate_at magic all 0 → 300 < length (get_or all 0 [])
    → IsWrongEntry magic all at
wrong_long_settings magic all at some place long = record {
  k = 0;
  within = some;
  place = place;
  before = inl refl;
  wrong = no_long_settings (take 1 all) (subst (λ (entry : List ℕ). 300 < length entry) (sym (get_or-take 1 all 0 [] (omega arith))) long);
  none = no_long_settings all long;
}

-- the settings are loaded
pub settings_begin : (all : List (List ℕ)) (payload : List ℕ) (settings : Settings) → 0 < length all → payload ≡ get_or all 0 []
    → AreSettings settings → payload ≡ settings_payload settings → BeginsWith settings all
settings_begin [] payload settings some is right spelled = absurd (omega arith)
settings_begin (first ∷ all) payload settings some is right spelled =
    record { right = right; first = ap (λ (p : List ℕ). p ∷ []) (sym spelled ∙ is) }

-- all is loaded
pub loaded_all : (all : List (List ℕ)) (settings : Settings) (rows : Rows) (l : AreLoaded all (length all) settings rows) → payloads l.state ≡ all
loaded_all all settings rows l = l.loaded ∙ take_all (length all) all (omega arith)
