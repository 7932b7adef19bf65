-- What is known of the two logs when some commits and some entries were read.
use Rattle.std.proofs.Common.{◌≡◌, ◌≢◌, true, ℕ, ◌+◌, ◌<◌, ◌≤◌, List, [], ◌∷◌, ◌++◌, refl, ap, subst, sym, ◌∙◌, length, arith, map, take, drop, get_or, length-append}
use Rattle.std.proofs.lemmas.List.{take_all, take_at, take_more, length-map, map-append}
use Rattle.std.proofs.lemmas.List.Elements.{All-head, All-tail, All-push}
use Rattle.std.specs.Prelude.{All, Ok}
use Rattle.fts_words.specs.Indexed.{Rules}
use Rattle.fts_types.specs.declared.settings.Settings.{Settings}
use Rattle.fts_types.specs.Rules.{rules_of}
use Rattle.fts_types.specs.Limits.{standard_limits}
use Rattle.fts_commits.specs.Commit.{Commit, no_rows, after_commit, replay}
use Rattle.fts_commits.specs.Turn.{Turn, turns_from}
use Rattle.fts_rowcodec.specs.Payload.{commit_payload, IsWritten}
use Rattle.std.specs.List.{AllByRecursion}
use Rattle.fts_ilist.specs.Spelling.{Posting, PostingsAfter}
use Rattle.fts_ilist.specs.Node.{Docs}
use Rattle.fts_entries.specs.Exact.{IdsAfter}
use Rattle.fts_entries.proofs.Packing.{nodes_ids}
use Rattle.fts_index.specs.declared.passing.PassPlan.{PassPlan}
use Rattle.fts_index.specs.declared.passing.PassPlan.TheVariants.{Begin, Word, Finish}
use Rattle.fts_index.specs.Passing.{step_entry}
use Rattle.fts_index.specs.Restore.{AreRead}
use Rattle.fts_entries.specs.Pass.{IsStep}
use Rattle.fts_ixcodec.specs.Payload.{entry_payload, is_form, is_form_from, IsWord, IsNode, IsEntry}
use Rattle.fts_ixcodec.proofs.Entries.{payload_has_one_entry}
use Rattle.fts_entries.specs.Entry.{Batch, IndexEntry, IndexState, sealed, no_entries, after_entry, index_of}
use Rattle.fts_entries.specs.Coming.{CanSeal, CanCome, AreEntries}
use Rattle.fts_entries.proofs.Commits.{same_index}
use Rattle.fts_entries.proofs.Coming.{entries_more, entries_through, come_behind, come_last, index_behind, seal_less}
use Rattle.fts_steps.specs.State.{State, payloads, turns_of, index_state, with_commits, with_entries, IsSound, HasEntries}
use Rattle.fts_steps.specs.Fault.{AreOfIndex}
use Rattle.fts_steps.proofs.Growing.{turns_more, entries_stay, index_stays, none_stand}
use Rattle.fts_engine.specs.declared.restoring.Restoring.{Restoring}
use Rattle.fts_engine.specs.declared.kept.Kept.{Kept}
use Rattle.fts_engine.specs.Kept.{kept_settings, kept_rows, kept_limits, IsIndexed}
use Rattle.fts_engine.specs.Restoring.{restoring_settings, restoring_rows, restoring_commits, IsCovering}
use Rattle.fts_engine.specs.Reading.{IsWrongPayload}
use Rattle.fts_engine.specs.Loading.{BeginsWith, IsRestored, StillRestored, IsLoaded, NoneCanCome, AreSound}
use Rattle.fts_engine.proofs.Loading.{one_more, front_of, same_settings, loaded_all}
use Rattle.fts_steps.proofs.Growing.{turns_count}

-- a list whose payloads are some and one more is a list and one more
record IsPushed (rules : Rules) (whole : List IndexEntry) (front : List IndexEntry) (payload : List ℕ) : Type 0 where
  entry : IndexEntry
  is : whole ≡ front ++ entry ∷ []
  written : IsEntry rules entry
  spelled : entry_payload entry ≡ payload

pushed : (rules : Rules) (whole front : List IndexEntry) (payload : List ℕ) → All (IsEntry rules) whole → All (IsEntry rules) front → map entry_payload whole ≡ map entry_payload front ++ payload ∷ []
    → IsPushed rules whole front payload
pushed rules [] front payload is is' same = absurd (omega (arith, ap length same, length-append (map entry_payload front) (payload ∷ [])))
pushed rules (entry ∷ []) [] payload is is' same =
    record { entry = entry; is = refl; written = All-head (IsEntry rules) entry [] is; spelled = ap (λ (l : List (List ℕ)). get_or l 0 []) same }
pushed rules (entry ∷ (more ∷ whole)) [] payload is is' same = absurd (let e = same in cc)
pushed rules (entry ∷ whole) (other ∷ front) payload is is' same =
    let tail = pushed rules whole front payload (All-tail (IsEntry rules) entry whole is) (All-tail (IsEntry rules) other front is') (ap (drop 1) same) in
    let head : entry ≡ other = payload_has_one_entry rules entry other (All-head (IsEntry rules) entry whole is) (All-head (IsEntry rules) other front is') (ap (λ (l : List (List ℕ)). get_or l 0 []) same) in
    record {
      entry = tail.entry;
      is = ap (λ (e : IndexEntry). e ∷ whole) head ∙ ap (λ (l : List IndexEntry). other ∷ l) tail.is;
      written = tail.written;
      spelled = tail.spelled;
    }

-- nothing but the settings was read
pub first_restored : (all read : List (List ℕ)) (settings : Settings) (r : Restoring) → BeginsWith settings all
    → restoring_settings r ≡ settings → restoring_rows r ≡ no_rows → restoring_commits r ≡ 0 → IsCovering r [] no_entries → IsRestored all read 0 r
first_restored all read settings r begins same rows count covers = record {
  of_rows = record {
    state = record { settings = settings; commits = []; entries = [] };
    sound = record { settings = begins.right; written = λ k d less. absurd (omega (arith, less)); accepted = tt };
    same = sym same;
    loaded = begins.first ∙ ap (λ (n : ℕ). take (n + 1) all) (sym count);
    count = omega (arith, count);
    kept = rows;
  };
  entries = none_stand settings [];
  taken = refl;
  covers = covers;
}

module _ (all read : List (List ℕ)) (j : ℕ) (old new : Restoring) (was : IsRestored all read j old) where
  abbrev pub state : State
  state = was.of_rows.state

  -- one commit more was read
  pub covered_more : restoring_commits old + 1 < length all → (commit : Commit) → IsWritten (length (restoring_settings old).columns) commit
      → commit_payload commit ≡ get_or all (restoring_commits old + 1) [] → after_commit standard_limits commit (restoring_rows old) ≡ Ok (restoring_rows new)
      → restoring_settings new ≡ restoring_settings old → restoring_commits new ≡ restoring_commits old + 1
      → ((commits : List Commit) (s : IndexState) → IsCovering old commits s → IsCovering new (commits ++ commit ∷ []) s) → StillRestored all read j was new
  covered_more within commit written spelled ok settings count covers =
      let more = one_more all (restoring_commits old + 1) (restoring_settings old) (restoring_rows old) was.of_rows within commit (restoring_rows new) written spelled ok in
      let grown = index_stays state (commit ∷ []) was.entries in
      record {
        is = record {
          of_rows = record {
            state = with_commits state (commit ∷ []);
            sound = more.sound;
            same = more.same ∙ sym settings;
            loaded = more.loaded ∙ ap (λ (n : ℕ). take (n + 1) all) (sym count);
            count = more.count ∙ ap (λ (n : ℕ). n + 1) (sym count);
            kept = more.kept;
          };
          entries = entries_stay state (commit ∷ []) was.entries;
          taken = was.taken;
          covers = subst (λ (s : IndexState). IsCovering new (state.commits ++ commit ∷ []) s) (sym grown) (covers state.commits (index_state state) was.covers);
        };
        state = grown;
      }

  -- one entry more was installed
  pub installed_more : (entry : IndexEntry) → restoring_rows new ≡ restoring_rows old → restoring_settings new ≡ restoring_settings old
      → restoring_commits new ≡ restoring_commits old → IsEntry (rules_of (restoring_settings old)) entry → take (j + 1) read ≡ take j read ++ entry_payload entry ∷ []
      → CanCome (turns_of state) (index_state state) entry → IsCovering new state.commits (after_entry (turns_of state) (index_state state) entry)
      → IsRestored all read (j + 1) new
  installed_more entry rows settings count written taken come covers = record {
    of_rows = record {
      state = with_entries state (entry ∷ []);
      sound = record { settings = was.of_rows.sound.settings; written = was.of_rows.sound.written; accepted = was.of_rows.sound.accepted };
      same = was.of_rows.same ∙ sym settings;
      loaded = was.of_rows.loaded ∙ ap (λ (n : ℕ). take (n + 1) all) (sym count);
      count = was.of_rows.count ∙ ap (λ (n : ℕ). n + 1) (sym count);
      kept = rows ∙ was.of_rows.kept;
    };
    entries = record {
      written = All-push (IsEntry (rules_of state.settings)) state.entries entry was.entries.written (subst (λ (s : Settings). IsEntry (rules_of s) entry) (sym was.of_rows.same) written);
      come = come_behind (turns_of state) state.entries entry was.entries.come come;
    };
    taken = map-append entry_payload state.entries (entry ∷ []) ∙ ap (λ (front : List (List ℕ)). front ++ entry_payload entry ∷ []) was.taken ∙ sym taken;
    covers = subst (λ (s : IndexState). IsCovering new state.commits s) (sym (index_behind (turns_of state) state.entries entry)) covers;
  }

  -- it holds what it held
  pub restored_still : restoring_rows new ≡ restoring_rows old → restoring_settings new ≡ restoring_settings old → restoring_commits new ≡ restoring_commits old
      → ((commits : List Commit) (s : IndexState) → IsCovering old commits s → IsCovering new commits s) → IsRestored all read j new
  restored_still rows settings count covers = record {
    of_rows = record {
      state = state;
      sound = was.of_rows.sound;
      same = was.of_rows.same ∙ sym settings;
      loaded = was.of_rows.loaded ∙ ap (λ (n : ℕ). take (n + 1) all) (sym count);
      count = was.of_rows.count ∙ ap (λ (n : ℕ). n + 1) (sym count);
      kept = rows ∙ was.of_rows.kept;
    };
    entries = was.entries;
    taken = was.taken;
    covers = covers state.commits (index_state state) was.covers;
  }

module _ (all read : List (List ℕ)) (j : ℕ) (r : Restoring) (was : IsRestored all read j r) where
  -- the entries that were read are all of a log that has no more
  pub restored_front : IsRestored all (take j read) (length (take j read)) r
  restored_front = record {
    of_rows = was.of_rows;
    entries = was.entries;
    taken = was.taken ∙ sym (take_all (length (take j read)) (take j read) (omega arith));
    covers = was.covers;
  }

  -- and they are the first of a log that has one more
  pub restored_before : (payload : List ℕ) → IsRestored all (take j read ++ payload ∷ []) (length (take j read)) r
  restored_before payload = record {
    of_rows = was.of_rows;
    entries = was.entries;
    taken = was.taken ∙ sym (take_at (take j read) (payload ∷ []) (length (take j read)) refl);
    covers = was.covers;
  }

-- the last of a list that has one more
pub taken_last : {X : Type 0} (xs : List X) (x : X) → take (length xs + 1) (xs ++ x ∷ []) ≡ take (length xs) (xs ++ x ∷ []) ++ x ∷ []
taken_last xs x =
    take_all (length xs + 1) (xs ++ x ∷ []) (omega (arith, length-append xs (x ∷ [])))
    ∙ ap (λ front. front ++ x ∷ []) (sym (take_at xs (x ∷ []) (length xs) refl))

-- what was loaded are payloads of a sound database
pub sound_loaded : (all read : List (List ℕ)) (kept : Kept) → IsLoaded all (length all) read kept → AreSound all
sound_loaded all read kept loaded = record {
  state = loaded.of_rows.state;
  sound = loaded.of_rows.sound;
  same = loaded_all all (kept_settings kept) (kept_rows kept) loaded.of_rows;
}

-- a step that can come is the next one
pub next_comes : (turns : List Turn) (s : IndexState) (plan : PassPlan) → CanCome turns s (step_entry plan) → IsStep s (step_entry plan)
next_comes turns s Begin come = come
next_comes turns s (Word word nodes) come = come
next_comes turns s Finish come = come

-- restored and still so is still so
pub still_more : (all read : List (List ℕ)) (j : ℕ) (old mid new : Restoring) (was : IsRestored all read j old) (first : StillRestored all read j was mid)
    → StillRestored all read j first.is new → StillRestored all read j was new
still_more all read j old mid new was first then_ = record { is = then_.is; state = then_.state ∙ first.state }

pub still_itself : (all read : List (List ℕ)) (j : ℕ) (old : Restoring) (was : IsRestored all read j old) → StillRestored all read j was old
still_itself all read j old was = record { is = was; state = refl }

module _ (all read : List (List ℕ)) (j : ℕ) (r : Restoring) (l : IsRestored all read j r) where
  abbrev pub here : State
  here = l.of_rows.state

  abbrev pub turns_here : List Turn
  turns_here = turns_of here

  -- over the commits of a whole database those that were read are the first
  record IsFront (whole : State) : Type 0 where
    more : List Turn
    turns : turns_of whole ≡ turns_here ++ more
    left : index_of (turns_of whole) here.entries ≡ index_state here
    settings : here.settings ≡ whole.settings
    entries : HasEntries (record whole { entries = here.entries })

  front_turns : (whole : State) → IsSound whole → payloads whole ≡ all → IsFront whole
  front_turns whole sound is =
      let front = front_of all (restoring_commits r + 1) (restoring_settings r) (restoring_rows r) l.of_rows whole sound is in
      let more = turns_from (replay here.commits) front.0 in
      let settings : here.settings ≡ whole.settings = same_settings all (restoring_commits r + 1) (restoring_settings r) (restoring_rows r) l.of_rows whole sound is in
      let grown : turns_of whole ≡ turns_here ++ more = ap (turns_from no_rows) front.1 ∙ turns_more no_rows here.commits front.0 in
      record {
        more = more;
        turns = grown;
        left = ap (λ (turns : List Turn). index_of turns here.entries) grown ∙ same_index turns_here more here.entries (entries_through turns_here here.entries l.entries.come);
        settings = settings;
        entries = record {
          written = subst (λ (s : Settings). All (IsEntry (rules_of s)) here.entries) settings l.entries.written;
          come = subst (λ (turns : List Turn). AreEntries turns here.entries) (sym grown) (entries_more turns_here more here.entries l.entries.come);
        };
      }

  -- what was read of the index log is a database's, whatever comes
  pub before_is : (whole : State) → IsSound whole → payloads whole ≡ all → AreOfIndex whole (take j read)
  before_is whole sound is = record { index = here.entries; sound = (front_turns whole sound is).entries; same = l.taken }

  module _ (within : j < length read) where
    -- the next entry of such a database, if it has one there
    record ComesNext (whole : State) : Type 0 where
      entry : IndexEntry
      written : IsEntry (rules_of (restoring_settings r)) entry
      spelled : entry_payload entry ≡ get_or read j []
      come : CanCome (turns_of whole) (index_state here) entry

    comes_next : (whole : State) → IsSound whole → payloads whole ≡ all → AreOfIndex whole (take (j + 1) read) → ComesNext whole
    comes_next whole sound is of_index =
        let front = front_turns whole sound is in
        let parted : map entry_payload of_index.index ≡ map entry_payload here.entries ++ get_or read j [] ∷ [] =
        of_index.same ∙ take_more read j [] within ∙ ap (λ (front : List (List ℕ)). front ++ get_or read j [] ∷ []) (sym l.taken) in
        let last = pushed (rules_of whole.settings) of_index.index here.entries (get_or read j []) of_index.sound.written front.entries.written parted in
        let come = (come_last (turns_of whole) here.entries last.entry (subst (AreEntries (turns_of whole)) last.is of_index.sound.come)).1 in
        record {
          entry = last.entry;
          written = subst (λ (s : Settings). IsEntry (rules_of s) last.entry) (sym front.settings ∙ l.of_rows.same) last.written;
          spelled = last.spelled;
          come = subst (λ (s : IndexState). CanCome (turns_of whole) s last.entry) front.left come;
        }

    -- a payload that is no entry's that can come
    pub wrong_payload : ((entry : IndexEntry) → IsEntry (rules_of (restoring_settings r)) entry → get_or read j [] ≡ entry_payload entry → NoneCanCome all (index_state here) entry)
        → IsWrongPayload all read j
    wrong_payload none = record {
      before = before_is;
      wrong = λ whole sound is of_index.
          let next = comes_next whole sound is of_index in
          none next.entry next.written (sym next.spelled) whole sound is next.come;
    }

    -- an entry that can't come
    pub wrong_entry : (entry : IndexEntry) → IsEntry (rules_of (restoring_settings r)) entry → get_or read j [] ≡ entry_payload entry
        → NoneCanCome all (index_state here) entry → IsWrongPayload all read j
    wrong_entry entry written spelled none =
        wrong_payload (λ other is said. subst (NoneCanCome all (index_state here)) (sym (payload_has_one_entry (rules_of (restoring_settings r)) other entry is written (sym said ∙ spelled))) none)

  -- a batch that flushes no commit more, or more than there are
  pub none_later : (through synced : ℕ) (batch : Batch) → through ≤ (index_state here).flushed → NoneCanCome all (index_state here) (sealed through synced batch)
  none_later through synced batch most whole sound is can = let later = can.later in omega (arith, later, most)

  pub none_made : (through synced : ℕ) (batch : Batch) → length all ≤ through → NoneCanCome all (index_state here) (sealed through synced batch)
  none_made through synced batch many whole sound is can =
      let made = can.made in
      omega (arith, made, many, turns_count no_rows whole.commits, ap length is, length-map whole.commits commit_payload)

  -- one that can't come over the commits that were read, of which it covers no more
  pub none_here : (through synced : ℕ) (batch : Batch) → through ≤ length here.commits → (CanSeal turns_here (index_state here) through synced batch → ⊥)
      → NoneCanCome all (index_state here) (sealed through synced batch)
  none_here through synced batch most none whole sound is can =
      let front = front_turns whole sound is in
      none (seal_less turns_here front.more (index_state here) through synced batch (omega (arith, most, turns_count no_rows here.commits))
      (subst (λ (turns : List Turn). CanSeal turns (index_state here) through synced batch) front.turns can))

-- all entries were read
pub to_kept : (all read : List (List ℕ)) (r : Restoring) (l : IsRestored all read (length read) r) (kept : Kept) → kept_rows kept ≡ restoring_rows r → kept_settings kept ≡ restoring_settings r
    → kept_limits kept ≡ standard_limits → ((commits : List Commit) (s : IndexState) → IsCovering r commits s → IsIndexed kept commits s)
    → IsLoaded all (restoring_commits r + 1) read kept
to_kept all read r l kept rows settings limits indexed = record {
  of_rows = record {
    state = l.of_rows.state;
    sound = l.of_rows.sound;
    same = l.of_rows.same ∙ sym settings;
    loaded = l.of_rows.loaded;
    count = l.of_rows.count;
    kept = rows ∙ l.of_rows.kept;
  };
  limits = limits;
  entries = l.entries;
  taken = l.taken ∙ take_all (length read) read (omega arith);
  index = indexed l.of_rows.state.commits (index_state l.of_rows.state) l.covers;
}

-- one commit more is loaded, with its words
pub loaded_more : (all read : List (List ℕ)) (k : ℕ) (kept new : Kept) (l : IsLoaded all k read kept) → k < length all → (commit : Commit)
    → IsWritten (length (kept_settings kept).columns) commit → commit_payload commit ≡ get_or all k [] → after_commit (kept_limits kept) commit (kept_rows kept) ≡ Ok (kept_rows new)
    → kept_settings new ≡ kept_settings kept → kept_limits new ≡ kept_limits kept
    → ((commits : List Commit) (s : IndexState) → IsIndexed kept commits s → IsIndexed new (commits ++ commit ∷ []) s) → IsLoaded all (k + 1) read new
loaded_more all read k kept new l within commit written spelled ok settings limits indexed =
    let state = l.of_rows.state in
    let more = one_more all k (kept_settings kept) (kept_rows kept) l.of_rows within commit (kept_rows new) written spelled
    (ap (λ limits. after_commit limits commit (kept_rows kept)) (sym l.limits) ∙ ok) in
    record {
      of_rows = record {
        state = with_commits state (commit ∷ []);
        sound = more.sound;
        same = more.same ∙ sym settings;
        loaded = more.loaded;
        count = more.count;
        kept = more.kept;
      };
      limits = limits ∙ l.limits;
      entries = entries_stay state (commit ∷ []) l.entries;
      taken = l.taken;
      index = subst (λ (s : IndexState). IsIndexed new (state.commits ++ commit ∷ []) s) (sym (index_stays state (commit ∷ []) l.entries))
          (indexed state.commits (index_state state) l.index);
    }

-- all commits were read
pub all_sound : (all read : List (List ℕ)) (j : ℕ) (r : Restoring) (l : IsRestored all read j r) → restoring_commits r + 1 ≡ length all → AreSound all
all_sound all read j r l whole = record {
  state = l.of_rows.state;
  sound = l.of_rows.sound;
  same = l.of_rows.loaded ∙ ap (λ (n : ℕ). take n all) whole ∙ take_all (length all) all (omega arith);
}

-- what of a batch's words is known once they are read
pub words_read : (rules : Rules) (through synced : ℕ) (batch : Batch) → IsEntry rules (sealed through synced batch) → AreRead batch
unfolding is_form_from
words_read rules through synced batch written =
    let groups = written.3 in
    record {
      ascend = groups.ascend;
      filled = λ k d less. word_filled _ (groups.each k d less).word;
      nodes = λ k d less. (groups.each k d less).nodes.ascend;
      ids = λ k d less. nodes_ids 0 _ (groups.each k d less).nodes.ascend (each_ids _ (groups.each k d less).nodes.each);
    }
  where
    word_filled : (word : List ℕ) → IsWord rules word → word ≢ []
    word_filled word is none = absurd (let form : is_form [] ≡ true = subst (λ (w : List ℕ). is_form w ≡ true) none is.form in cc)

    postings_ids : (low : ℕ) (docs : List Posting) → PostingsAfter low docs → IdsAfter low docs
    postings_ids low [] after = tt
    postings_ids low (p ∷ ps) after = (after.0, postings_ids p.id ps after.3)

    each_ids : (nodes : List Docs) → All IsNode nodes → AllByRecursion (λ docs. IdsAfter 0 docs) nodes
    each_ids [] each = tt
    each_ids (docs ∷ nodes) each = (postings_ids 0 docs (All-head IsNode docs nodes each).are, each_ids nodes (All-tail IsNode docs nodes each))
