use Rattle.std.proofs.Common.{◌≡◌, ◌⊎◌, ℕ, ◌+◌, ◌≤◌, Bool, true, false, List, [], ◌∷◌, ◌++◌, length, take, refl, ap, subst, sym, ◌∙◌, append_assoc, inl, inr, arith}
use Rattle.std.proofs.lemmas.List.{append-nil, length_push}
use Rattle.std.specs.Prelude.{Ok, Err}
use Rattle.fts_types.specs.declared.settings.Settings.{Settings}
use Rattle.fts_io.specs.Text.{Line}
use Rattle.fts_schema.specs.declared.reply.Reply.{Reply}
use Rattle.fts_schema.specs.Reply.{text_of}
use Rattle.fts_steps.specs.Running.{Running}
use Rattle.fts_steps.specs.Step.{Call, Sight, AreMade, Runs}
use Rattle.fts_workers.specs.declared.health.Health.{Health}
use Rattle.fts_workers.specs.declared.health.Health.TheVariants.{Sound, Short, Failed}
use Rattle.fts_top.specs.declared.ends.Halt.{Halt}
use Rattle.fts_top.specs.declared.ends.Halt.TheVariants as halt
use Rattle.fts_workers.specs.Health.{health_of, health_of_steps, worse}
use Rattle.fts_top.specs.Health.{end_of, read_end}
use Rattle.fts_top.specs.Sessions.{Met, Speaks, Serves}
use Rattle.fts_workers.specs.Batches.{AreBatches}
use Rattle.fts_top.specs.Talk.{most_behind}
use Rattle.fts_top.specs.Run.{Sides, Stays, Front, IsWhole, IsCut, ReadsToEnd, Begun, Stops, IsDone, OneLine}
use Rattle.fts_top.specs.Run.{AreAllEnded, LeavesEnded, Outcome}
use Rattle.fts_steps.proofs.Making.{made_keeps, made_append}
use Rattle.fts_workers.proofs.Making.{no_run, run_more}
use Rattle.fts_top.proofs.Talking.{talks_more, texts_more}

-- of the lines that end with an LF, one more was executed
ended_more : (script : List ℕ) (line : Line) (ahead behind : List Line) (count more ended left : ℕ) → AreAllEnded script count ahead ended
    → ahead ≡ line ∷ behind → (ended ≡ left + 1) ⊎ (behind ≡ []) → more ≡ count + 1 → AreAllEnded script more behind left
ended_more script line ahead behind count more ended left all same (inr last) one = inl last
ended_more script line ahead behind count more ended left (inl none) same (inl less) one = let both = sym none ∙ same in absurd cc
ended_more script line ahead behind count more ended left (inr all) same (inl less) one = inr (omega (arith, all, less, one))

-- and none
ended_still : (script : List ℕ) (ahead : List Line) (count count' ended ended' : ℕ) → AreAllEnded script count ahead ended
    → count' ≡ count → ended ≡ ended' → AreAllEnded script count' ahead ended'
ended_still script ahead count count' ended ended' (inl none) same still = inl none
ended_still script ahead count count' ended ended' (inr all) same still = inr (omega (arith, all, same, still))

module _ {S : Type 0} (sight : Sight S) (start : Running) (script : List Line) where
  -- before the first line
  abbrev pub nothing_yet : (here : Sides S) → sight.stands start here.steps → Front sight start true script script here here
  nothing_yet here stands = record {
    lines = [];
    calls = [];
    replies = [];
    met = Sound;
    sessions = [];
    text = [];
    front = refl;
    written = sym (append-nil here.held);
    talks = (refl, refl, refl, refl);
    few = omega arith;
    runs = no_run sight start here.steps stands;
  }

  -- the same front, seen by equal lines, and by what holds as much
  abbrev pub again : (sent : Bool) (ahead ahead' : List Line) (before now now' : Sides S) → Front sight start sent script ahead before now
      → ahead ≡ ahead' → Stays now now' → Front sight start sent script ahead' before now'
  again sent ahead ahead' before now now' front same_ahead stays = record {
    lines = front.lines;
    calls = front.calls;
    replies = front.replies;
    met = front.met;
    sessions = front.sessions;
    text = front.text;
    front = front.front ∙ ap (λ (a : List Line). front.lines ++ a) same_ahead;
    written = stays.unwritten ∙ front.written;
    talks = front.talks;
    few = front.few;
    runs = subst (λ (s : S). Runs sight start front.calls before.steps s) (sym stays.unmade) front.runs;
  }

  -- one line more was executed, a part of its reply written, and these batches were made
  abbrev pub one_more : (sent : Bool) (line : Line) (ahead ahead' : List Line) (before middle now : Sides S) (reply : Reply) (part : List ℕ) (executed : S)
      (batches : List Call) (left : List Met) (front : Front sight start true script ahead before middle) → sight.settings middle.steps ≡ sight.settings before.steps → ahead ≡ line ∷ ahead'
      → length left ≤ 16 → Serves sight line front.sessions middle.steps reply left executed → AreBatches (sight.settings executed).cache_bytes (most_behind sent [] reply) batches
      → AreMade sight batches executed now.steps → now.held ≡ middle.held ++ part → Front sight start sent script ahead' before now
  one_more sent line ahead ahead' before middle now reply part executed batches left front kept same few executes are makes written =
      let says = subst (λ (s : Settings). Speaks s line front.sessions executes.calls reply left) kept executes.says in
      let are' = subst (λ (s : Settings). AreBatches s.cache_bytes (most_behind sent [] reply) batches)
      ((made_keeps sight executes.calls middle.steps executed executes.made).settings ∙ kept) are in
      record {
        lines = front.lines ++ line ∷ [];
        calls = front.calls ++ (executes.calls ++ batches);
        replies = front.replies ++ reply ∷ [];
        met = worse front.met (worse (health_of reply) (health_of_steps batches));
        sessions = left;
        text = front.text ++ part;
        front = front.front ∙ ap (λ (a : List Line). front.lines ++ a) same ∙ sym (append_assoc front.lines (line ∷ []) ahead');
        written = written ∙ ap (λ (t : List ℕ). t ++ part) front.written ∙ append_assoc before.held front.text part;
        talks = talks_more (sight.settings before.steps) sent [] front.lines front.calls front.replies front.met front.sessions line executes.calls batches reply left front.talks says are';
        few = few;
        runs = run_more sight start front.calls (executes.calls ++ batches) before.steps middle.steps now.steps front.runs
            (made_append sight executes.calls batches middle.steps executed now.steps executes.made makes);
      }

  -- a line whose reply was not sent whole: no batch follows
  abbrev pub unsent : (line : Line) (ahead ahead' : List Line) (before middle now : Sides S) (reply : Reply) (part : List ℕ) (left : List Met)
      (front : Front sight start true script ahead before middle) → sight.settings middle.steps ≡ sight.settings before.steps → ahead ≡ line ∷ ahead' → length left ≤ 16
      → Serves sight line front.sessions middle.steps reply left now.steps → now.held ≡ middle.held ++ part → Front sight start false script ahead' before now
  unsent line ahead ahead' before middle now reply part left front kept same few executes written =
      one_more false line ahead ahead' before middle now reply part now.steps [] left front kept same few executes refl refl written

  -- a line that was done
  abbrev pub one_done : (line : Line) (ahead ahead' : List Line) (met : Health) (left : List Met) (before middle now : Sides S)
      (front : Front sight start true script ahead before middle) → sight.settings middle.steps ≡ sight.settings before.steps → ahead ≡ line ∷ ahead' → length left ≤ 16
      → (done : IsDone sight line met front.sessions left middle now) → Front sight start true script ahead' before now
  one_done line ahead ahead' met left before middle now front kept same few done =
      one_more true line ahead ahead' before middle now done.reply (text_of done.reply) done.middle done.batches.calls left front kept same few done.serves done.batches.are
      done.batches.steps done.written

  -- a run so far: each reply was written whole, and the lines met this
  pub record SoFar (ahead : List Line) (ended : ℕ) (met : Health) (sessions : List Met) (count : ℕ) (before now : Sides S) : Type 0 where
    pub front : Front sight start true script ahead before now
    pub sessions_are : front.sessions ≡ sessions
    pub whole : IsWhole front.replies front.text
    pub met_is : front.met ≡ met
    pub counted : length front.lines ≡ count
    pub all : AreAllEnded before.left count ahead ended
    pub kept : sight.settings now.steps ≡ sight.settings before.steps

  -- one line more
  goes_from : (ahead behind : List Line) (ended ended' : ℕ) (met now_met next : Health) (sessions left : List Met) (count more : ℕ) (before middle now : Sides S)
      (far : SoFar ahead ended met sessions count before middle) → length left ≤ 16 → OneLine sight (Ok now_met) ahead behind ended' far.front.sessions left middle now
      → LeavesEnded (Ok now_met) behind ended ended' → next ≡ worse met now_met → more ≡ count + 1 → SoFar behind ended' next left more before now
  goes_from ahead behind ended ended' met now_met next sessions left count more before middle now far few turn leaves worst one = record {
    front = one_done turn.0 ahead behind now_met left before middle now far.front far.kept turn.1 few turn.2;
    sessions_are = refl;
    whole = ap (λ (t : List ℕ). t ++ text_of turn.2.reply) far.whole ∙ sym (texts_more far.front.replies turn.2.reply);
    met_is = ap (λ (h : Health). worse h (worse (health_of turn.2.reply) (health_of_steps turn.2.batches.calls))) far.met_is
        ∙ ap (λ (h : Health). worse met (worse (health_of turn.2.reply) h)) turn.2.batches.met_is ∙ ap (worse met) (sym turn.2.met_is) ∙ sym worst;
    counted = length_push far.front.lines turn.0 ∙ ap (λ (k : ℕ). k + 1) far.counted ∙ sym one;
    all = ended_more before.left turn.0 ahead behind count more ended ended' far.all turn.1 leaves one;
    kept = (made_keeps sight turn.2.batches.calls turn.2.middle now.steps turn.2.batches.steps).settings
        ∙ (made_keeps sight turn.2.serves.calls middle.steps turn.2.middle turn.2.serves.made).settings ∙ far.kept;
  }

  pub goes_on : (ahead behind : List Line) (ended ended' : ℕ) (met now_met next : Health) (sessions left : List Met) (count more : ℕ) (before middle now : Sides S)
      → SoFar ahead ended met sessions count before middle → length left ≤ 16 → OneLine sight (Ok now_met) ahead behind ended' sessions left middle now
      → LeavesEnded (Ok now_met) behind ended ended' → next ≡ worse met now_met → more ≡ count + 1 → SoFar behind ended' next left more before now
  goes_on ahead behind ended ended' met now_met next sessions left count more before middle now far few turn leaves worst one =
      goes_from ahead behind ended ended' met now_met next sessions left count more before middle now far few
      (subst (λ (s : List Met). OneLine sight (Ok now_met) ahead behind ended' s left middle now) (sym far.sessions_are) turn) leaves worst one

  -- the script was read to its end
  read : (met : Health) (before now : Sides S) → ReadsToEnd sight met start script before now → Outcome sight (read_end met) start script before now
  read Sound before now reads = reads
  read Short before now reads = reads
  read Failed before now reads = reads

  -- no line more was read
  abbrev stops_at : (ahead : List Line) (ended ended' : ℕ) (met : Health) (sessions : List Met) (count n : ℕ) (before middle now : Sides S)
      (far : SoFar ahead ended met sessions count before middle) → Begun n ahead ended' now.left → Stays middle now → ended ≡ ended' → Stops sight start script n before now
  stops_at ahead ended ended' met sessions count n before middle now far begun stays still = record {
    ahead = ahead;
    front = again true ahead ahead before middle now far.front refl stays;
    whole = far.whole;
    ended = ended';
    begun = begun;
    all = ended_still before.left ahead count (length far.front.lines) ended ended' far.all far.counted still;
  }

  -- a turn that ends the run
  ends_from : (why : Halt) (ahead behind : List Line) (ended ended' : ℕ) (met : Health) (sessions left : List Met) (count : ℕ) (before middle now : Sides S)
      (far : SoFar ahead ended met sessions count before middle)
      → length left ≤ 16 → OneLine sight (Err why) ahead behind ended' far.front.sessions left middle now → LeavesEnded (Err why) behind ended ended'
      → ((number bytes : ℕ) → why ≡ halt.TooLong number bytes → number ≡ count)
      → Outcome sight (end_of why met) start script before now
  ends_from halt.End ahead behind ended ended' met sessions left count before middle now far few turn leaves number = read met before now (record {
    front = again true ahead [] before middle now far.front turn.0 turn.2;
    whole = far.whole;
    met_is = far.met_is;
    empty = turn.1;
  })
  ends_from halt.ReadFault ahead behind ended ended' met sessions left count before middle now far few turn leaves number =
      stops_at ahead ended ended' met sessions count 0 before middle now far turn.0 turn.1 leaves
  ends_from (halt.TooLong lines bytes) ahead behind ended ended' met sessions left count before middle now far few turn leaves number =
      (stops_at ahead ended ended' met sessions count 1 before middle now far turn.0 turn.1 leaves, number lines bytes refl ∙ sym far.counted)
  ends_from (halt.TooManySessions session) ahead behind ended ended' met sessions left count before middle now far few turn leaves number = record {
    line = turn.0;
    ahead = behind;
    front = again true ahead (turn.0 ∷ behind) before middle now far.front turn.1 turn.6;
    whole = far.whole;
    of = turn.2;
    unmet = turn.3;
    many = turn.4;
    rest = turn.5;
  }
  ends_from halt.WriteFault ahead behind ended ended' met sessions left count before middle now far few turn leaves number = (
    turn.2.0,
    record {
      ahead = behind;
      front = unsent turn.0 ahead behind before middle now turn.2.1.reply (take turn.2.0 (text_of turn.2.1.reply)) left far.front far.kept turn.1 few turn.2.1.serves turn.2.1.written;
      cut = cut_of far.front.replies far.front.text turn.2.0 turn.2.1.reply far.whole;
      rest = turn.3;
    },
  )
    where
      cut_of : (replies : List Reply) (text : List ℕ) (n : ℕ) (reply : Reply) → IsWhole replies text → IsCut n (replies ++ reply ∷ []) (text ++ take n (text_of reply))
      cut_of replies text n reply whole = record { earlier = replies; last = reply; replies_are = refl; text_is = ap (λ (t : List ℕ). t ++ take n (text_of reply)) whole }
  ends_from halt.NoMemory ahead behind ended ended' met sessions left count before middle now far few (rest, inl turn) leaves number =
      record { ahead = behind; sent = true; front = again true ahead behind before middle now far.front turn.0 turn.2; written = far.whole; unread = λ is. inr turn.1; rest = rest }
  ends_from halt.NoMemory ahead behind ended ended' met sessions left count before middle now far few (rest, inr (line, one, starved)) leaves number =
      let replies = starved.0 in
      record {
        ahead = behind;
        sent = false;
        front = unsent line ahead behind before middle now replies.reply (take 0 (text_of replies.reply)) left far.front far.kept one few replies.serves replies.written;
        written = (
          record {
            earlier = far.front.replies;
            last = replies.reply;
            replies_are = refl;
            text_is = ap (λ (t : List ℕ). t ++ take 0 (text_of replies.reply)) far.whole;
          },
          starved.1,
        );
        unread = λ is. absurd cc;
        rest = rest;
      }

  pub ends : (why : Halt) (ahead behind : List Line) (ended ended' : ℕ) (met : Health) (sessions left : List Met) (count : ℕ) (before middle now : Sides S)
      → SoFar ahead ended met sessions count before middle
      → length left ≤ 16 → OneLine sight (Err why) ahead behind ended' sessions left middle now → LeavesEnded (Err why) behind ended ended'
      → ((number bytes : ℕ) → why ≡ halt.TooLong number bytes → number ≡ count)
      → Outcome sight (end_of why met) start script before now
  ends why ahead behind ended ended' met sessions left count before middle now far few turn leaves number =
      ends_from why ahead behind ended ended' met sessions left count before middle now far few
      (subst (λ (s : List Met). OneLine sight (Err why) ahead behind ended' s left middle now) (sym far.sessions_are) turn) leaves number
