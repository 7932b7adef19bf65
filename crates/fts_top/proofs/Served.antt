-- What was served, put together.
use Rattle.std.proofs.Common.{◌≡◌, ◌⊎◌, ◌≤◌, ◌^◌, ℕ, Bool, true, false, List, [], ◌∷◌, length, refl, ap, sym, subst, ◌∙◌, inl, inr, ⊎_elim, arith, IsTrue, Ok}
use Rattle.fts_disk.specs.declared.disk.Disk.{Ghosts}
use Rattle.fts_io.specs.Text.{Line, lines_of}
use Rattle.fts_types.specs.declared.limits.Limits.{Limits}
use Rattle.fts_types.specs.declared.settings.Settings.{Settings}
use Rattle.fts_schema.specs.declared.reply.Reply.{Reply}
use Rattle.fts_script.specs.Group.{Share, share_of}
use Rattle.fts_script.specs.Sessions.{HasFewSessions}
use Rattle.fts_script.proofs.Counting.{few_not_crowded}
use Rattle.fts_steps.specs.FaultCounts.{FaultCounts, OneRose, NoneFell, CountsFaultOf}
use Rattle.fts_steps.specs.Step.{Call}
use Rattle.fts_steps.proofs.FaultCounts.{none_fell_both}
use Rattle.fts_engine.specs.declared.engine.Engine.{Engine}
use Rattle.fts_engine.specs.Devices.{Disks}
use Rattle.fts_engine.specs.Stands.{engine_faults}
use Rattle.fts_args.specs.Asked.{Asks}
use Rattle.fts_args.specs.declared.command.Command.TheVariants.{Create, Run, Serve, Gen}
use Rattle.fts_args.proofs.One.{asks_one}
use Rattle.fts_workers.specs.declared.health.Health.{Health}
use Rattle.fts_workers.specs.declared.health.Health.TheVariants.{Sound, Short, Failed}
use Rattle.fts_workers.specs.Health.{worse, health_of_all}
use Rattle.fts_shared.specs.declared.served.Served.{Served}
use Rattle.fts_shared.specs.declared.work.Work.{Work}
use Rattle.fts_shared.specs.Served.{AreServed, AreSessions}
use Rattle.fts_shared.specs.Work.{shares_in}
use Rattle.fts_top.specs.declared.ends.RunEnd.{RunEnd}
use Rattle.fts_top.specs.declared.ends.RunEnd.TheVariants as run_end
use Rattle.fts_top.specs.Answers.{told, SendsAll}
use Rattle.fts_top.specs.Ends.{status_of_run}
use Rattle.fts_top.specs.Health.{IsRead}
use Rattle.fts_top.specs.Once.{Outside, SourceSeen, SinkSeen, Finishes, CanFinish}
use Rattle.fts_top.specs.Serve.{IsUnread, Writes, Answers, WasServed, Serves, calm_end, end_of}
use Rattle.fts_top.proofs.Opening.{run_finishes}

-- ---- counts of faults

-- a fault is told exactly where a count rose
pub counted_end : (failed : Bool) (end : RunEnd) (old new before after : FaultCounts) → before ≡ old → after ≡ new → NoneFell old new → (failed ≡ true → OneRose before after)
    → (NoneFell before after → (failed ≡ true → ⊥) → after ≡ before) → (failed ≡ true → end ≡ run_end.DiskFault) → (end ≡ run_end.DiskFault → failed ≡ true)
    → CountsFaultOf (end ≡ run_end.DiskFault) old new
counted_end failed end old new before after is is' fell rose calm fails told =
    subst (λ (b : FaultCounts). CountsFaultOf (end ≡ run_end.DiskFault) b new) is
    (subst (λ (a : FaultCounts). CountsFaultOf (end ≡ run_end.DiskFault) before a) is' record {
      rose = λ disk. rose (told disk);
      calm = λ no. calm fell_here (λ yes. no (fails yes));
      never_fall = fell_here;
    })
  where
    fell_here : NoneFell before after
    fell_here = subst (λ (b : FaultCounts). NoneFell b after) (sym is) (subst (NoneFell old) (sym is') fell)

-- ---- ends

-- a script that was not read was not read to its end
pub unread_not : (end : RunEnd) (source source' : SourceSeen) → IsUnread end source source' → IsRead end → ⊥
unread_not run_end.Done source source' unread is = unread
unread_not run_end.ShortOfMemory source source' unread is = unread
unread_not run_end.DiskFault source source' unread is = unread
unread_not run_end.WriteFault source source' unread is = unread
unread_not run_end.NoMemory source source' unread is = is
unread_not run_end.ReadFault source source' unread is = is
unread_not (run_end.ScriptTooLong lines bytes) source source' unread is = is
unread_not (run_end.TooManySessions number) source source' unread is = is

-- and nothing of it was written
pub unread_unwritten : (end : RunEnd) (source source' : SourceSeen) → IsUnread end source source' → end ≡ run_end.WriteFault → ⊥
unread_unwritten run_end.Done source source' unread is = unread
unread_unwritten run_end.ShortOfMemory source source' unread is = unread
unread_unwritten run_end.DiskFault source source' unread is = unread
unread_unwritten run_end.WriteFault source source' unread is = unread
unread_unwritten run_end.NoMemory source source' unread is = cc
unread_unwritten run_end.ReadFault source source' unread is = cc
unread_unwritten (run_end.ScriptTooLong lines bytes) source source' unread is = cc
unread_unwritten (run_end.TooManySessions number) source source' unread is = cc

-- all replies were written, and the end is by what was met
pub writes_all : (failed : Bool) (met here : Health) (replies : List Reply) (sink sink' : SinkSeen) → here ≡ worse met (health_of_all replies)
    → (IsTrue sink.tells → SendsAll (Ok tt) replies sink.held sink'.held) → Writes (end_of failed here) met replies sink sink'
writes_all true met here replies sink sink' is sends = ((true, refl), sends)
writes_all false met Sound replies sink sink' is sends = ((false, ap calm_end is), sends)
writes_all false met Short replies sink sink' is sends = ((false, ap calm_end is), sends)
writes_all false met Failed replies sink sink' is sends = ((false, ap calm_end is), sends)

pub fails_so : (failed : Bool) (met : Health) → (failed ≡ true → end_of failed met ≡ run_end.DiskFault) × (end_of failed met ≡ run_end.DiskFault → failed ≡ true)
fails_so true met = ((λ is. refl), (λ is. refl))
fails_so false Sound = ((λ is. absurd cc), (λ is. absurd cc))
fails_so false Short = ((λ is. absurd cc), (λ is. absurd cc))
fails_so false Failed = ((λ is. absurd cc), (λ is. absurd cc))

pub was_read : (failed : Bool) (met : Health) → IsRead (end_of failed met)
was_read true met = tt
was_read false Sound = tt
was_read false Short = tt
was_read false Failed = tt

pub read_not : (end : RunEnd) → IsRead end → end ≡ run_end.ReadFault → ⊥
read_not end read is = let no : IsRead run_end.ReadFault = subst IsRead is read in no

pub read_wrote : (end : RunEnd) → IsRead end → end ≡ run_end.WriteFault → ⊥
read_wrote end read is = let no : IsRead run_end.WriteFault = subst IsRead is read in no

-- ---- what was served

module _ {D E : Type 0} {rows : Ghosts D} {index : Ghosts E} where
  pub served_fell : (lines : List Line) (first : Engine D E rows index) (works : List Work) (served : Served D E rows index) → AreServed lines first works served
      → NoneFell (engine_faults first) (engine_faults served.engine)
  served_fell lines first works served are =
      let ends = are.ends in
      none_fell_both (engine_faults first) (engine_faults ends.middle) (engine_faults served.engine)
      (none_fell_both (engine_faults first) (engine_faults are.closed) (engine_faults ends.middle) are.none_fell ends.syncs.faults.never_fall)
      ends.optimizes.faults.never_fall

-- the shares stay
pub same_shares : (lines : List Line) (settings : Settings) (works works' : List Work) (all : List (List Call)) → AreSessions lines settings works works' all
    → shares_in works' ≡ shares_in works
same_shares lines settings [] [] [] are = refl
same_shares lines settings [] [] (calls ∷ all) are = absurd are
same_shares lines settings [] (work' ∷ works') all are = absurd are
same_shares lines settings (work ∷ works) [] all are = absurd are
same_shares lines settings (work ∷ works) (work' ∷ works') [] are = absurd are
same_shares lines settings (work ∷ works) (work' ∷ works') (calls ∷ all) are =
    let here : share_of work'.group ≡ share_of work.group = ap share_of are.0.same in
    ap (λ (one : Share). one ∷ shares_in works') here ∙ ap (λ (shares : List Share). share_of work.group ∷ shares) (same_shares lines settings works works' all are.1)

-- ---- how a script ends that was served

written_end : (end : RunEnd) (met : Health) (replies : List Reply) (sink sink' : SinkSeen) → Writes end met replies sink sink'
    → IsRead end ⊎ ((end ≡ run_end.NoMemory) ⊎ (end ≡ run_end.WriteFault))
written_end run_end.Done met replies sink sink' writes = inl tt
written_end run_end.ShortOfMemory met replies sink sink' writes = inl tt
written_end run_end.DiskFault met replies sink sink' writes = inl tt
written_end run_end.NoMemory met replies sink sink' writes = inr (inl refl)
written_end run_end.WriteFault met replies sink sink' writes = inr (inr refl)
written_end run_end.ReadFault met replies sink sink' ((failed, is), sends) = inl (subst IsRead (sym is) (was_read failed (worse met (health_of_all replies))))
written_end (run_end.ScriptTooLong lines bytes) met replies sink sink' ((failed, is), sends) = inl (subst IsRead (sym is) (was_read failed (worse met (health_of_all replies))))
written_end (run_end.TooManySessions number) met replies sink sink' ((failed, is), sends) = inl (subst IsRead (sym is) (was_read failed (worse met (health_of_all replies))))

answered_end : (end : RunEnd) (lines : List Line) (works : List Work) (met : Health) (sink sink' : SinkSeen) → Answers end lines works met sink sink'
    → IsRead end ⊎ ((end ≡ run_end.NoMemory) ⊎ (end ≡ run_end.WriteFault))
answered_end end lines works met sink sink' (inl (none, same)) = inr (inl none)
answered_end end lines works met sink sink' (inr (all, merged, writes)) = written_end end met (told all) sink sink' writes

module _ {D E : Type 0} (rows : Ghosts D) (index : Ghosts E) (limits : Limits) (end : RunEnd) (before after : Outside D E) (serves : Serves rows index limits end before after) where
  -- a script within its limits is served to its end, unless a fault ends it
  pub serve_finishes : IsTrue before.source.tells → length before.source.left ≤ 2 ^ 40 → length (lines_of before.source.left) ≤ 100000 → HasFewSessions (lines_of before.source.left)
      → (end ≡ run_end.ReadFault → ⊥) → (end ≡ run_end.WriteFault → ⊥) → (end ≡ run_end.DiskFault → ⊥) → Finishes (status_of_run end)
  serve_finishes tells short few sessions read write disk = run_finishes end read write disk
      (λ lines bytes is. ⊎_elim (λ not. long lines bytes (subst (λ (e : RunEnd). IsUnread e before.source after.source) is not.why)) (λ was. long_not lines bytes is was) serves.ends)
      (λ number is. ⊎_elim (λ not. many number (subst (λ (e : RunEnd). IsUnread e before.source after.source) is not.why)) (λ was. many_not number is was) serves.ends)
    where
      long : (lines bytes : ℕ) → IsUnread (run_end.ScriptTooLong lines bytes) before.source after.source → ⊥
      long lines bytes why =
          let it = why tells in
          let taken = it.taken in
          ⊎_elim (λ passes. let passed = passes.passed in omega (arith, passed, taken, short)) (λ passes. let passed = passes.passed in let are = passes.are in omega (arith, passed, are, few)) it.why

      many : (number : ℕ) → IsUnread (run_end.TooManySessions number) before.source after.source → ⊥
      many number why = few_not_crowded (lines_of before.source.left) number (why tells) sessions

      ends_so : (was : WasServed rows index end serves.first before after) → IsRead end ⊎ ((end ≡ run_end.NoMemory) ⊎ (end ≡ run_end.WriteFault))
      ends_so was = answered_end end was.lines was.served.works.items was.served.met before.sink after.sink was.answers

      long_not : (lines bytes : ℕ) → end ≡ run_end.ScriptTooLong lines bytes → WasServed rows index end serves.first before after → ⊥
      long_not lines bytes is was =
          ⊎_elim (λ is_read. subst IsRead is is_read) (⊎_elim (λ none. let no : run_end.ScriptTooLong lines bytes ≡ run_end.NoMemory = sym is ∙ none in cc) (λ wrote. write wrote)) (ends_so was)

      many_not : (number : ℕ) → end ≡ run_end.TooManySessions number → WasServed rows index end serves.first before after → ⊥
      many_not number is was =
          ⊎_elim (λ is_read. subst IsRead is is_read) (⊎_elim (λ none. let no : run_end.TooManySessions number ≡ run_end.NoMemory = sym is ∙ none in cc) (λ wrote. write wrote)) (ends_so was)

-- words that ask for `serve` ask for no other command
pub serve_alone : {D E : Type 0} (disks : Disks D E) (words : List (List ℕ)) (before : Outside D E) → Asks words Serve → CanFinish disks words before → ⊥
serve_alone disks words before asked can =
    ⊎_elim (λ create. let same : Create create.0 ≡ Serve = asks_one words (Create create.0) Serve create.1 asked in cc)
    (⊎_elim (λ run. let same : Run ≡ Serve = asks_one words Run Serve run.0 asked in cc)
    (λ made. let same : Gen made.0.0 made.0.1 ≡ Serve = asks_one words (Gen made.0.0 made.0.1) Serve made.0.2 asked in cc)) can
