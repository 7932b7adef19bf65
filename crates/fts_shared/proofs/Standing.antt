-- Where steps stand in the history that tells them.
use Rattle.std.proofs.Common.{◌≡◌, ◌≤◌, ◌<◌, ℕ, zero, suc, ◌+◌, max, List, [], ◌∷◌, ◌++◌, length, ap, ◌∙◌, subst, sym, refl, arith, Some, length-append}
use Rattle.std.proofs.lemmas.List.{append_assoc, length_push}
use Rattle.std.proofs.Math.Nat.{max-le}
use Rattle.fts_types.specs.Rules.{rules_of}
use Rattle.fts_types.specs.declared.limits.Limits.{Limits}
use Rattle.fts_types.specs.declared.settings.Settings.{Settings}
use Rattle.fts_commits.specs.Commit.{Commit, replay}
use Rattle.fts_commits.specs.declared.refusal.Refusal.{Refusal}
use Rattle.fts_io.specs.Text.{Line}
use Rattle.fts_meaning.specs.Scan.{scan}
use Rattle.fts_meaning.specs.Tree.{Terms}
use Rattle.fts_schema.specs.declared.reply.Reply.{Reply}
use Rattle.fts_sessions.specs.Seen.{number_told, Rise}
use Rattle.fts_sessions.specs.Transaction.{Transaction}
use Rattle.fts_sessions.proofs.Rising.{count_of, never_falls, commit_counts, line_rises}
use Rattle.fts_steps.specs.State.{State, IsRight}
use Rattle.fts_steps.specs.Running.{Running, Entry, made, with_what, grown}
use Rattle.fts_steps.specs.Step.{Ask, Answer, Call, Follows, MayAnswer, to_commit, to_find, committed, refused, full, found, plain_answer, changes_of, entries_of, after_call, after_all}
use Rattle.fts_steps.proofs.Adding.{grown_all}
use Rattle.fts_turn.specs.Histories.{Begins}
use Rattle.fts_turn.specs.Promises.{Numbered}
use Rattle.fts_turn.proofs.Seats.{Numbered-at}
use Rattle.fts_shared.specs.Laws.{IsNumber, IsStep, before_step, HasItsPlace}
use Rattle.fts_shared.specs.Served.{by_whom, AreStepsOf, TellsAll}
use Rattle.fts_shared.specs.Talk.{Talks, history_of}
use Rattle.fts_shared.proofs.Histories.{grown_more, same_growth}

-- ---- lists

abbrev head_or : {A : Type 0} → A → List A → A
head_or d [] = d
head_or d (x ∷ xs) = x

abbrev tail_of : {A : Type 0} → List A → List A
tail_of [] = []
tail_of (x ∷ xs) = xs

pub same_first : {A : Type 0} (x y : A) (xs ys : List A) → (x ∷ xs) ≡ (y ∷ ys) → x ≡ y
same_first x y xs ys is = ap (head_or x) is

pub same_rest : {A : Type 0} (x y : A) (xs ys : List A) → (x ∷ xs) ≡ (y ∷ ys) → xs ≡ ys
same_rest x y xs ys is = ap tail_of is

none_there : {A : Type 0} (x : A) (xs : List A) → [] ≡ (x ∷ xs) → ⊥
none_there x xs is = let n = ap length is in omega (arith, n)

no_middle : {A : Type 0} (xs ys : List A) (x : A) → [] ≡ (xs ++ (x ∷ ys)) → ⊥
no_middle xs ys x is = let n = ap length is in let all = length-append xs (x ∷ ys) in omega (arith, n, all)

-- one place, one item
pub one_item : {A : Type 0} (all : List A) (number : ℕ) (x y : A) → IsNumber all number x → IsNumber all number y → x ≡ y
one_item {A} all number x y a b =
    go a.before b.before (sym a.whole ∙ b.whole) (sym a.number_is ∙ b.number_is)
  where
    go : (xs ys : List A) → (xs ++ (x ∷ a.behind)) ≡ (ys ++ (y ∷ b.behind)) → length xs ≡ length ys → x ≡ y
    go [] [] is same = same_first x y a.behind b.behind is
    go [] (v ∷ ys) is same = absurd (omega (arith, same))
    go (u ∷ xs) [] is same = absurd (omega (arith, same))
    go (u ∷ xs) (v ∷ ys) is same = go xs ys (same_rest u v (xs ++ (x ∷ a.behind)) (ys ++ (y ∷ b.behind)) is) (omega (arith, same))

-- each number below a list's length is that of an item
pub some_item : {A : Type 0} (all : List A) (number : ℕ) → number < length all → (item : A) × IsNumber all number item
some_item [] number less = absurd (omega (arith, less))
some_item (x ∷ all) zero less = (x, record { before = []; behind = all; whole = refl; number_is = refl })
some_item {A} (x ∷ all) (suc number) less =
    let more = some_item all number (omega (arith, less)) in
    (more.0, record { before = x ∷ more.1.before; behind = more.1.behind; whole = ap (λ (xs : List A). x ∷ xs) more.1.whole; number_is = ap suc more.1.number_is })

-- ---- what steps tell of the history

pub history_more : (n : ℕ) (calls more : List Call) → history_of n (calls ++ more) ≡ history_of n calls ++ history_of n more
history_more n [] more = refl
history_more n (call ∷ calls) more =
    let own = entries_of n call.ask call.answer in
    ap (λ (xs : List Entry). call.more ++ (own ++ xs)) (history_more n calls more)
    ∙ ap (λ (xs : List Entry). call.more ++ xs) (sym (append_assoc own (history_of n calls) (history_of n more)))
    ∙ sym (append_assoc call.more (own ++ history_of n calls) (history_of n more))

-- who runs behind steps is who ran, grown by what they tell
pub after_is : (n : ℕ) (running : Running) (calls : List Call) → after_all running calls ≡ grown running (history_of n calls)
after_is n running [] = refl
after_is n running (call ∷ calls) =
    let own = entries_of n call.ask call.answer in
    after_is n (after_call running call) calls
    ∙ ap (λ (r : Running). grown r (history_of n calls)) (same_growth (grown running call.more) 0 n (changes_of call.ask call.answer))
    ∙ sym (grown_more (grown running call.more) own (history_of n calls))
    ∙ sym (grown_more running call.more (own ++ history_of n calls))

follows_at : (limits : Limits) (running : Running) (earlier : List Call) (call : Call) (later : List Call) → Follows limits running (earlier ++ (call ∷ later))
    → MayAnswer limits (grown (after_all running earlier) call.more) call.ask call.answer
follows_at limits running [] call later follows = follows.0
follows_at limits running (c ∷ earlier) call later follows = follows_at limits (after_call running c) earlier call later follows.1

front_of : (n : ℕ) (earlier : List Call) (call : Call) (later : List Call) (rest : List Entry)
    → history_of n (earlier ++ (call ∷ later)) ++ rest ≡ before_step n earlier call ++ (entries_of n call.ask call.answer ++ (history_of n later ++ rest))
front_of n earlier call later rest =
    let own = entries_of n call.ask call.answer in
    let H = history_of n earlier in
    let L = history_of n later in
    ap (λ (xs : List Entry). xs ++ rest) (history_more n earlier (call ∷ later))
    ∙ append_assoc H (call.more ++ (own ++ L)) rest
    ∙ ap (λ (xs : List Entry). H ++ xs) (append_assoc call.more (own ++ L) rest)
    ∙ ap (λ (xs : List Entry). H ++ (call.more ++ xs)) (append_assoc own L rest)
    ∙ sym (append_assoc H call.more (own ++ (L ++ rest)))

module _ (limits : Limits) (running : Running) (history : List Entry) (all : List (List Call)) (told : TellsAll limits running history all) where
  pub steps_at : (number : ℕ) (calls : List Call) → IsNumber all number calls → AreStepsOf limits running history number calls
  steps_at number calls at =
      let there = Numbered-at (AreStepsOf limits running history) 0 at.before at.behind calls (subst (Numbered (AreStepsOf limits running history) 0) at.whole told.each) in
      subst (λ (n : ℕ). AreStepsOf limits running history n calls) (let is = at.number_is in let same : 0 + length at.before ≡ number = omega (arith, is) in same) there

  pub has_its_place : (number : ℕ) (earlier : List Call) (call : Call) → IsStep all number earlier call → HasItsPlace limits running history number earlier call
  has_its_place number earlier call step =
      let it = steps_at number (earlier ++ (call ∷ step.later)) step.calls in
      record {
        behind = history_of number step.later ++ it.saw.0;
        whole = it.saw.1 ∙ front_of number earlier call step.later it.saw.0;
        may = subst (λ (r : Running). MayAnswer limits r call.ask call.answer)
            (ap (λ (r : Running). grown r call.more) (after_is number running earlier) ∙ sym (grown_more running (history_of number earlier) call.more))
            (follows_at limits running earlier call step.later it.follows);
      }

-- ---- numbers of commits

pub more_commits : (running : Running) (entries : List Entry) → Begins running.state.commits (grown running entries).state.commits
more_commits running entries =
    let it = grown_all running entries in
    (it.commits, ap (λ (s : State). s.commits) it.same)

count_more : (running : Running) (entries : List Entry) → count_of running ≤ count_of (grown running entries)
count_more running entries =
    let more = more_commits running entries in
    let same = ap length more.1 in
    let all = length-append running.state.commits more.0 in
    omega (arith, same, all)

module _ (limits : Limits) (running : Running) (history : List Entry) (by : ℕ) (earlier : List Call) (call : Call) (it : HasItsPlace limits running history by earlier call)
    (commit : Commit) (asked : call.ask ≡ to_commit commit) (number : ℕ) (answered : call.answer ≡ committed number) where
  abbrev now : Running
  now = grown running (before_step by earlier call)

  pub counts_up : number ≡ count_of now + 1
  counts_up = commit_counts limits now commit number
      (subst (λ (answer : Answer). MayAnswer limits now (to_commit commit) answer) answered
      (subst (λ (ask : Ask). MayAnswer limits now ask call.answer) asked it.may))

  pub entry_is : entries_of by call.ask call.answer ≡ record { by = by; what = made commit } ∷ []
  entry_is = ap (λ (ask : Ask). entries_of by ask call.answer) asked ∙ ap (λ (answer : Answer). entries_of by (to_commit commit) answer) answered

  pub whole_is : history ≡ before_step by earlier call ++ (record { by = by; what = made commit } ∷ it.behind)
  whole_is = it.whole ∙ ap (λ (own : List Entry). before_step by earlier call ++ (own ++ it.behind)) entry_is

  pub has_its_number : (place : ℕ) × (number ≡ place + 1) × IsNumber (grown running history).state.commits place commit
  has_its_number =
      let more = more_commits (with_what now (made commit)) it.behind in
      let grew : grown running history ≡ grown (with_what now (made commit)) it.behind =
      ap (grown running) whole_is ∙ grown_more running (before_step by earlier call) (record { by = by; what = made commit } ∷ it.behind) in (
        count_of now,
        counts_up,
        record {
          before = now.state.commits;
          behind = more.0;
          whole = ap (λ (r : Running). r.state.commits) grew ∙ more.1 ∙ append_assoc now.state.commits (commit ∷ []) more.0;
          number_is = refl;
        },
      )

-- two commits behind as many others are one entry
one_front : (running : Running) (xs ys xs' ys' : List Entry) (a b : ℕ) (c d : Commit)
    → (xs ++ (record { by = a; what = made c } ∷ xs')) ≡ (ys ++ (record { by = b; what = made d } ∷ ys')) → count_of (grown running xs) ≡ count_of (grown running ys) → (a ≡ b) × (length xs ≡ length ys)
one_front running [] [] xs' ys' a b c d is same = (ap by_whom (same_first (record { by = a; what = made c }) (record { by = b; what = made d }) xs' ys' is), refl)
one_front running [] (y ∷ ys) xs' ys' a b c d is same =
    let here : record { by = a; what = made c } ≡ y = same_first (record { by = a; what = made c }) y xs' (ys ++ (record { by = b; what = made d } ∷ ys')) is in
    let grew : grown running (y ∷ ys) ≡ grown (with_what running (made c)) ys = sym (ap (λ (e : Entry). grown (with_what running e.what) ys) here) in
    let more = count_more (with_what running (made c)) ys in
    let one = length_push running.state.commits c in
    let count = ap count_of grew in
    absurd (omega (arith, same, more, one, count))
one_front running (x ∷ xs) [] xs' ys' a b c d is same =
    let here : x ≡ record { by = b; what = made d } = same_first x (record { by = b; what = made d }) (xs ++ (record { by = a; what = made c } ∷ xs')) ys' is in
    let grew : grown running (x ∷ xs) ≡ grown (with_what running (made d)) xs = ap (λ (e : Entry). grown (with_what running e.what) xs) here in
    let more = count_more (with_what running (made d)) xs in
    let one = length_push running.state.commits d in
    let count = ap count_of grew in
    absurd (omega (arith, same, more, one, count))
one_front running (x ∷ xs) (y ∷ ys) xs' ys' a b c d is same =
    let here : x ≡ y = same_first x y (xs ++ (record { by = a; what = made c } ∷ xs')) (ys ++ (record { by = b; what = made d } ∷ ys')) is in
    let rest = same_rest x y (xs ++ (record { by = a; what = made c } ∷ xs')) (ys ++ (record { by = b; what = made d } ∷ ys')) is in
    let fewer = one_front (with_what running x.what) xs ys xs' ys' a b c d rest
    (same ∙ ap (λ (e : Entry). count_of (grown (with_what running e.what) ys)) (sym here)) in
    (fewer.0, ap suc fewer.1)

-- what stands before a step grows along a session
one_step : (n : ℕ) (xs ys xs' ys' : List Call) (x y : Call) → (xs ++ (x ∷ xs')) ≡ (ys ++ (y ∷ ys')) → length (entries_of n x.ask x.answer) ≡ 1 → length (entries_of n y.ask y.answer) ≡ 1
    → length (before_step n xs x) ≡ length (before_step n ys y) → length xs ≡ length ys
one_step n [] [] xs' ys' x y is own own' same = refl
one_step n [] (v ∷ ys) xs' ys' x y is own own' same =
    let here : x ≡ v = same_first x v xs' (ys ++ (y ∷ ys')) is in
    let more = ap (λ (call : Call). length call.more) here in
    let added = ap (λ (call : Call). length (entries_of n call.ask call.answer)) here in
    let first = length-append (history_of n (v ∷ ys)) y.more in
    let second = length-append v.more (entries_of n v.ask v.answer ++ history_of n ys) in
    let third = length-append (entries_of n v.ask v.answer) (history_of n ys) in
    absurd (omega (arith, same, own, more, added, first, second, third))
one_step n (u ∷ xs) [] xs' ys' x y is own own' same =
    let here : u ≡ y = same_first u y (xs ++ (x ∷ xs')) ys' is in
    let more = ap (λ (call : Call). length call.more) here in
    let added = ap (λ (call : Call). length (entries_of n call.ask call.answer)) here in
    let first = length-append (history_of n (u ∷ xs)) x.more in
    let second = length-append u.more (entries_of n u.ask u.answer ++ history_of n xs) in
    let third = length-append (entries_of n u.ask u.answer) (history_of n xs) in
    absurd (omega (arith, same, own', more, added, first, second, third))
one_step n (u ∷ xs) (v ∷ ys) xs' ys' x y is own own' same =
    let here : u ≡ v = same_first u v (xs ++ (x ∷ xs')) (ys ++ (y ∷ ys')) is in
    let rest = same_rest u v (xs ++ (x ∷ xs')) (ys ++ (y ∷ ys')) is in
    let more = ap (λ (call : Call). length call.more) here in
    let added = ap (λ (call : Call). length (entries_of n call.ask call.answer)) here in
    let a = length-append (history_of n (u ∷ xs)) x.more in
    let b = length-append u.more (entries_of n u.ask u.answer ++ history_of n xs) in
    let c = length-append (entries_of n u.ask u.answer) (history_of n xs) in
    let d = length-append (history_of n (v ∷ ys)) y.more in
    let e = length-append v.more (entries_of n v.ask v.answer ++ history_of n ys) in
    let f = length-append (entries_of n v.ask v.answer) (history_of n ys) in
    let g = length-append (history_of n xs) x.more in
    let h = length-append (history_of n ys) y.more in
    ap suc (one_step n xs ys xs' ys' x y rest own own' (omega (arith, same, more, added, a, b, c, d, e, f, g, h)))

module _ (limits : Limits) (running : Running) (history : List Entry) (all : List (List Call)) (told : TellsAll limits running history all) where
  pub told_once : (a : ℕ) (first : List Call) (call : Call) → IsStep all a first call → (b : ℕ) (others : List Call) (other : Call) → IsStep all b others other
      → (commit : Commit) → call.ask ≡ to_commit commit → (commit' : Commit) → other.ask ≡ to_commit commit'
      → (number : ℕ) → call.answer ≡ committed number → other.answer ≡ committed number → (a ≡ b) × (length first ≡ length others)
  told_once a first call step b others other step' commit asked commit' asked' number answered answered' =
      let it = has_its_place limits running history all told a first call step in
      let it' = has_its_place limits running history all told b others other step' in
      let up = counts_up limits running history a first call it commit asked number answered in
      let up' = counts_up limits running history b others other it' commit' asked' number answered' in
      let one = one_front running (before_step a first call) (before_step b others other) it.behind it'.behind a b commit commit'
      (sym (whole_is limits running history a first call it commit asked number answered) ∙ whole_is limits running history b others other it' commit' asked' number answered')
      (omega (arith, up, up')) in
      let later : IsNumber all a (others ++ (other ∷ step'.later)) = subst (λ (n : ℕ). IsNumber all n (others ++ (other ∷ step'.later))) (sym one.0) step'.calls in
      let lists = one_item all a (first ++ (call ∷ step.later)) (others ++ (other ∷ step'.later)) step.calls later in
      let own = ap length (entry_is limits running history a first call it commit asked number answered) in
      let own' = ap length (entry_is limits running history b others other it' commit' asked' number answered') in (
        one.0,
        one_step a first others step.later step'.later call other lists own
            (ap (λ (n : ℕ). length (entries_of n other.ask other.answer)) one.0 ∙ own')
            (one.1 ∙ ap (λ (n : ℕ). length (before_step n others other)) (sym one.0)),
      )

-- ---- searches and refusals

module _ (limits : Limits) (running : Running) (history : List Entry) (by : ℕ) (earlier : List Call) (call : Call) (it : HasItsPlace limits running history by earlier call) where
  pub is_scan : (terms : Terms) → call.ask ≡ to_find terms → (number : ℕ) (docs : List ℕ) → call.answer ≡ found number docs → (met : Running) → met ≡ grown running (before_step by earlier call)
      → (number ≡ length met.state.commits) × (IsRight met.state → docs ≡ scan (rules_of met.state.settings) (replay met.state.commits).list terms)
  is_scan terms asked number docs answered met is =
      subst (λ (r : Running). MayAnswer limits r (to_find terms) (found number docs)) (sym is)
      (subst (λ (answer : Answer). MayAnswer limits (grown running (before_step by earlier call)) (to_find terms) answer) answered
      (subst (λ (ask : Ask). MayAnswer limits (grown running (before_step by earlier call)) ask call.answer) asked it.may))

  pub has_cause : (met : Running) → met ≡ grown running (before_step by earlier call)
      → ((why : Refusal) → call.answer ≡ refused why → plain_answer limits met call.ask ≡ Some (refused why))
      × ((place : ℕ) → call.answer ≡ full place → plain_answer limits met call.ask ≡ Some (full place))
  has_cause met is = (
    λ why answered.
        subst (λ (answer : Answer). MayAnswer limits met call.ask answer) answered
        (subst (λ (r : Running). MayAnswer limits r call.ask call.answer) (sym is) it.may),
    λ place answered.
        subst (λ (answer : Answer). MayAnswer limits met call.ask answer) answered
        (subst (λ (r : Running). MayAnswer limits r call.ask call.answer) (sym is) it.may),
  )

-- ---- numbers that are told

follows_front : (limits : Limits) (running : Running) (here more : List Call) → Follows limits running (here ++ more) → Follows limits running here
follows_front limits running [] more follows = tt
follows_front limits running (call ∷ here) more follows = (follows.0, follows_front limits (after_call running call) here more follows.1)

follows_behind : (limits : Limits) (running : Running) (here more : List Call) → Follows limits running (here ++ more) → Follows limits (after_all running here) more
follows_behind limits running [] more follows = follows
follows_behind limits running (call ∷ here) more follows = follows_behind limits (after_call running call) here more follows.1

rises_from : (settings : Settings) (limits : Limits) (running : Running) (seen : ℕ) (transaction : Transaction) (lines : List Line) (calls : List Call) (replies : List Reply) (left : Transaction)
    → seen ≤ count_of running → Follows limits running calls → Talks settings transaction lines calls replies left → Rise seen replies
rises_from settings limits running seen transaction [] calls replies left less follows talks = subst (Rise seen) (sym talks.1) tt
rises_from settings limits running seen transaction (line ∷ lines) calls replies left less follows (here, more, reply, rest, middle, says, calls_are, replies_are, later) =
    let both = subst (Follows limits running) calls_are follows in
    let told = line_rises limits settings line transaction middle running seen here reply less says (follows_front limits running here more both) in
    let up = never_falls running here in
    subst (Rise seen) (sym replies_are) (
      told.0,
      rises_from settings limits (after_all running here) (max seen (number_told reply)) middle lines more rest left (max-le (omega (arith, less, up)) told.1)
          (follows_behind limits running here more both) later,
    )

pub talk_rises : (settings : Settings) (limits : Limits) (running : Running) (transaction : Transaction) (lines : List Line) (calls : List Call) (replies : List Reply) (left : Transaction)
    → Follows limits running calls → Talks settings transaction lines calls replies left → Rise (length running.state.commits) replies
talk_rises settings limits running transaction lines calls replies left follows talks =
    rises_from settings limits running (count_of running) transaction lines calls replies left (omega arith) follows talks
