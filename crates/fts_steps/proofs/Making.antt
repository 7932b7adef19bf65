-- Steps that were made one after another.
use Rattle.std.proofs.Common.{◌≡◌, List, [], ◌∷◌, ◌++◌, ap, subst, sym, ◌∙◌, inl}
use Rattle.std.specs.Prelude.{false, IsTrue}
use Rattle.fts_types.specs.declared.limits.Limits.{Limits}
use Rattle.fts_steps.specs.Running.{Running, Entry, IsSure}
use Rattle.fts_steps.specs.Crash.{IsBetween, IsIndexBetween}
use Rattle.fts_steps.specs.Step.{Call, Sight, Leaves, StepOf, Steps, AreMade, Traced, AreAlone, Follows, after_call, after_all}
use Rattle.fts_steps.proofs.Adding.{Adds, adds, grown_call, grows, sure_call, between_more, index_more}

-- ---- steps that were made

-- the settings and the limits stay
pub record Stay {S : Type 0} (sight : Sight S) (old new : S) : Type 0 where
  pub settings : sight.settings new ≡ sight.settings old
  pub limits : sight.limits new ≡ sight.limits old

module _ {S : Type 0} (sight : Sight S) where
  pub made_keeps : (calls : List Call) (old new : S) → AreMade sight calls old new → Stay sight old new
  made_keeps [] old new is = record { settings = ap sight.settings is; limits = ap sight.limits is }
  made_keeps (call ∷ calls) old new (mid, step, made) =
      let behind = made_keeps calls mid new made in
      record { settings = behind.settings ∙ step.0.keeps.settings; limits = behind.limits ∙ step.0.keeps.limits }

  pub made_append : (calls more : List Call) (old mid new : S) → AreMade sight calls old mid → AreMade sight more mid new → AreMade sight (calls ++ more) old new
  made_append [] more old mid new is behind = subst (λ (s : S). AreMade sight more s new) is behind
  made_append (call ∷ calls) more old mid new (next, step, made) behind = (next, step, made_append calls more next mid new made behind)

  -- they are a run of whatever stood at their begin
  step_of : (call : Call) (running : Running) (old new : S) (step : Steps sight call.ask call.answer old new) → step.more ≡ call.more → sight.stands running old
      → StepOf sight running call old new
  step_of call running old new step same stands =
      subst (λ (more : List Entry). StepOf sight running (record { more = more; ask = call.ask; answer = call.answer }) old new) same (step.each running stands)

  pub made_traced : (calls : List Call) (running : Running) (old new : S) → sight.stands running old → AreMade sight calls old new → Traced sight running calls old new
  made_traced [] running old new stands is = is
  made_traced (call ∷ calls) running old new stands (mid, (step, same), made) =
      let here = step_of call running old mid step same stands in
      (mid, here, made_traced calls (after_call running call) mid new here.stands made)

-- ---- a run

module _ {S : Type 0} (sight : Sight S) where
  pub traced_append : (running : Running) (calls more : List Call) (old mid new : S) → Traced sight running calls old mid → Traced sight (after_all running calls) more mid new
      → Traced sight running (calls ++ more) old new
  traced_append running [] more old mid new is behind = subst (λ (s : S). Traced sight running more s new) is behind
  traced_append running (call ∷ calls) more old mid new (next, step, first) behind =
      (next, step, traced_append (after_call running call) calls more next mid new first behind)

  pub traced_stands : (running : Running) (calls : List Call) (old new : S) → sight.stands running old → Traced sight running calls old new → sight.stands (after_all running calls) new
  traced_stands running [] old new stands is = subst (λ (s : S). sight.stands running s) (sym is) stands
  traced_stands running (call ∷ calls) old new stands (mid, step, rest) = traced_stands (after_call running call) calls mid new step.stands rest

  pub traced_keeps : (running : Running) (calls : List Call) (old new : S) → Traced sight running calls old new → Stay sight old new
  traced_keeps running [] old new is = record { settings = ap sight.settings is; limits = ap sight.limits is }
  traced_keeps running (call ∷ calls) old new (mid, step, rest) =
      let behind = traced_keeps (after_call running call) calls mid new rest in
      record { settings = behind.settings ∙ step.keeps.settings; limits = behind.limits ∙ step.keeps.limits }

  pub traced_follows : (running : Running) (calls : List Call) (old new : S) → Traced sight running calls old new → Follows (sight.limits old) running calls
  traced_follows running [] old new is = tt
  traced_follows running (call ∷ calls) old new (mid, step, rest) = (
    step.may,
    subst (λ (limits : Limits). Follows limits (after_call running call) calls) step.keeps.limits (traced_follows (after_call running call) calls mid new rest),
  )

  pub traced_alone : sight.is_shared ≡ false → (running : Running) (calls : List Call) (old new : S) → Traced sight running calls old new → AreAlone calls
  traced_alone single running [] old new is = tt
  traced_alone single running (call ∷ calls) old new (mid, step, rest) = (step.alone single, traced_alone single (after_call running call) calls mid new rest)

  -- what is behind the first step is added behind what that added
  added : sight.is_shared ≡ false → (running : Running) → IsSure running → (call : Call) (calls : List Call) (old new : S) → Traced sight (after_call running call) calls old new
      → Adds (after_call running call) (after_all running (call ∷ calls))
  added single running sure call calls old new rest =
      adds (sight.limits old) (after_call running call) calls (sure_call running call sure) (traced_alone single (after_call running call) calls old new rest)
      (traced_follows (after_call running call) calls old new rest)

  -- a crash at any moment leaves of each log what was before it and a front of what was added
  pub traced_rows : sight.is_shared ≡ false → IsTrue sight.rows.disk.tells → (running : Running) (calls : List Call) (old new : S) → IsSure running → Traced sight running calls old new
      → Leaves sight.rows (IsBetween running (after_all running calls)) old new
  traced_rows single told running [] old new sure is = inl (ap sight.rows.device is)
  traced_rows single told running (call ∷ calls) old new sure (mid, step, rest) =
      between_more sight old mid new running (after_call running call) (after_all running (call ∷ calls)) (grown_call running call)
      (added single running sure call calls mid new rest) (step.rows single told)
      (traced_rows single told (after_call running call) calls mid new (sure_call running call sure) rest)

  pub traced_index : sight.is_shared ≡ false → IsTrue sight.index.disk.tells → (running : Running) (calls : List Call) (old new : S) → IsSure running → Traced sight running calls old new
      → Leaves sight.index (IsIndexBetween running (after_all running calls)) old new
  traced_index single told running [] old new sure is = inl (ap sight.index.device is)
  traced_index single told running (call ∷ calls) old new sure (mid, step, rest) =
      index_more sight old mid new running (after_call running call) (after_all running (call ∷ calls)) (grown_call running call)
      (grows (after_call running call) calls) (added single running sure call calls mid new rest) (step.index single told)
      (traced_index single told (after_call running call) calls mid new (sure_call running call sure) rest)
