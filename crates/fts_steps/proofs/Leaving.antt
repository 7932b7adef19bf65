-- What a crash leaves of one run behind another.
use Rattle.std.proofs.Common.{◌∙◌, subst, sym, inl, inr, ⊎_elim, arith}
use Rattle.fts_disk.specs.Device.{Files}
use Rattle.fts_disk.specs.Crash.{Images}
use Rattle.fts_disk.specs.Moments.{LeavesOnly}
use Rattle.fts_disk.specs.declared.disk.Disk.{Ghosts}
use Rattle.fts_disk.proofs.Runs.{leaves_weaker}
use Rattle.fts_steps.specs.Step.{Below, Leaves}

-- one run behind another
pub joined : {D : Type 0} (disk : Ghosts D) (old mid new : D) (P : Images) → LeavesOnly disk old mid P → LeavesOnly disk mid new P → LeavesOnly disk old new P
joined disk old mid new P first then_ = record {
  later = let a = first.later in let b = then_.later in omega arith;
  each = λ c left. ⊎_elim (λ past. first.each c past) (λ held. held) (then_.before (disk.moment old) c first.later left);
  before = λ t c le left. ⊎_elim (λ past. first.before t c le past) inr (then_.before t c (let a = first.later in omega (arith, le, a)) left);
}

-- what is left of one run and of one behind it
pub leaves_more : {S : Type 0} (below : Below S) (before mid new : S) (P Q R : Images) → ((c : Files) → P c → R c) → ((c : Files) → Q c → R c)
    → Leaves below P before mid → Leaves below Q mid new → Leaves below R before new
leaves_more below before mid new P Q R sooner later (inl same) (inl again) = inl (again ∙ same)
leaves_more below before mid new P Q R sooner later (inl same) (inr left) =
    inr (subst (λ (d : below.Device). LeavesOnly below.disk d (below.device new) R) same
    (leaves_weaker below.disk (below.device mid) (below.device new) Q R later left))
leaves_more below before mid new P Q R sooner later (inr left) (inl same) =
    inr (subst (λ (d : below.Device). LeavesOnly below.disk (below.device before) d R) (sym same)
    (leaves_weaker below.disk (below.device before) (below.device mid) P R sooner left))
leaves_more below before mid new P Q R sooner later (inr first) (inr then_) =
    inr (joined below.disk (below.device before) (below.device mid) (below.device new) R
    (leaves_weaker below.disk (below.device before) (below.device mid) P R sooner first)
    (leaves_weaker below.disk (below.device mid) (below.device new) Q R later then_))
