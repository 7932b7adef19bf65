use Rattle.std.proofs.Common.{ℕ, ◌+◌, map, refl, ap, subst, ◌∙◌, arith}
use Rattle.std.proofs.Math.Nat.{le-max_left}
use Rattle.fts_aux.specs.Tables.{HasRoomOf}
use Rattle.fts_index.specs.declared.sync.SyncPlan.{SyncPlan}
use Rattle.fts_index.specs.Index.{pending_seen}
use Rattle.fts_index.specs.Parts.{counted_within}
use Rattle.fts_index.specs.Stands.{StandsFor}
use Rattle.fts_index.proofs.Syncing.{IsPlanned, is_batch, is_fit}
use Rattle.fts_index.proofs.index.Index.plan_sync.Goals as goal

pub returns-clause-planned : goal.returns-clause-planned
unfolding StandsFor
returns-clause-planned c = λ rules turns s stands commits fits.
    let old = c.args.self.now in
    let new = c.make_batch_room.new.index in
    let plan : SyncPlan = record { count = c.covers-count.result; through = c.in_ok-through.through; synced = c.index.result.now.largest; nodes = c.in_ok-nodes.nodes; dead = c.in_ok-dead.dead } in
    let is : IsPlanned c.args.batch_docs old new plan = record {
      same = c.make_batch_room.ensures.same;
      some = (let one = le-max_left 1 (counted_within c.args.batch_docs 0 (map pending_seen old.pending.items)) in omega (arith, one, c.covers-count.ensures.count, c.covers-count.ensures.within));
      count = c.covers-count.ensures.count;
      within = c.covers-count.ensures.within;
      last = c.index.result.now;
      last_is = c.index.ensures;
      synced = refl;
      through = c.in_ok-through.ensures ∙ ap (λ (n : ℕ). n + c.covers-count.result) c.flushed.ensures;
      ascend = c.in_ok-dead.ensures.ascend;
      each = c.in_ok-dead.ensures.each;
      words = c.in_ok-nodes.ensures.ascending;
      filled = c.in_ok-nodes.ensures.filled;
      exact = c.in_ok-nodes.ensures.exact;
      room = subst (HasRoomOf new.tables) c.deref.ensures.value c.in_ok-make_batch_room.ensures.nodes;
      dead = (let few = c.in_ok-make_batch_room.ensures.dead in omega (arith, few, c.len.ensures, c.in_ok-dead.dead.ok.0));
    } in
    (is_batch rules c.args.batch_docs turns s old new plan is stands commits fits, is_fit rules c.args.batch_docs turns s old new plan is stands commits fits)
