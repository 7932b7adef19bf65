use Rattle.std.proofs.Common.{List, ℕ, ◌≡◌, Bool, ◌||◌, ◌&&◌, not, nat_le, ap, sym, subst, ◌∙◌}
use Rattle.fts_ids.specs.Ids.{has, Ascend}
use Rattle.fts_lists.specs.State.{State, ids_of}
use Rattle.fts_lists.specs.declared.lists.DeleteList.TheVariants.{Deleted, BeingDeleted, DeletedCache}
use Rattle.fts_lists.proofs.Ascending.{has-without}
use Rattle.fts_lists.proofs.Merging.{has-with_ids, AscendFrom-with_ids}
use Rattle.fts_index.proofs.sync.move_dead.Goals as goal

pub returns : goal.returns
returns c =
    let old = c.args.lists.now in
    let first = c.add_all.new.self in
    let last = c.purge.new.self in
    let up : Ascend (ids_of Deleted old) = subst Ascend c.deleted-deleted.ensures.value c.deleted-deleted.ensures.ascending in
    let now : ids_of Deleted last ≡ ids_of Deleted first = ap (ids_of Deleted) c.purge.ensures.others in
    record {
      ascend_then = up;
      ascend_now = subst Ascend (sym (now ∙ c.add_all.ensures.ids)) (AscendFrom-with_ids (ids_of Deleted old) c.up_to-flushed.result.now up);
      deleted = λ id. ap (λ (ids : List ℕ). has ids id) (now ∙ c.add_all.ensures.ids) ∙ has-with_ids (ids_of Deleted old) c.up_to-flushed.result.now id
          ∙ ap (λ (b : Bool). has (ids_of Deleted old) id || b) (c.up_to-flushed.ensures.each id ∙ ap (λ (n : ℕ). nat_le id n && has c.args.dead.now id) c.synced.ensures);
      dead = λ id. ap (λ (ids : List ℕ). has ids id) c.purge.ensures.ids ∙ has-without c.args.dead.now (ids_of DeletedCache first) id
          ∙ ap (λ (ids : List ℕ). not (has c.args.dead.now id) && has ids id) (ap (ids_of DeletedCache) c.add_all.ensures.others);
      being = ap (ids_of BeingDeleted) c.purge.ensures.others ∙ ap (ids_of BeingDeleted) c.add_all.ensures.others;
      is_open = ap (λ (t : State). t.is_open) c.purge.ensures.others ∙ ap (λ (t : State). t.is_open) c.add_all.ensures.others;
      checkpoint = ap (λ (t : State). t.checkpoint) c.purge.ensures.others ∙ ap (λ (t : State). t.checkpoint) c.add_all.ensures.others;
    }
