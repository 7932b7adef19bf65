use Rattle.std.proofs.Common.{◌≡◌, ℕ, List, false, true, ap, sym, ◌∙◌}
use Rattle.fts_ids.specs.Ids.{has}
use Rattle.fts_index.specs.Restore.{can_restore}
use Rattle.fts_index.specs.Stands.{StandsFor}
use Rattle.fts_index.proofs.Restoring.{comes, through_at, seals, stands_restored, cannot}
use Rattle.fts_index.proofs.index.Index.restore.Goals as goal

pub returns-then-not-branch-clause-bad : goal.returns-then-not-branch-clause-bad
unfolding StandsFor
returns-then-not-branch-clause-bad c = λ err rules turns more s restores here seal.
    let fails : can_restore c.args.self.now c.args.covered.now c.args.through c.args.synced c.args.nodes.now ≡ false = sym c.in_ok-make_room_if_fit.ensures.can ∙ c.if-not-branch.true in
    cannot rules turns more s c.args.self.now c.args.covered.now restores c.args.through c.args.synced c.args.nodes.now c.requires fails here seal

pub add_batch-requires-clause-after : goal.add_batch-requires-clause-after
add_batch-requires-clause-after c =
    let can : can_restore c.args.self.now c.args.covered.now c.args.through c.args.synced c.args.nodes.now ≡ true = sym c.in_ok-make_room_if_fit.ensures.can ∙ c.if-not-branch.false in
    comes c.args.self.now c.make_room_if_fit.new.index c.args.covered.now c.args.through c.args.synced c.args.nodes.now c.make_room_if_fit.ensures.same c.requires can

pub returns-clause-restored : goal.returns-clause-restored
unfolding StandsFor
returns-clause-restored c = λ rules turns more s restores.
    let can : can_restore c.args.self.now c.args.covered.now c.args.through c.args.synced c.args.nodes.now ≡ true = sym c.in_ok-make_room_if_fit.ensures.can ∙ c.if-not-branch.false in
    let dead : (id : ℕ) → has c.deref-2.result.now id ≡ has c.args.covered.now.deaths.items id = λ id.
    ap (λ (ids : List ℕ). has ids id) c.deref-2.ensures.value
    ∙ c.ascending-dead.ensures.each id
    ∙ ap (λ (ids : List ℕ). has ids id) (c.in_ok-to_vec.ensures.items_if_clones_equal (λ x y e. e) ∙ c.deref.ensures.value) in
    record {
      whole = through_at rules turns more s c.args.self.now c.args.covered.now restores c.args.through c.args.synced c.args.nodes.now c.requires can;
      can = seals rules turns more s c.args.self.now c.args.covered.now restores c.args.through c.args.synced c.args.nodes.now c.requires can;
      stands = stands_restored rules turns more s c.args.self.now c.args.covered.now restores c.args.through c.args.synced c.args.nodes.now c.requires can
          c.make_room_if_fit.new.index c.add_batch.new.index c.deref-2.result.now c.make_room_if_fit.ensures.same dead c.add_batch.ensures;
    }
