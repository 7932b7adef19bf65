use Rattle.std.proofs.Common.{◌≡◌, ℕ, Bool, List, true, false, ◌&&◌, ap, sym, ◌∙◌}
use Rattle.std.specs.List.{list_all}
use Rattle.std.proofs.lemmas.Result.{IfOk-weaker}
use Rattle.fts_ids.specs.Ids.{has}
use Rattle.fts_index.specs.Restore.{is_fit, is_new, is_next}
use Rattle.fts_index.proofs.Restoring.{all_fit, none_fit}
use Rattle.fts_index.proofs.restore.make_room_if_fit.Goals as goal

pub returns-then-not-are_new-clause-can : goal.returns-then-not-are_new-clause-can
returns-then-not-are_new-clause-can c =
    let held = c.args.index.now.tables in
    let nodes = c.args.nodes.now in
    let born = has c.args.covered.now.births.items in
    let same : (id : ℕ) → has c.deref-2.result.now id ≡ born id = λ id.
    ap (λ (ids : List ℕ). has ids id) c.deref-2.ensures.value
    ∙ c.ascending-births.ensures.each id
    ∙ ap (λ (ids : List ℕ). has ids id) (c.in_ok-to_vec.ensures.items_if_clones_equal (λ x y e. e) ∙ c.deref.ensures.value) in
    let next : is_next c.args.index.now c.args.covered.now c.args.through c.args.synced ≡ true = sym c.is_next.ensures ∙ c.if-not-is_next.false in
    let old : list_all (is_new born) nodes ≡ false = ap (λ (b : ℕ → Bool). list_all (is_new b) nodes) (λ i id. sym (same id) i) ∙ sym c.are_new.ensures ∙ c.if-not-are_new.true in
    sym (ap (λ (b : Bool). b && list_all (is_fit held born) nodes) next ∙ none_fit held born nodes old)

pub returns-clause-can : goal.returns-clause-can
returns-clause-can c =
    let held = c.args.index.now.tables in
    let nodes = c.args.nodes.now in
    let born = has c.args.covered.now.births.items in
    let same : (id : ℕ) → has c.deref-2.result.now id ≡ born id = λ id.
    ap (λ (ids : List ℕ). has ids id) c.deref-2.ensures.value
    ∙ c.ascending-births.ensures.each id
    ∙ ap (λ (ids : List ℕ). has ids id) (c.in_ok-to_vec.ensures.items_if_clones_equal (λ x y e. e) ∙ c.deref.ensures.value) in
    let next : is_next c.args.index.now c.args.covered.now c.args.through c.args.synced ≡ true = sym c.is_next.ensures ∙ c.if-not-is_next.false in
    let new : list_all (is_new born) nodes ≡ true = ap (λ (b : ℕ → Bool). list_all (is_new b) nodes) (λ i id. sym (same id) i) ∙ sym c.are_new.ensures ∙ c.if-not-are_new.false in
    IfOk-weaker c.make_batch_room.result _ _
    (λ behind told. told ∙ sym (ap (λ (b : Bool). b && list_all (is_fit held born) nodes) next ∙ all_fit held born nodes new))
    c.make_batch_room.ensures.told
