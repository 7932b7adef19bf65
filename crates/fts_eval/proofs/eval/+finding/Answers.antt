use Rattle.std.proofs.Common.{◌&&◌, not, ℕ, Bool, map, ap, ◌∙◌}
use Rattle.fts_ids.specs.Ids.{has}
use Rattle.fts_query.specs.Seen.{candidate_seen}
use Rattle.fts_eval.specs.Found.{ids_of}
use Rattle.fts_eval.specs.Says.{says, some_says}
use Rattle.fts_eval.proofs.Parts.{by_optional, by_required, if_has, is_none, is_some}
use Rattle.std.proofs.Common.{refl}
use Rattle.fts_eval.proofs.eval.+finding.Goals as goal

pub found-returns-then-is_empty : goal.found-returns-then-is_empty
found-returns-then-is_empty t c =
    let texts = map candidate_seen c.args.texts.now in
    let excluded = c.as_slice-then-is_empty.result.now in
    if_has ids_of (λ (id : ℕ). has (ids_of c.in_ok-ids-in-Group.ids) id && not (some_says texts excluded id)) (λ (id : ℕ). says texts id c.args.part.now) c.left.result
    (λ id. ap (λ (b : Bool). b && not (some_says texts excluded id)) (c.in_ok-ids-in-Group.ensures id)
    ∙ by_optional texts c.args.part.now c.in-Group.required c.in-Group.optional c.in-Group.excluded c.in-Group.is c.as_slice-required.result.now c.as_slice.result.now excluded c.as_slice-required.ensures.value c.as_slice.ensures.value c.as_slice-then-is_empty.ensures.value (is_none _ c.is_empty.result c.is_empty.ensures c.if-is_empty.true) id)
    c.left.ensures

pub found-returns-in_ok-ids-in-Group-2 : goal.found-returns-in_ok-ids-in-Group-2
found-returns-in_ok-ids-in-Group-2 t c =
    let texts = map candidate_seen c.args.texts.now in
    let excluded = c.as_slice-in-Group.result.now in
    if_has ids_of (λ (id : ℕ). has (ids_of c.in_ok-ids-in-Group-2.ids) id && not (some_says texts excluded id)) (λ (id : ℕ). says texts id c.args.part.now) c.left-in-Group.result
    (λ id. ap (λ (b : Bool). b && not (some_says texts excluded id)) (c.in_ok-ids-in-Group-2.ensures id)
    ∙ by_required texts c.args.part.now c.in-Group.required c.in-Group.optional c.in-Group.excluded c.in-Group.is c.as_slice-required.result.now c.in-Group.optional.items excluded c.as_slice-required.ensures.value refl c.as_slice-in-Group.ensures.value (is_some _ c.is_empty.result c.is_empty.ensures c.if-is_empty.false) id)
    c.left-in-Group.ensures
