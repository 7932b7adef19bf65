use Rattle.std.proofs.Common.{◌&&◌, not, ℕ, Bool, map, ap, ◌∙◌}
use Rattle.fts_ids.specs.Ids.{has}
use Rattle.fts_query.specs.Seen.{candidate_seen}
use Rattle.fts_eval.specs.Found.{ids_of}
use Rattle.fts_eval.specs.Says.{says, each_says, some_says}
use Rattle.fts_eval.proofs.Parts.{by_optional, by_required, if_list, and_assoc, is_none, is_some}
use Rattle.std.proofs.Common.{refl}
use Rattle.fts_eval.proofs.eval.+keeping.Goals as goal

pub kept-returns-then-is_empty : goal.kept-returns-then-is_empty
kept-returns-then-is_empty t c =
    let texts = map candidate_seen c.args.texts.now in
    let ids = c.args.ids.now in
    let excluded = c.as_slice-then-is_empty.result.now in
    if_list (ids_of c.in_ok-left-in-Group.field-0) (λ (id : ℕ). has ids id && says texts id c.args.part.now) c.into_list.result
    (λ id. c.in_ok-left-in-Group.ensures id
    ∙ ap (λ (b : Bool). b && not (some_says texts excluded id)) (c.in_ok-any_kept-in-Group.ensures id)
    ∙ and_assoc (has ids id) (some_says texts c.as_slice.result.now id) (not (some_says texts excluded id))
    ∙ ap (λ (b : Bool). has ids id && b) (by_optional texts c.args.part.now c.in-Group.required c.in-Group.optional c.in-Group.excluded c.in-Group.is c.as_slice-required.result.now c.as_slice.result.now excluded c.as_slice-required.ensures.value c.as_slice.ensures.value c.as_slice-then-is_empty.ensures.value (is_none _ c.is_empty.result c.is_empty.ensures c.if-is_empty.true) id))
    c.into_list.ensures

pub kept-returns-in_ok-left-in-Group-2 : goal.kept-returns-in_ok-left-in-Group-2
kept-returns-in_ok-left-in-Group-2 t c =
    let texts = map candidate_seen c.args.texts.now in
    let ids = c.args.ids.now in
    let excluded = c.as_slice-in-Group.result.now in
    if_list (ids_of c.in_ok-left-in-Group-2.field-0) (λ (id : ℕ). has ids id && says texts id c.args.part.now) c.into_list-in-Group.result
    (λ id. c.in_ok-left-in-Group-2.ensures id
    ∙ ap (λ (b : Bool). b && not (some_says texts excluded id)) (c.in_ok-ids-in-Group.ensures id)
    ∙ and_assoc (has ids id) (each_says texts c.as_slice-required.result.now id) (not (some_says texts excluded id))
    ∙ ap (λ (b : Bool). has ids id && b) (by_required texts c.args.part.now c.in-Group.required c.in-Group.optional c.in-Group.excluded c.in-Group.is c.as_slice-required.result.now c.in-Group.optional.items excluded c.as_slice-required.ensures.value refl c.as_slice-in-Group.ensures.value (is_some _ c.is_empty.result c.is_empty.ensures c.if-is_empty.false) id))
    c.into_list-in-Group.ensures
