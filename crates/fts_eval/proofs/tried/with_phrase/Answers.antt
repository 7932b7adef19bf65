use Rattle.std.proofs.Common.{◌≡◌, ◌<◌, ℕ, Bool, List, get_or, length, map, ap, sym, ◌∙◌, arith}
use Rattle.fts_ids.proofs.Passing.{chosen_yes, chosen_no}
use Rattle.fts_meaning.specs.Holds.{stand_together}
use Rattle.fts_query.specs.Seen.{candidate_seen}
use Rattle.fts_ids.proofs.Taken.{chosen_ascends_all}
use Rattle.fts_eval.proofs.Rows.{TellTexts, tell_on, tell_sooner, chosen_has_all}
use Rattle.fts_eval.proofs.tried.with_phrase.Goals as goal
use Rattle.fts_eval.proofs.tried.with_phrase.Goals.{then-row_has_phrase+in_ok-push, else-row_has_phrase}
use Rattle.fts_meaning.specs.View.{texts_at}

pub loop-id-preserved : goal.loop-id-preserved
loop-id-preserved c =
    let ids = c.as_slice-ids.result.now in
    let i = c.loop-id.id-index in
    let within : i < length ids = c.loop-id-test.true in
    let test : ℕ → Bool = λ id. stand_together (texts_at (map candidate_seen c.args.texts.now) id) c.args.words.now in
    let tell : TellTexts c.from_id-rest.result.now c.args.texts.now ids i = tell_on c.loop-id.rest.now c.from_id-rest.result.now c.args.texts.now ids i c.as_slice-ids.ensures.ascend c.loop-id.invariant.tell c.from_id-rest.ensures.kept within in
    let is : c.row_has_phrase.result ≡ test (get_or ids i 0) = c.row_has_phrase.ensures ∙ ap (λ (t : List (List ℕ)). stand_together t c.args.words.now) (tell i (omega arith) within) in
    elim c.if-row_has_phrase.branch [
      | then-row_has_phrase+in_ok-push w ↦ record {
        found = rw w.found-is (chosen_yes test ids c.loop-id.found.items _ i within (sym is ∙ w.if-row_has_phrase.true) c.loop-id.invariant.found w.in_ok-push.ensures.items);
        ascend = c.from_id-rest.ensures.ascend;
        tell = tell_sooner c.from_id-rest.result.now c.args.texts.now ids i tell;
      }
      | else-row_has_phrase w ↦ record {
        found = rw w.found-is (chosen_no test ids c.loop-id.found.items i within (sym is ∙ w.if-row_has_phrase.false) c.loop-id.invariant.found);
        ascend = c.from_id-rest.ensures.ascend;
        tell = tell_sooner c.from_id-rest.result.now c.args.texts.now ids i tell;
      }
    ]

pub new-requires : goal.new-requires
new-requires c =
    chosen_ascends_all (λ (id : ℕ). stand_together (texts_at (map candidate_seen c.args.texts.now) id) c.args.words.now) c.as_slice-ids.result.now c.loop-id.found.items c.loop-id.id-index c.as_slice-ids.ensures.ascend (omega arith) c.loop-id.invariant.found

pub returns : goal.returns
returns c =
    chosen_has_all (λ (id : ℕ). stand_together (texts_at (map candidate_seen c.args.texts.now) id) c.args.words.now) c.args.ids.now c.as_slice-ids.result.now c.loop-id.found.items c.new.result c.loop-id.id-index c.as_slice-ids.ensures.value (omega arith) c.loop-id.invariant.found c.new.ensures
