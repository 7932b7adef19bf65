use Rattle.std.proofs.Common.{List, ℕ, ◌++◌, take, length, sym, ap, ap₂, ◌∙◌, refl}
use Rattle.std.proofs.Math.Seq.{take-length}
use Rattle.std.proofs.lemmas.List.{take-append-drop}
use Rattle.fts_schema.specs.Reply.{ids_text}
use Rattle.fts_schema.proofs.Putting.{some_written, more_kept}
use Rattle.fts_schema.proofs.ids.push_ids.Goals as goal

pub loop-rest-init : goal.loop-rest-init
loop-rest-init c = record { whole = refl; kept = take-length c.args.text.now.items }

pub loop-rest-preserved : goal.loop-rest-preserved
loop-rest-preserved c =
    let start = c.args.text.now.items in
    let text = c.loop-rest.text.items in
    let rest = c.loop-rest.rest.now in
    let parts = c.split_at in
    let put = c.in_ok-push_some.ensures.text in
    record {
      whole = some_written start text c.push_some.new.text.items c.args.ids.now rest parts.result.0.now parts.result.1.now
          c.loop-rest.invariant.whole put
          (sym (take-append-drop c.min.result rest) ∙ ap₂ (λ (a b : List ℕ). a ++ b) (sym parts.ensures.front) (sym parts.ensures.back));
      kept = ap (take (length start)) put ∙ more_kept start text (ids_text parts.result.0.now) c.loop-rest.invariant.kept;
    }
