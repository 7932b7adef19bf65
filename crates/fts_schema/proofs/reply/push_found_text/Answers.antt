use Rattle.std.proofs.Common.{List, ℕ, ◌≡◌, take, length, subst}
use Rattle.fts_schema.proofs.Putting.{err_so, front_kept}
use Rattle.fts_schema.proofs.reply.push_found_text.Goals as goal

pub returns-in_err-push_ids-clause-kept : goal.returns-in_err-push_ids-clause-kept
returns-in_err-push_ids-clause-kept c =
    err_so _ _ (front_kept c.args.text.now.items _ c.push_ids.new.text.items
    (subst (λ (begun : List ℕ). take (length begun) c.push_ids.new.text.items ≡ begun) c.in_ok-extend_from_slice.ensures.items c.in_err-push_ids.ensures.kept))
