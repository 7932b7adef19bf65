use Rattle.std.proofs.Common.{length, sym, ap, subst, ◌∙◌}
use Rattle.std.proofs.lemmas.Result.{err_from_is_err_and}
use Rattle.fts_ilist.specs.Reading.{IsList, IsTail, postings_in}
use Rattle.fts_ilist.specs.Spelling.{first_id}
use Rattle.fts_ilist.proofs.Faults.{one_fault}
use Rattle.fts_ilist.proofs.Postings.{postings_in-bytes}
use Rattle.fts_ilist.proofs.Lists.{read_list, list_has_no_fault, list_tail}
use Rattle.fts_ilist.proofs.list.parse.Goals as goal

pub returns-in_err-last-clause-refused : goal.returns-in_err-last-clause-refused
returns-in_err-last-clause-refused c = λ at f.
    let p = err_from_is_err_and c.from_residual.result c.from_residual.ensures.1 in
    rw (p.1, p.2) (one_fault _ _ _ c.in_err-last.ensures.fault f)

pub invariant_of-result : goal.invariant_of-result
invariant_of-result c = record {
  list = subst (IsList c.in_ok-last.last) (sym c.in_ok-bytes.ensures.items) (read_list c.args.bytes.now c.in_ok-last.last c.in_ok-last.ensures.found);
  first_is = c.first_of-first.ensures ∙ ap (λ b. first_id (postings_in 0 b)) c.deref.ensures.value;
  count_is = c.in_ok-last.ensures.count ∙ ap (λ b. length (postings_in 0 b)) (sym c.in_ok-bytes.ensures.items);
}

pub first_of-first-requires : goal.first_of-first-requires
first_of-first-requires c =
    let l = read_list c.args.bytes.now c.in_ok-last.last c.in_ok-last.ensures.found in
    subst (IsTail 0) (sym (c.deref.ensures.value ∙ c.in_ok-bytes.ensures.items)) (list_tail c.in_ok-last.last c.args.bytes.now l)

pub returns-clause-found : goal.returns-clause-found
returns-clause-found c =
    let l = subst (IsList c.in_ok-last.last) (sym c.in_ok-bytes.ensures.items) (read_list c.args.bytes.now c.in_ok-last.last c.in_ok-last.ensures.found) in
    (l.are, sym c.in_ok-bytes.ensures.items ∙ l.spelled)

pub returns-clause-read_back : goal.returns-clause-read_back
returns-clause-read_back c = λ ps are e. ap (postings_in 0) (c.in_ok-bytes.ensures.items ∙ e) ∙ postings_in-bytes 0 ps are

pub returns-clause-refused : goal.returns-clause-refused
returns-clause-refused c = λ at f. list_has_no_fault c.args.bytes.now c.in_ok-last.last at (read_list c.args.bytes.now c.in_ok-last.last c.in_ok-last.ensures.found) f
