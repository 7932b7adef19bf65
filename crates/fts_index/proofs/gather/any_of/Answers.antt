use Rattle.std.proofs.Common.{ap, arith, ◌∙◌}
use Rattle.std.specs.List.{list_any}
use Rattle.std.proofs.lemmas.List.{take_all}
use Rattle.fts_ids.specs.Ids.{has}
use Rattle.fts_index.proofs.Gathering.{told_so}
use Rattle.fts_index.proofs.gather.any_of.Goals as goal

pub returns : goal.returns
returns c =
    let lists = c.args.lists.now in
    record {
      ascend = c.united.ensures.ascend;
      each = told_so c.united.result _ _ c.united.ensures.each
          (λ id. ap (list_any (λ list. has list.now id)) c.deref.ensures.value ∙ c.loop-list.invariant id ∙ ap (list_any (λ list. has list id)) (take_all c.loop-list.list-index lists (omega (arith, c.loop-list-test.false))));
    }
