use Rattle.std.proofs.Common.{arith, ◌≡◌, ◌+◌, ◌-◌, ◌%◌, ◌<◌, ◌++◌, ap, sym, ◌∙◌, drop}
use Rattle.std.proofs.lemmas.List.{length-set}
use Rattle.fts_ilist.specs.Number.{number_bytes}
use Rattle.fts_ilist.proofs.Groups.{all_groups, length_number, length_all_groups}
use Rattle.fts_ilist.proofs.Codec.{writes_last, writes_group, groups_positive}
use Rattle.fts_ilist.proofs.number.put_number.Goals as goal

pub overflow_sub-at : goal.overflow_sub-at
overflow_sub-at c = omega (arith, length_number c.args.n)

pub loop-at-init : goal.loop-at-init
loop-at-init c =
    let at = c.number_len-len.result - 1 in
    let e : at + 1 ≡ c.number_len-len.result = omega (arith, length_number c.args.n) in
    record {
      groups_left = omega (arith, length_number c.args.n);
      within = omega (arith, length-set c.args.buf.now at (c.args.n % 128 + 128));
      written = ap (λ w. number_bytes c.args.n ++ drop w c.args.buf.now) (sym e) ∙ writes_last c.args.n at c.args.buf.now (omega arith) (omega arith);
    }

pub loop-at-preserved : goal.loop-at-preserved
loop-at-preserved c =
    let at = c.loop-at.at - 1 in
    let e : c.loop-at.at ≡ at + 1 = omega arith in
    let positive : 0 < c.loop-at.rest = groups_positive c.loop-at.rest (omega arith) in
    record {
      groups_left = omega (arith, length_all_groups c.loop-at.rest positive);
      within = omega (arith, length-set c.loop-at.buf at (c.loop-at.rest % 128));
      written = writes_group c.loop-at.rest at c.loop-at.buf _ (omega arith) (omega arith)
          (c.loop-at.invariant.written ∙ ap (λ w. all_groups c.loop-at.rest ++ drop w c.loop-at.buf) e);
    }
