use Rattle.std.proofs.Common.{◌≡◌, ℕ, suc, ◌+◌, Bool, List, sym, ap, ◌∙◌, cond, arith, drop, [], Some}
use Rattle.std.specs.Str.{str_eq_ignore_ascii_case}
use Rattle.std.specs.Prelude.{slice_index_or}
use Rattle.fts_sessions.specs.Table.{text_for}
use Rattle.fts_sessions.proofs.Setting.{text_step, text_end}
use Rattle.fts_sessions.proofs.asked.text_for.Goals as goal

pub returns-then-place-len : goal.returns-then-place-len
returns-then-place-len c =
    c.loop-place.invariant
    ∙ text_end c.args.column.now c.args.names.now c.args.texts.now c.loop-place.place (omega (arith, c.if-place-len.true, c.len.ensures))

pub loop-place-preserved : goal.loop-place-preserved
loop-place-preserved c =
    let column = c.args.column.now in
    let names = c.args.names.now in
    let texts = c.args.texts.now in
    let place = c.loop-place.place in
    let step = text_step column names texts place (omega (arith, c.loop-place-test.true, c.len-place-end.ensures)) (omega (arith, c.if-place-len.false, c.len.ensures)) in
    let other = ap (λ (name : List ℕ). str_eq_ignore_ascii_case name column) (sym c.text.ensures) ∙ sym c.is_same.ensures ∙ c.if-is_same.false in
    c.loop-place.invariant ∙ step
    ∙ ap (λ (b : Bool). cond b (Some (slice_index_or texts place [])) (text_for column (drop (suc place) names) (drop (suc place) texts))) other
    ∙ ap (λ (n : ℕ). text_for column (drop n names) (drop n texts)) (let next : suc place ≡ place + 1 = omega arith in next)
