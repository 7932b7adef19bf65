use Rattle.std.proofs.Common.{◌≡◌, ◌+◌, ◌<◌, ℕ, List, [], true, length, get_or, sym, ap, ◌∙◌, arith}
use Rattle.std.specs.Str.{bytes_eq}
use Rattle.fts_plain.proofs.Joining.{among_at}
use Rattle.fts_plain.proofs.words.stands_among.Goals as goal

pub returns-then-eq : goal.returns-then-eq
returns-then-eq c =
    let all = c.args.all.now in
    let i = c.loop-i.i in
    let less : i < c.args.count = omega (arith, c.min-count.ensures) in
    let room : c.args.from + i < length all = omega (arith, c.min-count.ensures) in
    let same : bytes_eq (get_or all (c.args.from + i) []) c.args.word.now ≡ true = ap (λ (w : List ℕ). bytes_eq w c.args.word.now) (sym c.text.ensures) ∙ sym c.if-eq.ensures in
    among_at all c.args.from c.args.count i c.args.word.now less room same
