use Rattle.std.proofs.Common.{ℕ, Ok, ap}
use Rattle.fts_ilist.proofs.Codec.{reads_back}
use Rattle.fts_ilist.proofs.number.take_number.Goals as goal

pub returns-in-Some-clause-read_back : goal.returns-in-Some-clause-read_back
returns-in-Some-clause-read_back c = λ n rest lt e.
    ap (λ (w : ℕ × ℕ). Ok w) (reads_back c.in-Some.taken.0 c.in-Some.taken.1 n _ rest c.args.bytes.now c.in-Some.ensures.found c.in-Some.ensures.length e)
