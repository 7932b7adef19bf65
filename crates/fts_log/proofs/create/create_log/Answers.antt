use Rattle.std.proofs.Common.{List, ℕ, ◌++◌, [], ◌∷◌, refl, sym, ◌∙◌, ap, append-nil, arith}
use Rattle.fts_log.proofs.create.create_log.Goals as goal

pub returns-in-Ok-clause-created : goal.returns-in-Ok-clause-created
returns-in-Ok-clause-created g c told = record {
  is_log = record { gate = 0; rest = []; closed = λ e. cc; bytes = c.in-Ok.ensures.bytes told ∙ ap (λ (front : List ℕ). front ++ 0 ∷ []) (sym (append-nil c.args.magic)); fit = λ k d small. omega arith };
  «end» = rw append-nil (omega (arith, c.start.ensures.width));
  durable = λ files may. c.in-Ok.ensures.durable told files may 0;
  count = refl;
  ends = refl;
}
