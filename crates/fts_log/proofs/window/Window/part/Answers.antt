use Rattle.std.proofs.Common.{◌+◌, ◌-◌, ℕ, List, take, drop, ◌∙◌, ap, arith}
use Rattle.fts_log.proofs.Places.{window_part}
use Rattle.fts_log.proofs.window.Window.part.Goals as goal

pub returns : goal.returns
returns c = record {
  bytes = λ file shows.
      let from = c.args.at - c.args.self.now.start in
      let part = window_part c.args.self.now.bytes.items file c.args.self.now.start c.args.at from c.args.size shows (omega (arith, c.requires.start)) c.requires.size in
      ap (λ (xs : List ℕ). take (from + c.args.size - from) (drop from xs)) c.deref.ensures.value
      ∙ ap (λ (n : ℕ). take n (drop from c.args.self.now.bytes.items)) (omega arith) ∙ part;
}
