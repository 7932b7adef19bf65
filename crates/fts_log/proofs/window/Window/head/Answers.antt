use Rattle.std.proofs.Common.{◌≡◌, ◌+◌, ◌-◌, ℕ, List, take, drop, min, length, sym, ◌∙◌, ap, arith}
use Rattle.fts_log.proofs.Places.{window_part, first_five}
use Rattle.fts_log.proofs.window.Window.head.Goals as goal

pub returns : goal.returns
returns c = record {
  bytes = λ file size shows.
      let from = c.args.at - c.args.self.now.start in
      let wanted = min (c.args.file_length - c.args.at) 5 in
      let same : from + c.min-wanted.result - from ≡ min (length file - c.args.at) 5 = omega (arith, size, c.min-wanted.ensures) in
      let part = window_part c.args.self.now.bytes.items file c.args.self.now.start c.args.at from wanted shows (omega (arith, c.requires.start)) c.requires.size in
      ap (λ (xs : List ℕ). take (from + c.min-wanted.result - from) (drop from xs)) c.deref.ensures.value
      ∙ ap (λ (n : ℕ). take n (drop from c.args.self.now.bytes.items)) (omega (arith, c.min-wanted.ensures)) ∙ part
      ∙ ap (λ (n : ℕ). take (min (n - c.args.at) 5) (drop c.args.at file)) (sym size) ∙ first_five file c.args.at;
}
