use Rattle.std.proofs.Common.{◌∙◌, ⊎_elim, inl, inr, arith}
use Rattle.std.specs.Iterator.Adapters.{zip_first, zip_second}
use Rattle.fts_engine.proofs.Candidates.{none_paired}
use Rattle.fts_engine.proofs.looking.paired.Goals as goal

pub returns-clause-paired : goal.returns-clause-paired
returns-clause-paired c =
    let first = (zip_first c.loop-leaf.leaf-iterator).rest in
    let second = (zip_second c.loop-leaf.leaf-iterator).rest in
    none_paired _ first.items second.items
    (⊎_elim (λ ended. inl (omega (arith, ended.1.0, first.ok.0))) (λ ended. inr (omega (arith, ended.1.0, second.ok.0))) c.in-None.ensures.steps)
    ∙ c.loop-leaf.invariant.paired
