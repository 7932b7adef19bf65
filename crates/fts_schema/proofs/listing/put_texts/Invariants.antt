use Rattle.std.proofs.Common.{drop, map}
use Rattle.fts_schema.proofs.Putting.{IsPutting}
use Rattle.fts_schema.proofs.listing.put_texts.Given as goal

abbrev pub invariant-loop-text : goal.invariant-loop-text
invariant-loop-text l =
    IsPutting l.initial.rows l.rows (map (λ text. text.now) (drop l.text-index l.texts)) (map (λ text. text.now) l.texts)
