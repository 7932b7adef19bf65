use Rattle.std.proofs.Common.{ap, sym, ◌∙◌}
use Rattle.std.proofs.lemmas.Bool.{false≢true}
use Rattle.fts_ilist.specs.Packing.{packed}
use Rattle.fts_ilist.proofs.Packs.{packed_all}
use Rattle.fts_ilist.proofs.packing.Packing.finish.Goals as goal

pub returns : goal.returns
returns c =
    c.in_ok-push.ensures.items
    ∙ sym (packed_all c.self.inside.closed.items c.self.inside.begun c.self.invariant (λ none. false≢true (sym c.if-is_empty.false ∙ c.is_empty.ensures.1 none)))
    ∙ ap packed c.self.view_is
