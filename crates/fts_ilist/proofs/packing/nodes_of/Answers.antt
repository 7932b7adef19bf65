use Rattle.std.proofs.Common.{◌≢◌, ◌++◌, ◌∷◌, [], List, All, ap, sym, subst, ◌∙◌}
use Rattle.std.proofs.lemmas.List.{append_assoc}
use Rattle.std.proofs.lemmas.List.Elements.{All-tail}
use Rattle.fts_ilist.specs.Node.{Docs}
use Rattle.fts_ilist.proofs.packing.nodes_of.Goals as goal

pub loop-list-preserved : goal.loop-list-preserved
loop-list-preserved c =
    let old = c.loop-list.nodes in
    let rest = c.next.new.self.rest.items in
    let list = c.in-Some.list in
    record {
      can_next = tt;
      is_finite = tt;
      same = ap (λ (docs : List Docs). docs ++ rest) (c.in_ok-push.ensures.ok ∙ ap (λ (d : Docs). old ++ d ∷ []) c.new.ensures)
          ∙ append_assoc old (list ∷ []) rest
          ∙ ap (λ (docs : List Docs). old ++ docs) (sym c.in-Some.ensures.steps.0)
          ∙ c.loop-list.invariant.same;
      filled = All-tail (λ (docs : Docs). docs ≢ []) list rest (subst (All (λ (docs : Docs). docs ≢ [])) c.in-Some.ensures.steps.0 c.loop-list.invariant.filled);
    }
