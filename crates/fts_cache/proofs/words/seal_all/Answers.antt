use Rattle.std.proofs.Common.{◌≡◌, ℕ, List, [], ◌∷◌, ◌++◌, append_assoc, ap, ap₂, sym, ◌∙◌}
use Rattle.fts_ilist.specs.Cursor.{postings_until}
use Rattle.fts_ilist.specs.Node.{Docs}
use Rattle.fts_ilist.specs.Packing.{packed}
use Rattle.fts_cache.specs.Words.{sealed_all}
use Rattle.fts_cache.proofs.words.seal_all.Goals as goal

pub loop-entry-preserved : goal.loop-entry-preserved
loop-entry-preserved c =
    let doc = c.args.doc in
    let old = c.loop-entry.nodes.items in
    let entry = c.in-Some.entry in
    let rest = c.next.new.self.rest.items in
    let one : List ℕ × List Docs = (entry.0.now, packed (postings_until doc entry.1)) in
    let made : c.new.result ≡ one = c.new.ensures ∙ ap₂ (λ (w : List ℕ) (ns : List Docs). (w, ns)) c.in_ok-copied.ensures c.in_ok-packed.ensures in
    record {
      can_next = tt;
      is_finite = tt;
      same = ap (λ ns. ns ++ sealed_all doc rest) (c.in_ok-push.ensures.items ∙ ap (λ e. old ++ e ∷ []) made)
          ∙ append_assoc old (one ∷ []) (sealed_all doc rest)
          ∙ ap (λ es. old ++ sealed_all doc es) (sym c.in-Some.ensures.steps.0)
          ∙ c.loop-entry.invariant.same;
    }
