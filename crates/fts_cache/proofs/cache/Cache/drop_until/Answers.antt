use Rattle.std.proofs.Common.{◌≤◌, arith, sym, subst}
use Rattle.fts_cache.specs.Cache.{Ids}
use Rattle.fts_cache.specs.Kept.{kept}
use Rattle.fts_cache.proofs.Ids.{ids_behind, ids_to}
use Rattle.fts_cache.proofs.cache.Cache.drop_until.Goals as goal

pub invariant_of-self : goal.invariant_of-self
invariant_of-self c =
    let i = c.self.inside in
    let last = c.max-self-inside.result in
    let up : i.last ≤ last = omega (arith, c.max-self-inside.ensures) in
    record {
      ends = λ w. omega (arith, up, c.drop_documents-size.ensures.last w, c.self.invariant.ends w);
      ids = subst (Ids 0 last) (sym c.drop_documents-size.ensures.documents) (ids_behind c.args.doc 0 last (kept i.documents.items) (ids_to 0 i.last last (kept i.documents.items) up c.self.invariant.ids));
      noted = c.drop_documents-size.ensures.noted;
      size_is = omega (arith, c.self.invariant.size_is, c.drop_documents-size.ensures.size);
    }
