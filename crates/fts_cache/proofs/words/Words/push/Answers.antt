use Rattle.fts_cache.proofs.Used.{pushed_kept}
use Rattle.fts_cache.proofs.words.Words.push.Goals as goal

pub invariant_of-self : goal.invariant_of-self
invariant_of-self c =
    let i = c.self.inside in
    pushed_kept c.args.number c.args.doc c.args.positions.now i.numbers.entries i.slots.slots c.push_at.new.slots.slots i.order i.idle.items c.self.invariant c.push_at.ensures
