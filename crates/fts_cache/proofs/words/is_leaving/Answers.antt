use Rattle.fts_cache.proofs.Shown.{leaves_by_first}
use Rattle.fts_cache.proofs.words.is_leaving.Goals as goal

pub returns-in-Some : goal.returns-in-Some
returns-in-Some c = leaves_by_first c.args.doc c.in-Some.first c.args.queue.now c.first.ensures.are c.in-Some.ensures.first
