use Rattle.std.proofs.Common.{drop}
use Rattle.fts_cache.specs.Cache.{HasRoom}
use Rattle.fts_parts_tests.proofs.cache.add_all.Given as goal

abbrev pub invariant-loop-document : goal.invariant-loop-document
invariant-loop-document l = HasRoom l.cache (drop l.document-index l.documents)
