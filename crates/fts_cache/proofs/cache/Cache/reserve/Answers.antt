use Rattle.std.proofs.Common.{◌+◌, ap, ◌∙◌, subst}
use Rattle.std.specs.List.{concat}
use Rattle.fts_cache.specs.Document.{bytes_of}
use Rattle.fts_cache.specs.Words.{GivesUp}
use Rattle.fts_cache.proofs.Queues.{on_ok}
use Rattle.fts_cache.proofs.Rooms.{left_after}
use Rattle.fts_cache.proofs.cache.Cache.reserve.Goals as goal

pub returns-clause-held : goal.returns-clause-held
returns-clause-held c =
    on_ok c.reserve_documents.result _ _
    (λ room w. room w ∙ ap (λ n. n + bytes_of w c.args.documents.now)
    (left_after c.args.self.now c.release_promised.new.words w (subst (λ s. GivesUp (concat s.promised) s.words c.release_promised.new.words w) c.self.view_is (c.release_promised.ensures.room w))))
    c.reserve_documents.ensures.room
