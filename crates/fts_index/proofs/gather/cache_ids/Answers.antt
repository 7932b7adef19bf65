use Rattle.std.proofs.Common.{List, ℕ, ◌++◌, ap, ◌∙◌}
use Rattle.fts_index.specs.Gathered.{doc_ids}
use Rattle.fts_index.proofs.Gathering.{postings_ascend}
use Rattle.fts_index.proofs.gather.cache_ids.Goals as goal

pub without_dead-requires : goal.without_dead-requires
without_dead-requires c =
    postings_ascend c.push_ids.new.ids.items c.postings.result (c.in_ok-push_ids.ensures ∙ ap (λ (ids : List ℕ). ids ++ doc_ids c.postings.result) c.new-ids.ensures.items) c.postings.ensures.are
