use Rattle.std.proofs.Common.{◌++◌, ap, sym, ◌∙◌}
use Rattle.fts_lists.specs.State.{ids_of}
use Rattle.fts_lists.specs.declared.lists.DeleteList.TheVariants.{DeletedCache}
use Rattle.fts_ilist.specs.Packing.{joined}
use Rattle.fts_cache.specs.Cache.{postings_of}
use Rattle.fts_sync.specs.Leaving.{filled_word, some_dead}
use Rattle.fts_sync.proofs.Until.{none_of_nodes}
use Rattle.fts_sync.proofs.Words.{one_filled}
use Rattle.fts_sync.proofs.sealing.put_word.Goals as goal

pub returns-then-not-have_dead : goal.returns-then-not-have_dead
returns-then-not-have_dead c =
    let dead = ids_of DeletedCache c.args.lists.now in
    let word = c.args.word in
    c.in_ok-push.ensures.items
    ∙ ap (λ ws. c.args.nodes.now.items ++ ws)
    (one_filled word.0 word.1 c.requires.some
    ∙ ap (filled_word word.0) (none_of_nodes c.args.doc dead (postings_of c.args.cache.now word.0) word.1 c.requires.same
    (sym (ap (λ ns. some_dead dead (joined ns)) c.nodes.ensures) ∙ sym c.have_dead.ensures ∙ c.if-not-have_dead.true)))
