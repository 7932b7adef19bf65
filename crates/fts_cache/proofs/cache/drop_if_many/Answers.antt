use Rattle.std.proofs.Common.{ap, sym, ◌∙◌, arith}
use Rattle.fts_ilist.specs.Queue.{postings_behind}
use Rattle.fts_cache.specs.Words.{queue_in}
use Rattle.fts_cache.proofs.Documents.{behind_again}
use Rattle.fts_cache.proofs.Notes.{note_behind}
use Rattle.fts_cache.proofs.cache.drop_if_many.Goals as goal

pub returns-clause-postings : goal.returns-clause-postings
returns-clause-postings c =
    λ w. ap (postings_behind c.args.doc) (c.drop_all.ensures.postings w) ∙ behind_again c.args.doc c.args.doc (queue_in c.args.words.now w).postings (omega arith)

pub returns-clause-noted : goal.returns-clause-noted
returns-clause-noted c = note_behind c.args.words.now c.drop_all.new.words c.args.doc c.args.documents.now.items c.requires.noted c.drop_all.ensures.numbers c.drop_all.ensures.postings

pub returns-clause-done : goal.returns-clause-done
returns-clause-done c =
    λ is w. ap (postings_behind c.args.doc) (c.drop_all.ensures.postings w) ∙ behind_again c.args.doc c.args.doc (queue_in c.args.words.now w).postings (omega arith) ∙ sym (c.drop_all.ensures.postings w)
