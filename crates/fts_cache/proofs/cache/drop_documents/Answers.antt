use Rattle.std.proofs.Common.{arith, ap, sym, subst, ◌∙◌}
use Rattle.fts_ilist.specs.Queue.{postings_behind}
use Rattle.fts_cache.specs.Cache.{CachedDocument}
use Rattle.fts_cache.specs.Words.{queue_in, number_in, left_of}
use Rattle.fts_cache.specs.Kept.{kept, NoteWords}
use Rattle.fts_cache.proofs.Ids.{popped, all_above}
use Rattle.fts_cache.proofs.Notes.{note_rest, behind_left, rest_above}
use Rattle.fts_cache.proofs.cache.drop_documents.Goals as goal

pub loop-first-preserved : goal.loop-first-preserved
loop-first-preserved c =
    let first = c.in-Some.first in
    let d : CachedDocument = record { id = first.id; size = first.size } in
    let h = c.in-Some.ensures.some in
    let inv = c.loop-first.invariant in
    let p = popped c.args.doc d (kept c.loop-first.documents.items) (kept c.pop_until.new.documents.items) (ap kept h.0) h.1 inv.ascend in
    record {
      ascend = p.ascend;
      behind = p.behind ∙ inv.behind;
      size = omega (arith, p.size, inv.size, c.from-size.ensures);
      noted = note_rest c.loop-first.words c.drop_left.new.words c.args.doc first c.pop_until.new.documents.items h.1 (subst (NoteWords c.loop-first.words) h.0 inv.noted) c.drop_left.ensures.numbers
          (λ w. c.drop_left.ensures.postings w ∙ ap (λ ns. left_of c.args.doc ns (number_in c.loop-first.words w) (queue_in c.loop-first.words w).postings) c.deref.ensures.value);
      postings = λ w. ap (postings_behind c.args.doc) (c.drop_left.ensures.postings w) ∙ behind_left c.args.doc c.deref.result.now (number_in c.loop-first.words w) (queue_in c.loop-first.words w).postings ∙ inv.postings w;
      done = c.drop_left.ensures.done;
      last = λ w. omega (arith, c.drop_left.ensures.last w, inv.last w);
    }

pub returns-clause-documents : goal.returns-clause-documents
returns-clause-documents c =
    let h = c.in_default.ensures.none in
    ap kept h.0 ∙ sym (all_above c.args.doc (kept c.loop-first.documents.items) h.1 c.loop-first.invariant.ascend) ∙ c.loop-first.invariant.behind

pub returns-clause-postings : goal.returns-clause-postings
returns-clause-postings c =
    let h = c.in_default.ensures.none in
    let inv = c.loop-first.invariant in
    λ w. sym (rest_above c.loop-first.words c.args.doc c.loop-first.documents.items h.1 inv.ascend inv.noted w) ∙ inv.postings w
