use Rattle.std.proofs.Common.{rules, ◌≡◌, ◌<◌, ◌+◌, ◌++◌, ◌∷◌, [], sum_by, arith, ap, sym, subst, ◌∙◌, map, deque_len, deque_capacity}
use Rattle.std.proofs.lemmas.List.{map-append}
use Rattle.std.proofs.lemmas.List.Sums.{sum_by_push, sum_by-cons}
use Rattle.fts_cache.specs.declared.cache.Cached.{Cached}
use Rattle.fts_cache.specs.Document.{Document, document_size, bytes_in}
use Rattle.fts_cache.specs.Cache.{CachedDocument, CacheState, Ids, AreNumbers, cache_size}
use Rattle.fts_cache.specs.Words.{queue_in, AreNumbersOf}
use Rattle.fts_cache.specs.Kept.{kept, NoteWords}
use Rattle.fts_cache.proofs.Ids.{ids_push}
use Rattle.fts_cache.proofs.Notes.{note_one_more}
use Rattle.fts_cache.proofs.Promises.{promise_first, promise_rest}
use Rattle.fts_cache.proofs.cache.Cache.add.Goals as goal

pub invariant_of-self : goal.invariant_of-self
invariant_of-self c =
    let i = c.self.inside in
    let own : Cached = record { id = c.id-id.result; size = c.size-size.result; numbers = c.take_promise-numbers.result } in
    let d : CachedDocument = record { id = c.id-id.result; size = c.size-size.result } in
    let items : c.push_back.new.self.items ≡ i.documents.items ++ own ∷ [] = search rules in
    let shown : kept c.push_back.new.self.items ≡ kept i.documents.items ++ d ∷ []
    = ap kept items ∙ map-append (λ (e : Cached). let s : CachedDocument = record { id = e.id; size = e.size } in s) i.documents.items (own ∷ []) in
    let last = ap (λ s. s.last) c.self.view_is in
    let numbers : AreNumbersOf i.words c.args.document.now.words own.numbers.items
    = promise_first i.words c.args.document.now [] (map (λ n. n.items) i.promised.items) own.numbers.items (map (λ n. n.items) c.take_promise-numbers.new.promised.items) c.take_promise-numbers.ensures
    (subst (λ (s : CacheState). AreNumbers s.words (c.args.document.now ∷ []) s.promised) (sym c.self.view_is) c.requires.room.numbers) in
    record {
      ends = λ w. omega (arith, (c.add_document.ensures.added w).last, c.id-id.ensures.value);
      ids = subst (Ids 0 c.id-id.result) (sym shown) (ids_push 0 i.last (kept i.documents.items) d c.self.invariant.ids (omega (arith, last, c.requires.above, c.id-id.ensures.value)));
      noted = subst (NoteWords c.add_document.new.words) (sym items)
          (note_one_more i.words c.add_document.new.words i.documents.items own c.args.document.now c.id-id.ensures.value numbers c.add_document.ensures.numbers (λ w. (c.add_document.ensures.added w).postings) c.self.invariant.noted);
      size_is = omega (arith, c.self.invariant.size_is, c.from.ensures, ap (sum_by (λ (e : CachedDocument). e.size)) shown, sum_by_push (λ (e : CachedDocument). e.size) (kept i.documents.items) d);
    }

pub returns-clause-room : goal.returns-clause-room
returns-clause-room c = λ more h.
    let i = c.self.inside in
    let d = c.args.document.now in
    let h' = subst (λ (s : CacheState). AreNumbers s.words (d ∷ more) s.promised) (sym c.self.view_is) h.numbers in
    let own : Cached = record { id = c.id-id.result; size = c.size-size.result; numbers = c.take_promise-numbers.result } in
    let now : CachedDocument = record { id = c.id-id.result; size = c.size-size.result } in
    let items : c.push_back.new.self.items ≡ i.documents.items ++ own ∷ [] = search rules in
    let shown : kept c.push_back.new.self.items ≡ kept i.documents.items ++ now ∷ []
    = ap kept items ∙ map-append (λ (e : Cached). let s : CachedDocument = record { id = e.id; size = e.size } in s) i.documents.items (own ∷ []) in
    let spare = ap (λ s. s.spare) c.self.view_is in
    let lt : deque_len i.documents < deque_capacity i.documents = omega (arith, h.documents, spare) in
    let len : deque_len c.push_back.new.self ≡ deque_len i.documents + 1 = search rules in
    record {
      room = λ w. omega (arith, h.room w, (c.add_document.ensures.added w).room, sum_by-cons (λ (x : Document). bytes_in w x.words) d more, ap (λ (s : CacheState). (queue_in s.words w).room) c.self.view_is);
      numbers = promise_rest i.words c.add_document.new.words d more (map (λ n. n.items) i.promised.items) c.take_promise-numbers.result.items (map (λ n. n.items) c.take_promise-numbers.new.promised.items) c.take_promise-numbers.ensures c.add_document.ensures.numbers h';
      documents = omega (arith, h.documents, spare, len, c.push_back.ensures.in_place lt);
      size = omega (arith, h.size, sum_by-cons document_size d more, ap cache_size c.self.view_is, ap (sum_by (λ (e : CachedDocument). e.size)) shown, sum_by_push (λ (e : CachedDocument). e.size) (kept i.documents.items) now, c.size-size.ensures);
    }
