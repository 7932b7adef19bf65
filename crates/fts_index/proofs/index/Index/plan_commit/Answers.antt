use Rattle.std.proofs.Common.{◌≡◌, ◌≤◌, length, map, subst, sym, arith, ap}
use Rattle.std.proofs.lemmas.List.{length-map}
use Rattle.fts_types.specs.Rules.{rules_of}
use Rattle.fts_types.specs.Row.{row_of}
use Rattle.fts_ids.specs.Ids.{Ascend}
use Rattle.fts_cache.specs.Cache.{HasRoom}
use Rattle.fts_index.specs.Stands.{StandsFor}
use Rattle.fts_index.proofs.Births.{documents_ascend}
use Rattle.fts_index.proofs.Commits.{stands_still}
use Rattle.fts_index.proofs.index.Index.plan_commit.Goals as goal

pub returns-clause-stays : goal.returns-clause-stays
unfolding StandsFor
returns-clause-stays c = stands_still c.args.self.now c.make_room.new.index c.make_room.ensures.same

pub returns-clause-planned : goal.returns-clause-planned
returns-clause-planned c =
    let before = c.args.self.now.cache.last in
    let documents = c.in_ok-documents.documents.items in
    let now = c.make_room.new.index in
    let same : c.in_ok-deaths.deaths.items ≡ c.args.deaths.now = c.in_ok-deaths.ensures.items_if_clones_equal (λ x y e. e) in
    let last : now.cache.last ≤ before = (let e = c.make_room.ensures.same.cache.last in omega (arith, e)) in
    record {
      words = c.in_ok-documents.ensures;
      pending = λ i. record { births = sym (length-map c.args.births.now row_of) i; deaths = same i; largest = c.args.largest };
      fits = record {
        ids = documents_ascend (rules_of c.args.settings.now) now.cache.last before c.args.largest (map row_of c.args.births.now) documents last c.requires.births.ids c.in_ok-documents.ensures;
        room = subst (HasRoom now.cache) c.deref.ensures.value c.in_ok-make_room.ensures.documents;
        ascend = subst Ascend (sym same) c.requires.ascending;
        dead = (let few = c.in_ok-make_room.ensures.deaths in omega (arith, few, c.len.ensures, c.in_ok-deaths.ensures.len, ap length same));
        queue = c.in_ok-make_room.ensures.queue;
      };
    }
