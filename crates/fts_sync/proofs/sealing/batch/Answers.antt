use Rattle.std.proofs.Common.{◌≢◌, List, [], ℕ, ap, sym, subst, ◌∙◌}
use Rattle.std.specs.List.{All}
use Rattle.std.specs.List.Sorted.{IsStrictlySortedBy}
use Rattle.std.specs.Map.{keys_of}
use Rattle.std.proofs.lemmas.Result.{IfOk-weaker}
use Rattle.std.proofs.lemmas.List.Elements.{All-from_recursion, recursion_from_All}
use Rattle.fts_words.specs.Order.{byte_order}
use Rattle.fts_ilist.specs.Node.{Docs, nodes_for}
use Rattle.fts_sync.specs.Leaving.{leaving_nodes, IsMade}
use Rattle.fts_sync.proofs.Words.{ascend, are_filled, exact_for, made_are, undead, filled_are}
use Rattle.fts_sync.proofs.sealing.batch.Goals as goal

pub all_alive-requires : goal.all_alive-requires
all_alive-requires c =
    let words = c.in_ok-words.words.items in
    All-from_recursion (λ e. IsMade c.args.cache.now c.args.doc e.0 e.1) words
    (made_are c.args.cache.now c.args.doc words (recursion_from_All _ words c.in_ok-words.ensures.nodes) (λ w. (c.in_ok-words.ensures.words w).0))

pub returns-then-is_empty-clause-filled : goal.returns-then-is_empty-clause-filled
returns-then-is_empty-clause-filled c =
    let words = c.in_ok-words.words.items in
    let made = made_are c.args.cache.now c.args.doc words (recursion_from_All _ words c.in_ok-words.ensures.nodes) (λ w. (c.in_ok-words.ensures.words w).0) in
    λ k d less. (All-from_recursion (λ e. IsMade c.args.cache.now c.args.doc e.0 e.1) words made k d less).some

pub returns-then-is_empty-clause-exact : goal.returns-then-is_empty-clause-exact
returns-then-is_empty-clause-exact c =
    let words = c.in_ok-words.words.items in
    let cache = c.args.cache.now in
    let lists = c.args.lists.now in
    let made = made_are cache c.args.doc words (recursion_from_All _ words c.in_ok-words.ensures.nodes) (λ w. (c.in_ok-words.ensures.words w).0) in
    λ word. ap (nodes_for word) (filled_are (leaving_nodes cache c.args.doc lists) words (undead cache c.args.doc lists (c.is_empty.ensures.0 c.if-is_empty.true) words made))
    ∙ exact_for cache c.args.doc lists (keys_of words) c.in_ok-words.ensures.ascending c.in_ok-words.ensures.words word

pub returns-clause-ascending : goal.returns-clause-ascending
returns-clause-ascending c =
    let nodes = leaving_nodes c.args.cache.now c.args.doc c.args.lists.now in
    let words = c.in_ok-words.words.items in
    IfOk-weaker c.all_alive.result _ _
    (λ found is. subst (λ (ws : List (List ℕ × List Docs)). IsStrictlySortedBy byte_order (keys_of ws)) (sym is)
    (ascend nodes (keys_of words) c.in_ok-words.ensures.ascending))
    c.all_alive.ensures

pub returns-clause-filled : goal.returns-clause-filled
returns-clause-filled c =
    let nodes = leaving_nodes c.args.cache.now c.args.doc c.args.lists.now in
    let words = c.in_ok-words.words.items in
    IfOk-weaker c.all_alive.result _ _
    (λ found is. subst (All (λ (e : List ℕ × List Docs). e.1 ≢ [])) (sym is)
    (All-from_recursion (λ (e : List ℕ × List Docs). e.1 ≢ []) _ (are_filled nodes (keys_of words))))
    c.all_alive.ensures

pub returns-clause-exact : goal.returns-clause-exact
returns-clause-exact c =
    let words = c.in_ok-words.words.items in
    IfOk-weaker c.all_alive.result _ _
    (λ found is word. ap (nodes_for word) is
    ∙ exact_for c.args.cache.now c.args.doc c.args.lists.now (keys_of words) c.in_ok-words.ensures.ascending c.in_ok-words.ensures.words word)
    c.all_alive.ensures
