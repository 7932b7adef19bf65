use Rattle.std.proofs.Common.{ℕ, List, length, subst, sym, ap, arith, ◌∙◌}
use Rattle.std.specs.Prelude.{slice_get, map}
use Rattle.std.proofs.lemmas.List.{length-map}
use Rattle.fts_script.specs.Script.{line_of, lines_in}
use Rattle.fts_script.specs.Group.{share_of, shares_of}
use Rattle.fts_script.specs.declared.grouping.Group.{Group}
use Rattle.fts_script.specs.Merge.{items_of, AreApart, AreFree, Scatters}
use Rattle.fts_script.proofs.Putting.{IsMerging, whole_front, shorter_front, one_count, own_in, share_at, merge_none, merge_apart, merge_free, merge_past, merge_next, merge_all}
use Rattle.fts_script.proofs.merging.merge_replies.Goals as goal

pub loop-own-init : goal.loop-own-init
loop-own-init g c =
    let count = sym (length-map c.lines.result.now line_of) ∙ ap length c.lines.ensures in record {
      rest = whole_front c.args.replies.items;
      merging = subst (λ (n : ℕ). IsMerging (lines_in c.args.script.now) (shares_of c.args.groups.now) (map items_of c.args.replies.items) n c.in_ok-all.all.items)
          (length-map c.args.replies.items items_of)
          (merge_none (lines_in c.args.script.now) (shares_of c.args.groups.now) (map items_of c.args.replies.items) c.requires c.in_ok-all.all.items (length c.lines.result.now) count
          c.in_ok-all.ensures);
    }

pub put_replies-requires-clause-apart : goal.put_replies-requires-clause-apart
put_replies-requires-clause-apart g c =
    subst AreApart (sym (c.deref.ensures.value ∙ ap (λ (g : Group). g.places.items) (sym c.index-groups-at.is)))
    (merge_apart (lines_in c.args.script.now) (shares_of c.args.groups.now) (map items_of c.args.replies.items) c.requires c.len-at.result (share_of c.index-groups-at.result)
    (share_at c.args.groups.now c.len-at.result c.index-groups-at.result c.if-at-groups.true c.index-groups-at.is))

pub put_replies-requires-clause-free : goal.put_replies-requires-clause-free
put_replies-requires-clause-free g c =
    let here = c.len-at.ensures ∙ c.pop.new.self.ok.0 in
    subst (λ (places : List ℕ). AreFree places c.loop-own.all.items) (sym (c.deref.ensures.value ∙ ap (λ (g : Group). g.places.items) (sym c.index-groups-at.is)))
    (merge_free (lines_in c.args.script.now) (shares_of c.args.groups.now) (map items_of c.args.replies.items) c.requires c.len-at.result (length c.loop-own.left.items)
    (share_of c.index-groups-at.result) c.loop-own.all.items
    (let next = one_count c.pop.new.self.items c.loop-own.left.items c.in-Some.own c.in-Some.ensures.items in omega (arith, here, next))
    (share_at c.args.groups.now c.len-at.result c.index-groups-at.result c.if-at-groups.true c.index-groups-at.is) c.loop-own.invariant.merging)

pub loop-own-preserved-then-at-groups : goal.loop-own-preserved-then-at-groups
loop-own-preserved-then-at-groups g c =
    let here = c.len-at.ensures ∙ c.pop.new.self.ok.0 in record {
      rest = shorter_front c.args.replies.items c.pop.new.self.items c.loop-own.left.items c.in-Some.own c.loop-own.invariant.rest c.in-Some.ensures.items;
      merging =
          merge_next (lines_in c.args.script.now) (shares_of c.args.groups.now) (map items_of c.args.replies.items) c.requires (length c.pop.new.self.items) (length c.loop-own.left.items)
          (share_of c.index-groups-at.result) c.in-Some.own.items c.loop-own.all.items c.put_replies.new.all.items
          (one_count c.pop.new.self.items c.loop-own.left.items c.in-Some.own c.in-Some.ensures.items)
          (ap (slice_get (shares_of c.args.groups.now)) (sym here)
          ∙ share_at c.args.groups.now c.len-at.result c.index-groups-at.result c.if-at-groups.true c.index-groups-at.is)
          (own_in c.args.replies.items c.pop.new.self.items c.loop-own.left.items c.in-Some.own c.loop-own.invariant.rest c.in-Some.ensures.items)
          c.loop-own.invariant.merging
          (subst (λ (places : List ℕ). Scatters places c.in-Some.own.items c.loop-own.all.items c.put_replies.new.all.items)
          (c.deref.ensures.value ∙ ap (λ (g : Group). g.places.items) (sym c.index-groups-at.is)) c.put_replies.ensures);
    }

pub loop-own-preserved : goal.loop-own-preserved
loop-own-preserved g c =
    let here = c.len-at.ensures ∙ c.pop.new.self.ok.0 in record {
      rest = shorter_front c.args.replies.items c.pop.new.self.items c.loop-own.left.items c.in-Some.own c.loop-own.invariant.rest c.in-Some.ensures.items;
      merging =
          merge_past (lines_in c.args.script.now) (shares_of c.args.groups.now) (map items_of c.args.replies.items) c.requires (length c.pop.new.self.items) (length c.loop-own.left.items)
          c.loop-own.all.items (one_count c.pop.new.self.items c.loop-own.left.items c.in-Some.own c.in-Some.ensures.items)
          (let past = c.if-at-groups.false in let count = length-map c.args.groups.now share_of in omega (arith, past, here, count)) c.loop-own.invariant.merging;
    }

pub returns : goal.returns
returns g c =
    merge_all (lines_in c.args.script.now) (shares_of c.args.groups.now) (map items_of c.args.replies.items) c.requires c.loop-own.all.items
    (subst (λ (n : ℕ). IsMerging (lines_in c.args.script.now) (shares_of c.args.groups.now) (map items_of c.args.replies.items) n c.loop-own.all.items)
    (sym c.loop-own.left.ok.0 ∙ c.in_default.ensures.cases.0) c.loop-own.invariant.merging)
