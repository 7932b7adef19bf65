use Rattle.std.proofs.Common.{ℕ, List, None, length, subst, sym, ap, arith, ◌∙◌}
use Rattle.std.specs.Prelude.{slice_get, slice_index_or}
use Rattle.std.proofs.lemmas.Option.{slice_get-get_or, slice_get_within}
use Rattle.fts_script.proofs.Putting.{IsPutting, whole_front, shorter_front, last_in, one_count, put_none, put_past, put_next, put_all}
use Rattle.fts_script.proofs.merging.put_replies.Goals as goal

pub loop-reply-init : goal.loop-reply-init
loop-reply-init g c = record {
  rest = whole_front c.args.own.items;
  putting = put_none c.args.places.now c.args.own.items c.args.all.now.items c.requires.apart c.requires.free;
}

pub put_reply-requires : goal.put_reply-requires
put_reply-requires g c =
    let here = slice_get-get_or c.args.places.now c.len-at.result 0 c.if-at-places.true in
    let within = slice_get_within c.args.all.now.items _ None (c.requires.free c.len-at.result _ here) in
    let same = c.loop-reply.invariant.putting.count in
    omega (arith, within, same)

pub loop-reply-preserved-then-at-places : goal.loop-reply-preserved-then-at-places
loop-reply-preserved-then-at-places g c = record {
  rest = shorter_front c.args.own.items c.pop.new.self.items c.loop-reply.left.items c.in-Some.reply c.loop-reply.invariant.rest c.in-Some.ensures.items;
  putting = subst (λ (all : List _). IsPutting c.args.places.now c.args.own.items c.args.all.now.items (length c.pop.new.self.items) all) (sym c.put_reply.ensures)
      (put_next c.args.places.now c.args.own.items c.args.all.now.items c.requires.apart c.requires.free (length c.pop.new.self.items) (length c.loop-reply.left.items)
      (slice_index_or c.args.places.now c.len-at.result 0) c.loop-reply.all.items c.in-Some.reply
      (one_count c.pop.new.self.items c.loop-reply.left.items c.in-Some.reply c.in-Some.ensures.items)
      (ap (slice_get c.args.places.now) (sym (c.len-at.ensures ∙ c.pop.new.self.ok.0)) ∙ slice_get-get_or c.args.places.now c.len-at.result 0 c.if-at-places.true)
      (last_in c.args.own.items c.pop.new.self.items c.loop-reply.left.items c.in-Some.reply c.loop-reply.invariant.rest c.in-Some.ensures.items)
      c.loop-reply.invariant.putting);
}

pub loop-reply-preserved : goal.loop-reply-preserved
loop-reply-preserved g c = record {
  rest = shorter_front c.args.own.items c.pop.new.self.items c.loop-reply.left.items c.in-Some.reply c.loop-reply.invariant.rest c.in-Some.ensures.items;
  putting =
      put_past c.args.places.now c.args.own.items c.args.all.now.items c.requires.apart c.requires.free (length c.pop.new.self.items) (length c.loop-reply.left.items) c.loop-reply.all.items
      (one_count c.pop.new.self.items c.loop-reply.left.items c.in-Some.reply c.in-Some.ensures.items)
      (let past = c.if-at-places.false in let here = c.len-at.ensures ∙ c.pop.new.self.ok.0 in omega (arith, past, here)) c.loop-reply.invariant.putting;
}

pub returns : goal.returns
returns g c =
    put_all c.args.places.now c.args.own.items c.args.all.now.items c.requires.apart c.requires.free c.loop-reply.all.items
    (subst (λ (n : ℕ). IsPutting c.args.places.now c.args.own.items c.args.all.now.items n c.loop-reply.all.items)
    (sym c.loop-reply.left.ok.0 ∙ c.in_default.ensures.cases.0) c.loop-reply.invariant.putting)
