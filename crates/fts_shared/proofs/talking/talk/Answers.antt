use Rattle.std.proofs.Common.{◌≡◌, ℕ, suc, ◌+◌, List, [], ◌∷◌, ◌++◌, length, drop, subst, sym, ap, length-append, append-nil, arith}
use Rattle.std.proofs.lemmas.List.{append_assoc}
use Rattle.fts_schema.specs.declared.reply.Reply.{Reply}
use Rattle.fts_script.specs.Script.{lines_in}
use Rattle.fts_shared.specs.Talk.{TalksOn}
use Rattle.fts_shared.specs.Work.{lines_at}
use Rattle.fts_shared.proofs.Lines.{none_behind, talks_none, talks_at}
use Rattle.fts_shared.proofs.talking.talk.Goals as goal

pub loop-i-preserved : goal.loop-i-preserved
loop-i-preserved g c =
    let i = c.loop-i.invariant in
    let sight = g.S.EngineSteps.sight in
    let reply = c.told-reply.result in
    let pushed = c.push_reserved.ensures in
    let capacity = pushed.capacity in
    let lines = lines_in c.args.script.now in
    let next : suc c.loop-i.i ≡ c.loop-i.i + 1 = omega arith in
    record {
      fits = c.told-reply.ensures.fits;
      count = let items = ap length pushed.items in let all = length-append c.loop-i.replies.items (reply ∷ []) in omega (arith, i.count, items, all);
      room = omega (arith, i.room, capacity);
      kept = omega (arith, i.kept, capacity);
      leads = λ told left new rest.
          subst (λ (items : List Reply). TalksOn sight c.args.session.now.transaction (lines_at lines c.args.places.now) (items ++ told) left c.args.steps.now new) (sym pushed.items)
          (subst (λ (items : List Reply). TalksOn sight c.args.session.now.transaction (lines_at lines c.args.places.now) items left c.args.steps.now new) (sym (append_assoc c.loop-i.replies.items (reply ∷ []) told))
          (i.leads (reply ∷ told) left new
          (talks_at sight lines c.args.places.now c.loop-i.i c.loop-i-test.true c.loop-i.session.transaction c.told-reply.new.session.transaction left reply told
          c.loop-i.steps c.told-reply.new.steps new c.told-reply.ensures.executes
          (subst (λ (k : ℕ). TalksOn sight c.told-reply.new.session.transaction (lines_at lines (drop k c.args.places.now)) told left c.told-reply.new.steps new) (sym next) rest))));
    }

pub returns-clause-talks : goal.returns-clause-talks
returns-clause-talks g c =
    let i = c.loop-i.invariant in
    let sight = g.S.EngineSteps.sight in
    let lines = lines_in c.args.script.now in
    let none : drop c.loop-i.i c.args.places.now ≡ [] = none_behind c.args.places.now c.loop-i.i c.loop-i-test.false in
    subst (λ (items : List Reply). TalksOn sight c.args.session.now.transaction (lines_at lines c.args.places.now) items c.loop-i.session.transaction c.args.steps.now c.loop-i.steps)
    (append-nil c.loop-i.replies.items)
    (i.leads [] c.loop-i.session.transaction c.loop-i.steps
    (subst (λ places. TalksOn sight c.loop-i.session.transaction (lines_at lines places) [] c.loop-i.session.transaction c.loop-i.steps c.loop-i.steps) (sym none)
    (talks_none sight c.loop-i.session.transaction c.loop-i.steps)))
