use Rattle.std.proofs.Common.{◌∙◌, subst}
use Rattle.fts_cache.specs.Words.{Entries, IsUsedBut}
use Rattle.fts_cache.proofs.Leaving.{less_again}
use Rattle.fts_cache.proofs.Used.{used_less}
use Rattle.fts_cache.proofs.words.let_go_all.Goals as goal

pub loop-first-preserved : goal.loop-first-preserved
loop-first-preserved c =
    let old : Entries = record { numbers = c.args.numbers.now.entries; slots = c.args.slots.now.slots } in
    let now : Entries = record { numbers = c.loop-first.numbers.entries; slots = c.loop-first.slots.slots } in
    let new : Entries = record { numbers = c.let_go.new.numbers.entries; slots = c.let_go.new.slots.slots } in
    let inv = c.loop-first.invariant in
    let l = c.let_go.ensures.less in
    record {
      kept = record {
        table = c.let_go.ensures.table;
        listed = c.let_go.ensures.listed;
        used = used_less c.in-Some.first.now now new c.in-Some.behind.now l (subst (IsUsedBut now) c.in-Some.ensures.cases.0 inv.kept.used);
      };
      less = less_again old now new inv.less l.less;
      room = λ w. l.room w ∙ inv.room w;
    }
