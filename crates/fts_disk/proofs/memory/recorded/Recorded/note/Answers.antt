use Rattle.std.proofs.Common.{is_ok}
use Rattle.fts_disk.specs.Contents.{contents}
use Rattle.fts_disk.proofs.Recording.{Grew, grew_if, grew_within, grew_tied, grew_proper, grew_elapses}
use Rattle.fts_disk.proofs.memory.recorded.Recorded.note.Goals as goal

pub invariant_of-self : goal.invariant_of-self
invariant_of-self c =
    let recorded = c.args.self.now in
    let grew : Grew c.args.call recorded.calls.items c.push.new.self.items = grew_if (is_ok c.push.result) _ _ _ c.push.ensures.items in
    record {
      sixteen = recorded.sixteen;
      begun = recorded.begun;
      tied = grew_tied c.args.call recorded.calls.items _ (contents recorded.first.items) _ grew c.requires.looks recorded.tied;
      proper = grew_proper c.args.call recorded.calls.items _ grew c.requires.file recorded.proper;
    }

pub returns-clause-crash : goal.returns-clause-crash
returns-clause-crash c = grew_within c.args.call _ _ (contents c.args.self.now.first.items) (grew_if (is_ok c.push.result) _ _ _ c.push.ensures.items) c.requires.looks

pub returns-clause-time : goal.returns-clause-time
returns-clause-time c = grew_elapses c.args.call _ _ (contents c.args.self.now.first.items) (grew_if (is_ok c.push.result) _ _ _ c.push.ensures.items)
