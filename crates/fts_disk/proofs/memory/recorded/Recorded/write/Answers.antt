use Rattle.std.proofs.Common.{◌≤◌, length, subst, sym, refl, arith}
use Rattle.fts_disk.specs.Device.{Files, OnFile, Torn}
use Rattle.fts_disk.specs.Memory.{first_of, files_of, images_of}
use Rattle.fts_disk.specs.Contents.{contents}
use Rattle.fts_disk.specs.Replay.{IsWriteOf, IsOfFile, Same, seen_after}
use Rattle.fts_disk.specs.ReplayLaws.{stays}
use Rattle.fts_disk.proofs.Torn.{torn_none, none_here}
use Rattle.fts_disk.proofs.Changing.{changed_on, changed_tied, changed_proper, changed_elapses, changed_follows, write_leaves}
use Rattle.fts_disk.proofs.memory.recorded.Recorded.write.Goals as goal

pub invariant_of-self : goal.invariant_of-self
invariant_of-self c =
    let recorded = c.args.self.now in
    let Kind = IsWriteOf c.args.file c.args.at c.args.bytes.now c.args.done in
    let changed = changed_on c.write_noted.result Kind recorded.calls.items c.write_noted.new.calls.items (files_of recorded) (contents c.write_noted.new.files.items)
    c.write_noted.ensures.noted c.write_noted.ensures.not_noted c.write_noted.ensures.kept in
    record {
      sixteen = omega (arith, c.write_noted.ensures.count, recorded.sixteen);
      begun = recorded.begun;
      tied = changed_tied Kind _ _ _ _ (first_of recorded) changed recorded.tied;
      proper = changed_proper Kind _ _ _ _ (first_of recorded) changed (λ call kind. subst IsOfFile (sym kind.2) c.requires.file) recorded.proper;
    }

pub returns-clause-crash : goal.returns-clause-crash
returns-clause-crash c =
    let recorded = c.args.self.now in
    let Kind = IsWriteOf c.args.file c.args.at c.args.bytes.now c.args.done in
    let changed = changed_on c.write_noted.result Kind recorded.calls.items c.write_noted.new.calls.items (files_of recorded) (contents c.write_noted.new.files.items)
    c.write_noted.ensures.noted c.write_noted.ensures.not_noted c.write_noted.ensures.kept in
    let step = Torn c.args.at (length c.args.bytes.now) in
    changed_follows Kind _ _ _ _ (first_of recorded) changed (OnFile c.args.file step) (λ files. none_here c.args.file step files (torn_none c.args.at (length c.args.bytes.now) (files c.args.file)))
    (λ call is files. write_leaves c.args.file (seen_after recorded.calls.items (first_of recorded)) (images_of recorded) (stays recorded.calls.items (first_of recorded) (Same (first_of recorded)) (λ f. refl)) files
    c.args.at c.args.bytes.now c.args.done call (subst (λ (files : Files). c.args.at ≤ length (files c.args.file)) recorded.tied c.requires.within) is)

pub returns-clause-time : goal.returns-clause-time
returns-clause-time c =
    let recorded = c.args.self.now in
    let Kind = IsWriteOf c.args.file c.args.at c.args.bytes.now c.args.done in
    changed_elapses Kind recorded.calls.items c.write_noted.new.calls.items (files_of recorded) (contents c.write_noted.new.files.items) (first_of recorded)
    (changed_on c.write_noted.result Kind _ _ _ _ c.write_noted.ensures.noted c.write_noted.ensures.not_noted c.write_noted.ensures.kept)
