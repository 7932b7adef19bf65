use Rattle.std.proofs.lemmas.Result.{on_ok_weaker, on_err_weaker}
use Rattle.fts_disk.specs.Device.{Written}
use Rattle.fts_disk.proofs.Contents.{set_on_file, set_same}
use Rattle.fts_disk.proofs.memory.recorded.overwrite_in.Goals as goal

pub returns-clause-written : goal.returns-clause-written
returns-clause-written c =
    on_ok_weaker c.overwrite.result
    (set_on_file (Written c.args.at c.args.bytes.now) c.args.files.now.items c.args.file _ c.overwrite.new.file c.requires.file c.index_mut.ensures.value)
    c.overwrite.ensures.written

pub returns-clause-kept : goal.returns-clause-kept
returns-clause-kept c =
    on_err_weaker c.overwrite.result
    (set_same c.args.files.now.items c.args.file _ c.overwrite.new.file c.index_mut.ensures.value)
    c.overwrite.ensures.kept
