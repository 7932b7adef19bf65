use Rattle.std.proofs.Common.{◌≡◌, take}
use Rattle.fts_disk.proofs.Contents.{set_on_file}
use Rattle.fts_disk.proofs.memory.recorded.cut_in.Goals as goal

pub returns-clause-shorter : goal.returns-clause-shorter
returns-clause-shorter c =
    set_on_file (λ old new. new ≡ take c.args.len old) c.args.files.now.items c.args.file _ c.truncate.new.self
    c.requires c.index_mut.ensures.value c.truncate.ensures.items
