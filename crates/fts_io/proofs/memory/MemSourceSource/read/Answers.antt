use Rattle.std.proofs.Common.{arith}
use Rattle.fts_io.proofs.Window.{read-takes, rest-of}
use Rattle.fts_io.proofs.memory.MemSourceSource.read.Goals as goal

pub returns-clause-takes : goal.returns-clause-takes
returns-clause-takes c =
    let old = c.args.self.now in
    read-takes c.min-count.result old.at old.bytes.items _ c.copy_from_slice.new.self _
    (rest-of old.at old.bytes.items c.deref.result.now c.deref.ensures.value)
    c.copy_from_slice.ensures.after
    (omega (arith, c.min-count.ensures, c.min.ensures))
