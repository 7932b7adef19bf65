use Rattle.std.proofs.Common.{◌≡◌, Bool, OnErr, length, rules}
use Rattle.std.proofs.lemmas.Result.{on_err_weaker}
use Rattle.fts_disk.specs.Memory.{mem_files, mem_calls, mem_refused, next_count}
use Rattle.fts_disk.specs.Replay.{IsWriteOf, Entered}
use Rattle.fts_disk.specs.declared.memory.MemDisk.{MemDisk}
use Rattle.fts_disk.proofs.Noting.{noted_on}
use Rattle.fts_disk.proofs.Torn.{torn_kept}
use Rattle.fts_disk.proofs.memory.MemDiskDisk.write_at.Goals as goal

pub returns-clause-torn : goal.returns-clause-torn
returns-clause-torn c =
    let old = mem_files c.args.self.now in
    let new = mem_files record { recorded = c.write-written.new.self; counters = c.settle.new.self } in
    let kept : OnErr c.settle.result (new ≡ old) = search rules in
    on_err_weaker c.settle.result (torn_kept c.args.file c.args.at (length c.args.bytes.now) old new) kept

pub returns-clause-answers : goal.returns-clause-answers
returns-clause-answers c =
    let old = c.args.self.now in
    let new : MemDisk = record { recorded = c.write-written.new.self; counters = c.settle.new.self } in
    let Put : Bool → Type 0 = λ done. Entered (IsWriteOf c.args.file c.args.at c.args.bytes.now done) (mem_calls old) (mem_calls new) in
    let fails = c.settle.ensures.failed in
    let answers = noted_on c.write-written.result c.settle.result c.is_named-named.result Put (mem_refused new ≡ mem_refused old) ((mem_calls new ≡ mem_calls old) × (mem_refused new ≡ next_count (mem_refused old)))
    fails.0 fails.1 c.write-written.ensures.entered (search rules) (search rules) in
    record { listed = search rules; noted = record { done = answers.0; failed = answers.1; first = search rules } }
