use Rattle.std.proofs.Common.{arith, inl}
use Rattle.fts_rowcodec.specs.Grammar.{IsCommitFault}
use Rattle.fts_rowcodec.specs.Reading.{commit_of}
use Rattle.fts_rowcodec.proofs.Commits.{commit_takes, commit_same, commit_none}
use Rattle.fts_rowcodec.proofs.Places.{commit_place, left_told, told}
use Rattle.fts_rowcodec.proofs.commit.decode_commit.Goals as goal

pub overflow_sub-at : goal.overflow_sub-at
overflow_sub-at c =
    let read = left_told c.in-Err-Bad.field-0 c.in-Err-Bad.left (commit_of c.args.columns c.args.bytes.now) c.in-Err-Bad.field-0-is c.in-Err-Bad.ensures in
    omega (arith, (commit_place c.args.columns c.args.bytes.now c.in-Err-Bad.left (λ i. omega (arith, c.type_inv.bytes i)) read).0)

pub returns-in-Ok-clause-commit : goal.returns-in-Ok-clause-commit
returns-in-Ok-clause-commit c = commit_takes c.args.columns c.args.bytes.now c.in-Ok.changes (λ i. omega (arith, c.type_inv.bytes i)) c.in-Ok.ensures

pub returns-in-Ok-clause-exact : goal.returns-in-Ok-clause-exact
returns-in-Ok-clause-exact c commit is e = let same = commit_same c.args.columns c.args.bytes.now c.in-Ok.changes commit c.in-Ok.ensures is e in inl cc

pub returns-in-Err-Bad-clause-exact : goal.returns-in-Err-Bad-clause-exact
returns-in-Err-Bad-clause-exact c commit is e =
    let read = left_told c.in-Err-Bad.field-0 c.in-Err-Bad.left (commit_of c.args.columns c.args.bytes.now) c.in-Err-Bad.field-0-is c.in-Err-Bad.ensures in
    absurd (commit_none c.args.columns c.args.bytes.now c.in-Err-Bad.left commit read is e)

pub returns-in-Err-Bad-clause-cause : goal.returns-in-Err-Bad-clause-cause
returns-in-Err-Bad-clause-cause c =
    let read = left_told c.in-Err-Bad.field-0 c.in-Err-Bad.left (commit_of c.args.columns c.args.bytes.now) c.in-Err-Bad.field-0-is c.in-Err-Bad.ensures in
    told (IsCommitFault c.args.columns) c.args.bytes.now c.in-Err-Bad.left (commit_place c.args.columns c.args.bytes.now c.in-Err-Bad.left (λ i. omega (arith, c.type_inv.bytes i)) read)
