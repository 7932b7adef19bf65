use Rattle.std.proofs.Common.{ℕ, ◌+◌, refl, ap, subst, sym, ◌∙◌}
use Rattle.fts_log.specs.Records.{records_device}
use Rattle.fts_log.proofs.Reading.{read_none}
use Rattle.fts_engine.specs.Loading.{IsWrongEntry}
use Rattle.fts_engine.proofs.OneLog.{reads_none, reads_more, reads_told}
use Rattle.fts_engine.proofs.Covering.{still_itself, still_more}
use Rattle.fts_engine.proofs.load.cover_commits.Goals as goal

pub loop-k-init : goal.loop-k-init
loop-k-init g c = record {
  settings = refl;
  covered = λ told all read j holds was. still_itself all read j c.args.restoring.now was;
  commits = sym c.commits-k.ensures;
  reads = reads_none c.args.rows.now (λ told. read_none c.args.rows.now (λ files left. g.met.D.Disk.only_now (records_device c.args.rows.now) files told left));
}

pub loop-k-preserved : goal.loop-k-preserved
loop-k-preserved g c = record {
  settings = c.cover_commit.ensures.settings ∙ c.loop-k.invariant.settings;
  covered = λ told all read j holds was.
      let before = c.loop-k.invariant.covered told all read j holds was in
      still_more all read j c.args.restoring.now c.loop-k.restoring c.cover_commit.new.restoring was before
      (c.in-Ok.ensures.covered told all read j ((c.loop-k.invariant.reads.read told).stays all holds) before.is);
  commits = c.in-Ok.ensures.commits ∙ ap (λ (n : ℕ). n + 1) c.loop-k.invariant.commits;
  reads = reads_more ⊥ c.args.rows.now c.loop-k.rows c.cover_commit.new.rows c.loop-k.invariant.reads
      (reads_told _ ⊥ _ _ (λ none. absurd none) (λ told. let no = told in cc) c.in-Ok.ensures.reads);
}

pub returns-in-Err-clause-damaged : goal.returns-in-Err-clause-damaged
returns-in-Err-clause-damaged g c at e told all read j holds was =
    let before = c.loop-k.invariant.covered told all read j holds was in
    subst (λ magic. IsWrongEntry magic all at) c.loop-k.invariant.reads.same.magic
    (c.in-Err.ensures.damaged at (let failed = e in cc) told all read j ((c.loop-k.invariant.reads.read told).stays all holds) before.is)

pub returns-in-Err-clause-reads : goal.returns-in-Err-clause-reads
returns-in-Err-clause-reads g c =
    reads_more _ c.args.rows.now c.loop-k.rows c.cover_commit.new.rows c.loop-k.invariant.reads
    (reads_told _ _ _ _ (λ told. let same = told in cc) (λ told. let same = told in cc) c.in-Err.ensures.reads)
