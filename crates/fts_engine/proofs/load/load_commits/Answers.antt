use Rattle.std.proofs.Common.{◌≡◌, ℕ, length, subst, arith}
use Rattle.fts_engine.specs.Loading.{IsLoaded, IsWrongEntry}
use Rattle.fts_engine.specs.Kept.{kept_settings, kept_rows}
use Rattle.fts_engine.proofs.Loading.{within_all}
use Rattle.fts_log.proofs.Reading.{as_many}
use Rattle.fts_engine.proofs.OneLog.{reads_more, reads_told}
use Rattle.fts_engine.proofs.load.load_commits.Goals as goal

pub loop-k-preserved : goal.loop-k-preserved
loop-k-preserved g c = record {
  loaded = λ told all read holds first.
      c.in-Ok.ensures.loaded told all read ((c.loop-k.invariant.reads.read told).stays all holds) (c.loop-k.invariant.loaded told all read holds first);
  reads = reads_more ⊥ c.args.records.now c.loop-k.records c.load_commit.new.records c.loop-k.invariant.reads
      (reads_told _ ⊥ _ _ (λ none. absurd none) (λ told. let no = told in cc) c.in-Ok.ensures.reads);
}

pub returns-clause-loaded : goal.returns-clause-loaded
returns-clause-loaded g c told all read holds first =
    let loaded = c.loop-k.invariant.loaded told all read holds first in
    let most = within_all all c.loop-k.k (kept_settings c.loop-k.kept) (kept_rows c.loop-k.kept) loaded.of_rows in
    let whole : c.loop-k.k ≡ length all = omega (arith, most, as_many all c.args.records.now holds, c.count-count.ensures, c.loop-k-test.false) in
    subst (λ (n : ℕ). IsLoaded all n read c.loop-k.kept) whole loaded

pub returns-in-Err-clause-damaged : goal.returns-in-Err-clause-damaged
returns-in-Err-clause-damaged g c at e told all read holds first =
    subst (λ magic. IsWrongEntry magic all at) c.loop-k.invariant.reads.same.magic
    (c.in-Err.ensures.damaged at (let failed = e in cc) told all read ((c.loop-k.invariant.reads.read told).stays all holds) (c.loop-k.invariant.loaded told all read holds first))

pub returns-in-Err-clause-reads : goal.returns-in-Err-clause-reads
returns-in-Err-clause-reads g c =
    reads_more _ c.args.records.now c.loop-k.records c.load_commit.new.records c.loop-k.invariant.reads
    (reads_told _ _ _ _ (λ told. let same = told in cc) (λ told. let same = told in cc) c.in-Err.ensures.reads)
