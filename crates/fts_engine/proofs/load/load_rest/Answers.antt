use Rattle.std.proofs.Common.{ℕ, ◌+◌, sym, subst, ap, ◌∙◌}
use Rattle.fts_engine.specs.Loading.{IsLoaded}
use Rattle.fts_engine.proofs.OneLog.{reads_told}
use Rattle.fts_engine.proofs.Covering.{to_kept}
use Rattle.fts_engine.proofs.load.load_rest.Goals as goal

pub returns-in-Ok-clause-loaded : goal.returns-in-Ok-clause-loaded
returns-in-Ok-clause-loaded g c told all read holds was =
    let kept = c.keep-kept.result in
    let ensured = c.keep-kept.ensures in
    c.in-Ok.ensures.loaded told all read holds
    (subst (λ (n : ℕ). IsLoaded all n read kept) (ap (λ (n : ℕ). n + 1) (sym c.commits.ensures) ∙ sym c.in-Some.ensures.1)
    (to_kept all read c.args.restoring was kept ensured.rows ensured.settings ensured.limits ensured.index))

pub returns-in-Err-clause-damaged : goal.returns-in-Err-clause-damaged
returns-in-Err-clause-damaged g c at e told all read holds was =
    let kept = c.keep-kept.result in
    let ensured = c.keep-kept.ensures in
    c.in-Err.ensures.damaged at (let same = e in cc) told all read holds
    (subst (λ (n : ℕ). IsLoaded all n read kept) (ap (λ (n : ℕ). n + 1) (sym c.commits.ensures) ∙ sym c.in-Some.ensures.1)
    (to_kept all read c.args.restoring was kept ensured.rows ensured.settings ensured.limits ensured.index))

pub returns-in-Ok-clause-reads : goal.returns-in-Ok-clause-reads
returns-in-Ok-clause-reads g c = reads_told _ _ _ _ (λ told. let no = told in cc) (λ told. let no = told in cc) c.in-Ok.ensures.reads

pub returns-in-Err-clause-reads : goal.returns-in-Err-clause-reads
returns-in-Err-clause-reads g c = reads_told _ _ _ _ (λ told. let same = told in cc) (λ told. let same = told in cc) c.in-Err.ensures.reads
