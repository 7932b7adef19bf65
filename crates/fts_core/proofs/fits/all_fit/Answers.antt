use Rattle.std.proofs.Common.{◌≡◌, ◌+◌, ◌++◌, ◌∷◌, [], ◌∙◌, All, take, arith, subst, sym, refl, ap}
use Rattle.std.proofs.lemmas.List.{take_more, take_all}
use Rattle.std.proofs.lemmas.List.Elements.{All-push}
use Rattle.fts_commits.specs.declared.change.Change.{Change}
use Rattle.fts_commits.specs.Fits.{FitsColumns, FitsNumbers}
use Rattle.fts_core.proofs.fits.all_fit.Goals as goal

pub loop-change-preserved : goal.loop-change-preserved
loop-change-preserved c =
    let changes = c.args.changes.now in
    let i = c.loop-change.change-index in
    let change = c.change-item.result in
    let more : take (i + 1) changes ≡ take i changes ++ change ∷ [] =
    take_more changes i change c.loop-change-test.true ∙ ap (λ (x : Change). take i changes ++ x ∷ []) (sym c.change-item.is) in
    let fits = c.fits.ensures.0 c.if-not-fits.false in (
      subst (All (FitsColumns c.args.columns)) (sym more) (All-push (FitsColumns c.args.columns) (take i changes) change c.loop-change.invariant.0 fits.0),
      subst (All FitsNumbers) (sym more) (All-push FitsNumbers (take i changes) change c.loop-change.invariant.1 fits.1),
    )

pub returns : goal.returns
returns c =
    let whole = take_all c.loop-change.change-index c.args.changes.now (omega (arith, c.loop-change-test.false)) in
    ((λ yes. (subst (All (FitsColumns c.args.columns)) whole c.loop-change.invariant.0, subst (All FitsNumbers) whole c.loop-change.invariant.1)), (λ are. refl))
