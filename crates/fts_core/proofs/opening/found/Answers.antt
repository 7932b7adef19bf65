use Rattle.std.proofs.Common.{◌≡◌, ◌∙◌, ◌<◌, ◌≤◌, ◌++◌, ◌∷◌, [], length, arith, refl, sym, ap, subst, option_to_list}
use Rattle.fts_steps.specs.Running.{opened}
use Rattle.fts_core.specs.Core.{TakesBack}
use Rattle.fts_core.specs.declared.world.Last.{Last}
use Rattle.fts_core.proofs.Opens.{found_with, found_without}
use Rattle.fts_core.proofs.opening.found.Goals as goal

pub returns-then-is_there-clause-lists : goal.returns-then-is_there-clause-lists
returns-then-is_there-clause-lists g c state undone keeps same doubt may =
    let all = c.args.acknowledged.items in
    let one : undone.doubt ≡ c.in-Some.changes ∷ [] = sym doubt ∙ ap option_to_list c.in-Some.is in
    let more : length all < length state.commits = omega (arith, c.if-is_there.true, c.commits.ensures state keeps, c.len.ensures, c.args.acknowledged.ok.0) in
    let is : state.commits ≡ all ++ c.in-Some.changes ∷ [] = found_with all undone.state.commits undone.doubt state.commits c.in-Some.changes same one more may in (
      c.acknowledging.ensures.acknowledged ∙ sym is,
      ap option_to_list c.acknowledging.ensures.doubt,
      subst (λ (last : Last). TakesBack last (opened state) undone) (sym c.acknowledging.ensures.last)
          (c.in-Some.changes, is ∙ ap (λ front. front ++ c.in-Some.changes ∷ []) same, refl, one),
    )

pub returns-else-is_there-clause-lists : goal.returns-else-is_there-clause-lists
returns-else-is_there-clause-lists g c state undone keeps same doubt may =
    let all = c.args.acknowledged.items in
    let one : undone.doubt ≡ c.in-Some.changes ∷ [] = sym doubt ∙ ap option_to_list c.in-Some.is in
    let no_more : length state.commits ≤ length all = omega (arith, c.if-is_there.false, c.commits.ensures state keeps, c.len.ensures, c.args.acknowledged.ok.0) in
    let is : state.commits ≡ undone.state.commits = found_without all undone.state.commits undone.doubt state.commits c.in-Some.changes same one no_more may in
    (same ∙ sym is, refl, (sym is, refl, one))
