use Rattle.std.proofs.Common.{◌+◌, ◌∷◌, List, ℕ, drop, ap, sym, ◌∙◌}
use Rattle.fts_commits.specs.Commit.{updated}
use Rattle.fts_rows.proofs.Setting.{new_one, kept_one}
use Rattle.fts_rows.proofs.updating.text_after.Goals as goal

pub returns-in-Some : goal.returns-in-Some
returns-in-Some c = new_one c.args.news.now c.args.texts.now c.args.place c.in-Some.text.now c.requires.set c.requires.kept c.in-Some.ensures

pub returns-in-None : goal.returns-in-None
returns-in-None c =
    let place = c.args.place in
    kept_one c.args.news.now c.args.texts.now place c.requires.set c.requires.kept c.in-None.ensures
    ∙ ap (λ (t : List ℕ). t ∷ updated (drop (place + 1) c.args.news.now) (drop (place + 1) c.args.texts.now)) (sym c.text-in-None.ensures)
