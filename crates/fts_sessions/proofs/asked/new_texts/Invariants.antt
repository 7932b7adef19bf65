use Rattle.std.proofs.Common.{◌≡◌, map, take}
use Rattle.fts_commits.specs.NewText.{new_text}
use Rattle.fts_sessions.specs.Table.{text_for}
use Rattle.fts_sessions.proofs.asked.new_texts.Given as goal

-- the texts so far are those of the columns before the place
abbrev pub invariant-loop-place : goal.invariant-loop-place
invariant-loop-place l = map new_text l.news.items ≡ map (λ column. text_for column l.names l.texts) (take l.place l.columns)
