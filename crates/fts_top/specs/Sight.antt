-- The replies of one session.
use Rattle.std.specs.Prelude.{◌≡◌, ◌⊎◌, ℕ, List, [], ◌∷◌, Some}
use Rattle.fts_io.specs.Text.{Line}
use Rattle.fts_schema.specs.declared.reply.Reply.{Reply}
use Rattle.fts_script.specs.Sessions.{IsOf}

-- of the replies to these lines, those to the lines of one session
abbrev pub AreOwn : ℕ → List Line → List Reply → List Reply → Type 0
AreOwn number [] replies own = own ≡ []
AreOwn number (line ∷ lines) [] own = own ≡ []
AreOwn number (line ∷ lines) (told ∷ replies) own =
    ((more : List Reply) × IsOf line (Some number) × (own ≡ told ∷ more) × AreOwn number lines replies more)
    ⊎ ((IsOf line (Some number) → ⊥) × AreOwn number lines replies own)
