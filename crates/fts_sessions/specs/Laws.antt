use Rattle.std.specs.Prelude.{List, [], ◌∷◌}
use Rattle.fts_steps.specs.Step.{Answer, Call}

-- what steps answered, in their order
abbrev pub answers_of : List Call → List Answer
answers_of [] = []
answers_of (call ∷ calls) = call.answer ∷ answers_of calls
