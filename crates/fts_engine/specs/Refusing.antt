use Rattle.fts_rows.specs.declared.error.PlanError.{PlanError}
use Rattle.fts_rows.specs.declared.error.PlanError.TheVariants.{NoMemory, Refused}
use Rattle.fts_steps.specs.Step.{Answer, refused, no_memory}

-- the answer that a refusal by the rows is
abbrev pub refusal_answer : PlanError → Answer
refusal_answer NoMemory = no_memory
refusal_answer (Refused refusal) = refused refusal
