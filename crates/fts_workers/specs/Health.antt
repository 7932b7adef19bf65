-- What steps and the lines of a script met.
use Rattle.std.specs.Prelude.{List, [], ◌∷◌}
use Rattle.fts_schema.specs.declared.reply.Reply.{Reply}
use Rattle.fts_schema.specs.declared.reply.Reply.TheVariants as reply
use Rattle.fts_steps.specs.Step.{Answer, no_memory, disk_fault, Call}
use Rattle.fts_workers.specs.declared.health.Health.{Health}
use Rattle.fts_workers.specs.declared.health.Health.TheVariants.{Sound, Short, Failed}

-- what a line met, by its reply
abbrev pub health_of : Reply → Health
health_of reply.NoMemory = Short
health_of reply.DiskFault = Failed
health_of reply = Sound

-- the worse of two: a fault, then want of memory
abbrev pub worse : Health → Health → Health
worse Failed other = Failed
worse Short Failed = Failed
worse Short Short = Short
worse Short Sound = Short
worse Sound other = other

-- what the lines of these replies met
abbrev pub health_of_all : List Reply → Health
health_of_all [] = Sound
health_of_all (reply ∷ replies) = worse (health_of reply) (health_of_all replies)

-- what a step met, by its answer
abbrev pub health_of_answer : Answer → Health
health_of_answer no_memory = Short
health_of_answer (disk_fault faults) = Failed
health_of_answer answer = Sound

-- what these steps met
abbrev pub health_of_steps : List Call → Health
health_of_steps [] = Sound
health_of_steps (call ∷ calls) = worse (health_of_answer call.answer) (health_of_steps calls)
