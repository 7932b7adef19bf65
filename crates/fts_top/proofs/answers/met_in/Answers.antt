use Rattle.std.proofs.Common.{◌≡◌, ◌∷◌, [], ◌∙◌, ap, sym, Option}
use Rattle.fts_schema.specs.declared.reply.Reply.{Reply}
use Rattle.fts_workers.specs.Health.{health_of, health_of_all}
use Rattle.fts_workers.proofs.Worse.{worse_sound}
use Rattle.fts_top.specs.Answers.{told}
use Rattle.fts_top.proofs.answers.met_in.Goals as goal

pub returns-in-Some : goal.returns-in-Some
returns-in-Some c =
    c.health_of.ensures ∙ sym (worse_sound (health_of c.in-Some.reply)) ∙ ap (λ (o : Option Reply). health_of_all (told (o ∷ []))) (sym c.in-Some.is)
