use Rattle.std.specs.Prelude.{◌≡◌}
use Rattle.fts_schema.specs.declared.reply.Reply.{Reply}
use Rattle.fts_schema.specs.declared.reply.Reply.TheVariants.{NoMemory, DiskFault}

-- a reply that nothing outside disturbed
pub record IsCalm (reply : Reply) : Type 0 where
  pub no_want : reply ≡ NoMemory → ⊥
  pub no_fault : reply ≡ DiskFault → ⊥
