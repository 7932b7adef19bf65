-- The sessions that a script has met at a line.
use Rattle.std.proofs.Common.{◌≡◌, ◌∙◌, ℕ, List, [], ◌∷◌, ◌++◌, append_assoc, ap, sym, subst, Some}
use Rattle.std.specs.Prelude.{Ok, Err}
use Rattle.fts_io.specs.Text.{Line}
use Rattle.fts_workers.specs.declared.health.Health.{Health}
use Rattle.fts_workers.specs.declared.health.Health.TheVariants.{Sound, Short, Failed}
use Rattle.fts_top.specs.declared.ends.Halt.{Halt}
use Rattle.fts_top.specs.declared.ends.Halt.TheVariants as halt
use Rattle.fts_top.specs.declared.ends.RunEnd.TheVariants as end
use Rattle.fts_top.specs.Health.{end_of}
use Rattle.fts_top.specs.Kept.{IsOneMore, NextSession}
use Rattle.fts_script.specs.Sessions.{IsOf, AreOf, IsCrowded}
use Rattle.fts_top.specs.Sessions.{Met, numbers_of}
use Rattle.fts_script.proofs.Counting.{of_more}
use Rattle.fts_top.proofs.Counting.{one_more_is, numbers_count}

-- the lines before those ahead are of the sessions that were met
pub record AreMet (script ahead : List Line) (sessions : List Met) : Type 0 where
  pub lines : List Line
  pub cut : script ≡ lines ++ ahead
  pub are : AreOf [] lines (numbers_of sessions)

pub met_more : (health : Health) (script ahead behind : List Line) (sessions left : List Met) → AreMet script ahead sessions → NextSession (Ok health) ahead behind sessions left
    → AreMet script behind left
met_more health script ahead behind sessions left far (line, one, (session, of, same)) = record {
  lines = far.lines ++ line ∷ [];
  cut = far.cut ∙ ap (λ (a : List Line). far.lines ++ a) one ∙ sym (append_assoc far.lines (line ∷ []) behind);
  are = subst (λ (numbers : List ℕ). AreOf [] (far.lines ++ line ∷ []) numbers) (sym same) (of_more [] (numbers_of sessions) far.lines line session far.are of);
}

-- a run that ends so met one more
crowded_with : (script ahead behind : List Line) (sessions : List Met) (number : ℕ) → AreMet script ahead sessions
    → (line : Line) × (ahead ≡ line ∷ behind) × IsOf line (Some number) × IsOneMore sessions number → IsCrowded script number
crowded_with script ahead behind sessions number far (line, one, of, more) = record {
  earlier = far.lines;
  line = line;
  behind = behind;
  numbers = numbers_of sessions;
  cut = far.cut ∙ ap (λ (a : List Line). far.lines ++ a) one;
  are = far.are;
  many = numbers_count sessions ∙ more.many;
  of = of;
  more = one_more_is sessions number more;
}

one_number : (a b : ℕ) → end.TooManySessions a ≡ end.TooManySessions b → a ≡ b
one_number a b same = cc

read_uncrowded : (health : Health) (number : ℕ) → end_of halt.End health ≡ end.TooManySessions number → ⊥
read_uncrowded Sound number is = cc
read_uncrowded Short number is = cc
read_uncrowded Failed number is = cc

pub crowded_at : (script ahead behind : List Line) (sessions left : List Met) (why : Halt) (health : Health) (number : ℕ) → AreMet script ahead sessions
    → NextSession (Err why) ahead behind sessions left → end_of why health ≡ end.TooManySessions number → IsCrowded script number
crowded_at script ahead behind sessions left (halt.TooManySessions n) health number far next is =
    subst (IsCrowded script) (one_number n number is) (crowded_with script ahead behind sessions n far next)
crowded_at script ahead behind sessions left halt.End health number far next is = absurd (read_uncrowded health number is)
crowded_at script ahead behind sessions left halt.NoMemory health number far next is = absurd cc
crowded_at script ahead behind sessions left halt.ReadFault health number far next is = absurd cc
crowded_at script ahead behind sessions left halt.WriteFault health number far next is = absurd cc
crowded_at script ahead behind sessions left (halt.TooLong lines bytes) health number far next is = absurd cc
