-- How many sessions lines are of, and that lines of few sessions have no 17th.
use Rattle.std.proofs.Common.{◌≡◌, ℕ, ◌≤◌, Bool, true, false, List, [], ◌∷◌, ◌++◌, length, refl, ap, sym, subst, ◌∙◌, arith, Option, Some, None}
use Rattle.std.proofs.lemmas.Bool.{ne_eqb}
use Rattle.std.proofs.lemmas.List.Elements.{All-head, All-tail}
use Rattle.std.specs.Prelude.{◌==◌, ◌≢◌, if◌then◌else◌, All}
use Rattle.fts_io.specs.Text.{Line, whole, too_long}
use Rattle.fts_sql.proofs.Sessions.{one_session}
use Rattle.fts_script.specs.Sessions.{IsOf, among, joined_by, AreOf, IsCrowded, HasFewSessions}

-- a line is of one session, or of nobody
pub whose : (line : Line) (session session' : Option ℕ) → IsOf line session → IsOf line session' → session ≡ session'
whose (whole bytes) session session' of of' = one_session bytes session session' of of'
whose too_long session session' of of' = of ∙ sym of'

-- one line more
pub of_more : (numbers all : List ℕ) (lines : List Line) (line : Line) (session : Option ℕ) → AreOf numbers lines all → IsOf line session → AreOf numbers (lines ++ line ∷ []) (joined_by all session)
of_more numbers all [] line session are of = (session, of, ap (λ (n : List ℕ). joined_by n session) are)
of_more numbers all (first ∷ lines) line session (session', of', are) of = (session', of', of_more (joined_by numbers session') all lines line session are of)

-- more lines are of no fewer sessions
among_more : (numbers : List ℕ) (number : ℕ) → length numbers ≤ length (among numbers number)
among_more [] number = omega arith
among_more (one ∷ numbers) number = by_test (among_more numbers number) (one == number)
  where
    by_test : length numbers ≤ length (among numbers number) → (same : Bool) → length (one ∷ numbers) ≤ length (if same then one ∷ numbers else one ∷ among numbers number)
    by_test more true = omega arith
    by_test more false = omega (arith, more)

joined_more : (numbers : List ℕ) (session : Option ℕ) → length numbers ≤ length (joined_by numbers session)
joined_more numbers None = omega arith
joined_more numbers (Some number) = among_more numbers number

no_fewer : (numbers all : List ℕ) (lines : List Line) → AreOf numbers lines all → length numbers ≤ length all
no_fewer numbers all [] are = let same = ap length are in omega (arith, same)
no_fewer numbers all (line ∷ lines) (session, of, are) =
    let here = joined_more numbers session in let more = no_fewer (joined_by numbers session) all lines are in omega (arith, here, more)

-- the lines behind the first ones
behind_of : (numbers some all : List ℕ) (lines more : List Line) → AreOf numbers lines some → AreOf numbers (lines ++ more) all → AreOf some more all
behind_of numbers some all [] more first both = subst (λ (n : List ℕ). AreOf n more all) (sym first) both
behind_of numbers some all (line ∷ lines) more (session, of, first) (session', of', both) =
    behind_of (joined_by numbers session) some all lines more first
    (subst (λ (s : Option ℕ). AreOf (joined_by numbers s) (lines ++ more) all) (whose line session' session of' of) both)

-- so lines of 16 sessions have no line of another one
pub few_not_crowded : (lines : List Line) (number : ℕ) → IsCrowded lines number → HasFewSessions lines → ⊥
few_not_crowded lines number is (all, are, few) =
    let rest = behind_of [] is.numbers all is.earlier (is.line ∷ is.behind) is.are (subst (λ (some : List Line). AreOf [] some all) is.cut are) in
    let rest' = subst (λ (s : Option ℕ). AreOf (joined_by is.numbers s) is.behind all) (whose is.line rest.0 (Some number) rest.1 is.of) rest.2 in
    let more = no_fewer (among is.numbers number) all is.behind rest' in
    let count = is.more in
    omega (arith, more, count, few)

-- a number that is none of these comes behind them
pub among_new : (numbers : List ℕ) (number : ℕ) → All (λ other. other ≢ number) numbers → among numbers number ≡ numbers ++ number ∷ []
among_new [] number new = refl
among_new (one ∷ numbers) number new =
    ap (λ (b : Bool). if b then one ∷ numbers else one ∷ among numbers number) (ne_eqb one number (All-head (λ other. other ≢ number) one numbers new))
    ∙ ap (λ (more : List ℕ). one ∷ more) (among_new numbers number (All-tail (λ other. other ≢ number) one numbers new))
