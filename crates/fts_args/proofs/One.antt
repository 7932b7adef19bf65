-- Words ask for one command alone.
use Rattle.std.proofs.Common.{◌≡◌, ◌∙◌, ℕ, List, Option, Some, ap, codes, refl, slice_index, subst, sym, arith}
use Rattle.clap.specs.Words.{Row, Text}
use Rattle.fts_args.specs.Asked.{Asks, HasOptions, HasNumbers, IsCommand}
use Rattle.fts_args.specs.declared.command.Command.{Command}
use Rattle.fts_args.specs.declared.command.Command.TheVariants.{Create, Run, Serve, Gen}
use Rattle.fts_types.specs.declared.settings.Settings.{Settings}

-- what is read of one value is one value
same : {X : Type 0} (read : Option X) (x y : X) → read ≡ Some x → read ≡ Some y → x ≡ y
same read x y is other = let both : Some x ≡ Some y = sym is ∙ other in cc

-- options say one settings of these columns
pub one_options : (rows : List Row) (s t : Settings) → s.columns ≡ t.columns → HasOptions rows s → HasOptions rows t → s ≡ t
one_options rows s t columns h k =
    let min = same _ _ _ h.min k.min in
    let max = same _ _ _ h.max k.max in
    let stopword = same _ _ _ h.stopword k.stopword in
    let optimize_words = same _ _ _ h.optimize_words k.optimize_words in
    let cache_bytes = same _ _ _ h.cache_bytes k.cache_bytes in
    let batch_docs = same _ _ _ h.batch_docs k.batch_docs in
    λ i. record {
      columns = columns i;
      min = min i;
      max = max i;
      stopword = stopword i;
      optimize_words = optimize_words i;
      cache_bytes = cache_bytes i;
      batch_docs = batch_docs i;
    }

-- names that begin with different letters are not one
two_names : (name one other : Text) → (slice_index one 0 ≡ slice_index other 0 → ⊥) → name ≡ one → name ≡ other → ⊥
two_names name one other apart is is2 = apart (ap (λ (t : Text). slice_index t 0) (sym is ∙ is2))

one_script : (rows : List Row) (a b n m : ℕ) → HasNumbers rows a n → HasNumbers rows b m → Gen a n ≡ Gen b m
one_script rows a b n m h k = ap (λ (s : ℕ). Gen s n) (same _ _ _ h.seed k.seed) ∙ ap (Gen b) (same _ _ _ h.count k.count)

one_command : (met : Text × List Row) (one other : Command) → IsCommand met one → IsCommand met other → one ≡ other
one_command met (Create s) (Create t) h k = ap Create (one_options met.1 s t (same _ _ _ h.1.columns k.1.columns) h.1.options k.1.options)
one_command met (Create s) Run h k = absurd (two_names met.0 (codes "create") (codes "run") (λ (e : ◌≡◌ {A = ℕ} 99 114). omega arith) h.0 k)
one_command met (Create s) Serve h k = absurd (two_names met.0 (codes "create") (codes "serve") (λ (e : ◌≡◌ {A = ℕ} 99 115). omega arith) h.0 k)
one_command met (Create s) (Gen b m) h k = absurd (two_names met.0 (codes "create") (codes "gen") (λ (e : ◌≡◌ {A = ℕ} 99 103). omega arith) h.0 k.0)
one_command met Run (Create t) h k = absurd (two_names met.0 (codes "run") (codes "create") (λ (e : ◌≡◌ {A = ℕ} 114 99). omega arith) h k.0)
one_command met Run Run h k = refl
one_command met Run Serve h k = absurd (two_names met.0 (codes "run") (codes "serve") (λ (e : ◌≡◌ {A = ℕ} 114 115). omega arith) h k)
one_command met Run (Gen b m) h k = absurd (two_names met.0 (codes "run") (codes "gen") (λ (e : ◌≡◌ {A = ℕ} 114 103). omega arith) h k.0)
one_command met Serve (Create t) h k = absurd (two_names met.0 (codes "serve") (codes "create") (λ (e : ◌≡◌ {A = ℕ} 115 99). omega arith) h k.0)
one_command met Serve Run h k = absurd (two_names met.0 (codes "serve") (codes "run") (λ (e : ◌≡◌ {A = ℕ} 115 114). omega arith) h k)
one_command met Serve Serve h k = refl
one_command met Serve (Gen b m) h k = absurd (two_names met.0 (codes "serve") (codes "gen") (λ (e : ◌≡◌ {A = ℕ} 115 103). omega arith) h k.0)
one_command met (Gen a n) (Create t) h k = absurd (two_names met.0 (codes "gen") (codes "create") (λ (e : ◌≡◌ {A = ℕ} 103 99). omega arith) h.0 k.0)
one_command met (Gen a n) Run h k = absurd (two_names met.0 (codes "gen") (codes "run") (λ (e : ◌≡◌ {A = ℕ} 103 114). omega arith) h.0 k)
one_command met (Gen a n) Serve h k = absurd (two_names met.0 (codes "gen") (codes "serve") (λ (e : ◌≡◌ {A = ℕ} 103 115). omega arith) h.0 k)
one_command met (Gen a n) (Gen b m) h k = one_script met.1 a b n m h.1 k.1

pub asks_one : (words : List Text) (one other : Command) → Asks words one → Asks words other → one ≡ other
asks_one words one other h k =
    let met = same _ _ _ h.asked.1 k.asked.1 in
    one_command k.asked.0 one other (subst (λ (m : Text × List Row). IsCommand m one) met h.asked.2) k.asked.2
