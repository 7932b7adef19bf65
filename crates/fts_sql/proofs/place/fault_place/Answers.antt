use Rattle.std.proofs.Common.{arith, inl, inr, sym, ◌∙◌, subst}
use Rattle.std.proofs.lemmas.List.{take_all, length-map}
use Rattle.fts_sql.specs.Fault.{Viable}
use Rattle.fts_sql.specs.Reading.{token_of}
use Rattle.fts_sql.specs.Statement.{Writes}
use Rattle.fts_sql.specs.Reader.{tokens_at}
use Rattle.fts_sql.proofs.Places.{misplaced, tokens_in-map}
use Rattle.fts_sql.proofs.place.fault_place.Goals as goal

pub returns-then-count-tokens : goal.returns-then-count-tokens
returns-then-count-tokens c =
    let size = length-map c.args.tokens.now (λ p. token_of p.token) in
    inl (misplaced c.args.tokens.now c.args.count _ c.if-count-tokens.true c.requires.front
    (c.requires.stops (omega (arith, size, c.if-count-tokens.true))))

pub returns : goal.returns
returns c =
    let size = length-map c.args.tokens.now (λ p. token_of p.token) in
    let all = take_all c.args.count (tokens_at c.args.tokens.now) (omega (arith, size, c.if-count-tokens.false)) in
    let same = tokens_in-map c.args.tokens.now in
    inr (
      subst Viable (all ∙ sym same) c.requires.front,
      (
        c.place_of_end.ensures,
        λ statement writes. c.requires.none statement (subst (Writes statement) same writes),
      ),
    )
