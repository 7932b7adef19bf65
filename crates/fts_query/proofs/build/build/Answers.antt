use Rattle.std.proofs.Common.{◌≡◌, ◌<◌, ◌≤◌, List, [], ◌∷◌, ◌++◌, length, ap, sym, ◌∙◌, subst, append-nil, refl, arith}
use Rattle.fts_query.specs.declared.build.Bracket.{Bracket}
use Rattle.fts_query.specs.View.{terms_view}
use Rattle.fts_query.specs.Built.{written_open, written_so_far, height_of}
use Rattle.fts_query.proofs.Taking.{goes_on}
use Rattle.fts_meaning.specs.Tree.{Token, written}
use Rattle.fts_meaning.specs.Nesting.{Nests}
use Rattle.fts_meaning.proofs.Places.{tokens_step, tokens_end}
use Rattle.fts_query.proofs.build.build.Goals as goal

pub take-requires-clause-word : goal.take-requires-clause-word
take-requires-clause-word c =
    let within : c.loop-place.place < length c.args.text.now = omega arith in
    c.take_at-word.ensures.word c.args.text.now c.loop-place.invariant.words within

pub loop-place-preserved : goal.loop-place-preserved
loop-place-preserved c =
    let within : c.loop-place.place < length c.args.text.now = omega arith in
    record {
      same = goes_on _ _ _ _ _ _ c.in_ok-take.ensures.written (tokens_step c.args.query.now c.args.text.now c.loop-place.place within) c.loop-place.invariant.same;
      words = c.take_at-word.ensures.left c.args.text.now c.loop-place.invariant.words within;
      nests = c.in_ok-take.ensures.nests;
    }

-- without an open bracket, what is written is the terms
no_bracket : (brackets : List Bracket) (terms : List Token) → length brackets ≡ 0 → written_open brackets ++ terms ≡ terms
no_bracket [] terms none = refl
no_bracket (b ∷ bs) terms none = absurd (omega arith)

pub returns : goal.returns
unfolding Nests
returns c =
    let query = c.args.query.now in
    let text = c.args.text.now in
    let builder = c.loop-place.builder in
    let over : length text ≤ c.loop-place.place = omega arith in
    let end = tokens_end query text c.loop-place.place over in
    let none : height_of builder ≡ 0 = subst (Nests (height_of builder)) end c.loop-place.invariant.nests in
    sym (no_bracket builder.brackets.items (written (terms_view builder.terms.items)) none)
    ∙ sym (append-nil (written_so_far builder))
    ∙ sym (ap (λ (x : List Token). written_so_far builder ++ x) end)
    ∙ c.loop-place.invariant.same
