use Rattle.std.proofs.Common.{map, length, ap, sym, ◌∙◌, subst}
use Rattle.std.proofs.lemmas.List.{map-append}
use Rattle.std.proofs.lemmas.Bool.{eqb-true}
use Rattle.fts_sql.specs.Reading.{placed_of, token_of}
use Rattle.fts_sql.proofs.Begun.{IsBegun, ends_whole, ends_unreadable, begun_more, shorter}
use Rattle.fts_sql.proofs.line.read_line.Goals as goal

pub returns-then-is_empty : goal.returns-then-is_empty
returns-then-is_empty c =
    ends_whole c.args.line.now c.loop-piece.rest.now c.skip_blanks-piece.ensures.0 c.skip_blanks-piece.result.now
    (map placed_of c.loop-piece.tokens.items) c.place_of-at.result c.loop-piece.invariant.within c.loop-piece.invariant.so_far
    c.skip_blanks-piece.ensures.1
    (eqb-true (length c.skip_blanks-piece.result.now) 0 (sym c.if-is_empty.ensures)) c.place_of-at.ensures

pub loop-piece-preserved : goal.loop-piece-preserved
loop-piece-preserved c =
    let spelled = c.in-Token.ensures in
    record {
      within = shorter c.args.line.now c.loop-piece.rest.now c.skip_blanks-piece.ensures.0 c.skip_blanks-piece.result.now spelled.0
          c.in-Token.after.now (token_of c.in-Token.token) c.loop-piece.invariant.within c.skip_blanks-piece.ensures.1 spelled.1;
      so_far = subst (IsBegun c.args.line.now c.in-Token.after.now)
          (sym (ap (map placed_of) c.in_ok-push-in-Token.ensures.items ∙ map-append placed_of c.loop-piece.tokens.items _))
          (begun_more c.args.line.now c.loop-piece.rest.now c.skip_blanks-piece.ensures.0 c.skip_blanks-piece.result.now c.in-Token.after.now
          (map placed_of c.loop-piece.tokens.items) c.place_of-at.result (token_of c.in-Token.token) c.loop-piece.invariant.within
          c.loop-piece.invariant.so_far c.skip_blanks-piece.ensures.1 spelled c.place_of-at.ensures);
    }

pub returns-in-Unreadable : goal.returns-in-Unreadable
returns-in-Unreadable c =
    ends_unreadable c.args.line.now c.loop-piece.rest.now c.skip_blanks-piece.ensures.0 c.skip_blanks-piece.result.now
    (map placed_of c.loop-piece.tokens.items) c.place_of-at.result c.in-Unreadable.offset c.loop-piece.invariant.within
    c.loop-piece.invariant.so_far c.skip_blanks-piece.ensures.1 c.in-Unreadable.ensures c.place_of-at.ensures
