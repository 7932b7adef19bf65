use Rattle.std.proofs.Common.{◌∙◌}
use Rattle.fts_cache.proofs.Leaving.{less_again}
use Rattle.fts_cache.proofs.adding.release_promised.Goals as goal

pub returns-clause-less : goal.returns-clause-less
returns-clause-less c = less_again c.args.words.now c.release_all.new.words c.sweep.new.self c.release_all.ensures.less c.sweep.ensures.less

pub returns-clause-room : goal.returns-clause-room
returns-clause-room c = λ w.
    let g = c.release_all.ensures.room w in
    record {
      given = λ n e has. c.sweep.ensures.room w ∙ g.given n e has;
      kept = λ none. c.sweep.ensures.room w ∙ g.kept none;
    }
