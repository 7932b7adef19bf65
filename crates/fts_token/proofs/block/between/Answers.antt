use Rattle.fts_token.proofs.Blocks.{found}
use Rattle.fts_token.proofs.block.between.Goals as goal

pub returns : goal.returns
returns c =
    let start = c.requires.start in
    let behind = c.requires.behind in
    found c.args.text.now c.args.at c.args.start.place c.requires.outside start.order start.none start.bound
    c.args.behind.place behind.order behind.none behind.bound c.args.behind.block.start c.args.behind.block.bounds behind.ahead
