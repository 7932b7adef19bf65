use Rattle.fts_query.proofs.Building.{added}
use Rattle.fts_query.proofs.build.Builder.add.Goals as goal

pub returns-clause-written : goal.returns-clause-written
returns-clause-written c =
    added c.args.self.now.brackets.items c.args.self.now.terms.items c.push.new.self.items c.args.sign c.args.operand c.in_ok-push.ensures.items
