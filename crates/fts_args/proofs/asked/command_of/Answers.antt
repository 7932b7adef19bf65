use Rattle.std.proofs.Common.{map}
use Rattle.std.specs.String.{string_bytes}
use Rattle.fts_args.proofs.Taken.{words_ask, words_ask_nothing, words_met, words_taken}
use Rattle.fts_args.proofs.asked.command_of.Goals as goal

pub returns-in-Ok-clause-found : goal.returns-in-Ok-clause-found
returns-in-Ok-clause-found c =
    let words = map string_bytes c.args.words.now in
    let line = c.in_ok-command_line.ensures in
    let parse = c.in-Ok.ensures in
    words_ask words _ (words_taken _ words line parse.kinds) (words_met _ words line c.in-Ok.matches parse.matches) c.asked.result c.asked.ensures.found

pub returns-in-Ok-clause-none : goal.returns-in-Ok-clause-none
returns-in-Ok-clause-none c =
    let words = map string_bytes c.args.words.now in
    let line = c.in_ok-command_line.ensures in
    let parse = c.in-Ok.ensures in
    words_ask_nothing words _ (words_taken _ words line parse.kinds) (words_met _ words line c.in-Ok.matches parse.matches) c.asked.result c.asked.ensures.none
