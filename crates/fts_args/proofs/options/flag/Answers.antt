use Rattle.std.specs.Str.Parse.{ParsesBool}
use Rattle.clap.specs.Words.{found_of}
use Rattle.fts_args.specs.Options.{flag_of}
use Rattle.fts_args.proofs.Reading.{flag_parsed, one_is_read}
use Rattle.fts_args.proofs.options.flag.Goals as goal

pub returns : goal.returns
returns c = one_is_read ParsesBool flag_of flag_parsed (found_of c.args.options.now) c.args.name.now c.get_one.result c.get_one.ensures.none c.get_one.ensures.value
