use Rattle.std.specs.Str.Parse.{ExplainsUnsignedError, HasUnsignedDigitsIfOk, ParsesUnsigned}
use Rattle.clap.specs.Words.{found_of}
use Rattle.fts_args.specs.Options.{number_of}
use Rattle.fts_args.proofs.Reading.{number_parsed, one_is_read}
use Rattle.fts_args.proofs.options.short.Goals as goal

pub returns : goal.returns
returns c = one_is_read (λ bs r. ParsesUnsigned 16 10 bs r × ExplainsUnsignedError 10 bs r × HasUnsignedDigitsIfOk bs r)
    (number_of 16) (λ text r h. number_parsed 16 text r h.0) (found_of c.args.options.now) c.args.name.now c.get_one.result c.get_one.ensures.none c.get_one.ensures.value
