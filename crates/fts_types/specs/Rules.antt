use Rattle.std.specs.Prelude.{[], if◌then◌else◌}
use Rattle.fts_types.specs.declared.settings.Settings.{Settings}
use Rattle.fts_words.specs.Indexed.{Rules}
use Rattle.fts_words.specs.Stopwords.{default_stopwords}

-- which words these settings index
abbrev pub rules_of : Settings → Rules
rules_of settings =
    record { min = settings.min; max = settings.max; stopwords = if settings.stopword then default_stopwords else [] }
