use Rattle.std.proofs.Common.{◌≡◌, ◌∙◌, ap, codes, sym}
use Rattle.std.specs.Prelude.{None, Some, option_map}
use Rattle.clap.specs.Words.{first_of, found_of, rows_of}
use Rattle.clap.proofs.WalkLemmas.{first_value-rows}
use Rattle.fts_args.specs.Asked.{comma_parts}
use Rattle.fts_types.specs.Settings.{first_wrong}
use Rattle.fts_args.proofs.One.{one_options}
use Rattle.fts_args.proofs.asked.settings_of.Goals as goal

pub returns-in_default-clause-none : goal.returns-in_default-clause-none
returns-in_default-clause-none c = λ settings has.
    let read = sym (first_value-rows (found_of c.args.options.now) (codes "columns")) ∙ sym c.get_str.ensures in
    let none : first_of (codes "columns") (rows_of (found_of c.args.options.now)) ≡ None = read ∙ ap (option_map (λ s. s.now)) c.in_default.is in
    let bad : None ≡ Some settings.columns = sym (ap (option_map comma_parts) none) ∙ has.columns in
    cc

pub returns-in_default-settings_with-clause-none : goal.returns-in_default-settings_with-clause-none
returns-in_default-settings_with-clause-none c = λ settings has. c.in_default-settings_with.ensures.none settings has.options

pub returns-in-Ok-clause-found : goal.returns-in-Ok-clause-found
returns-in-Ok-clause-found c =
    let read = sym (first_value-rows (found_of c.args.options.now) (codes "columns")) ∙ sym c.get_str.ensures in
    let some : first_of (codes "columns") (rows_of (found_of c.args.options.now)) ≡ Some c.in-Some.names.now = read ∙ ap (option_map (λ s. s.now)) c.in-Some.is in
    record {
      columns = ap (option_map comma_parts) some ∙ ap Some (sym (c.in-Some-settings_with.ensures.columns ∙ c.in_ok-columns.ensures));
      options = c.in-Some-settings_with.ensures.options;
      fit = c.in-Ok.ensures.ok;
    }

pub returns-in-Err-clause-none : goal.returns-in-Err-clause-none
returns-in-Err-clause-none c = λ settings has.
    let read = sym (first_value-rows (found_of c.args.options.now) (codes "columns")) ∙ sym c.get_str.ensures in
    let some : first_of (codes "columns") (rows_of (found_of c.args.options.now)) ≡ Some c.in-Some.names.now = read ∙ ap (option_map (λ s. s.now)) c.in-Some.is in
    let here = ap (option_map comma_parts) some ∙ ap Some (sym (c.in-Some-settings_with.ensures.columns ∙ c.in_ok-columns.ensures)) in
    let columns : settings.columns ≡ c.in-Some-settings_with.settings.columns =
    (let both : Some settings.columns ≡ Some c.in-Some-settings_with.settings.columns = sym has.columns ∙ here in cc) in
    let same : settings ≡ c.in-Some-settings_with.settings =
    one_options (rows_of (found_of c.args.options.now)) settings c.in-Some-settings_with.settings columns has.options c.in-Some-settings_with.ensures.options in
    let right : first_wrong c.in-Some-settings_with.settings ≡ None = ap first_wrong (sym same) ∙ has.fit in
    let wrong = c.in-Err.ensures.field in
    cc
