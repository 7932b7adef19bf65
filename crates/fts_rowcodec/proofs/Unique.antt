-- A payload is of one commit alone, and of one settings alone: each is what is read from it.
use Rattle.std.proofs.Common.{◌≡◌, ℕ, sym, ap, ◌∙◌}
use Rattle.fts_types.specs.declared.settings.Settings.{Settings}
use Rattle.fts_types.specs.Settings.{AreSettings}
use Rattle.fts_commits.specs.Commit.{Commit}
use Rattle.fts_rowcodec.specs.Payload.{IsWritten, commit_payload, settings_payload}
use Rattle.fts_rowcodec.specs.Reading.{commit_of, settings_of}
use Rattle.fts_codec.proofs.Fields.{ok_is}
use Rattle.fts_rowcodec.proofs.Commits.{commit_again}
use Rattle.fts_rowcodec.proofs.SettingsRead.{settings_again}

pub payload_has_one_commit : (columns : ℕ) (x y : Commit) → IsWritten columns x → IsWritten columns y → commit_payload x ≡ commit_payload y → x ≡ y
payload_has_one_commit columns x y is_x is_y e = ok_is x y (sym (commit_again columns x is_x) ∙ ap (commit_of columns) e ∙ commit_again columns y is_y)

pub payload_has_one_settings : (x y : Settings) → AreSettings x → AreSettings y → settings_payload x ≡ settings_payload y → x ≡ y
payload_has_one_settings x y are_x are_y e = ok_is x y (sym (settings_again x are_x) ∙ ap settings_of e ∙ settings_again y are_y)
