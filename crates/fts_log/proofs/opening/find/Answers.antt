use Rattle.std.proofs.Common.{◌∙◌, ap, take, length, arith}
use Rattle.fts_disk.specs.Device.{Files}
use Rattle.fts_log.proofs.Finding.{no_magic}
use Rattle.fts_log.proofs.opening.find.Goals as goal

pub returns-then-not-begins_with-clause-damaged : goal.returns-then-not-begins_with-clause-damaged
returns-then-not-begins_with-clause-damaged g c at is_err told = (
  cc,
  λ rest is.
      let same = ap (λ (files : Files). files 0) (c.len.ensures.seen told) in
      let before = ap (λ (files : Files). files 0) (c.sync.ensures.seen told) in
      no_magic _ c.in_ok-window.window.bytes.items c.args.magic c.in_ok-window.window.start c.begins_with.result (c.in_ok-window.ensures.shows told) c.in_ok-window.ensures.start
      (omega (arith, c.in_ok-window.ensures.size, c.in_ok-file_length.ensures.length told, ap length same)) c.begins_with.ensures.width
      (λ begins. c.begins_with.ensures.begins.1 (ap (take 8) c.deref.ensures.value ∙ begins)) c.if-not-begins_with.true rest (same ∙ before ∙ is),
)
