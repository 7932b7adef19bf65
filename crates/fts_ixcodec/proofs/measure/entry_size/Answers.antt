use Rattle.std.proofs.Common.{sym, ap, ◌∙◌}
use Rattle.fts_entries.specs.Entry.IndexEntry.{sealed}
use Rattle.fts_ixcodec.specs.Seen.{seen}
use Rattle.fts_ixcodec.proofs.Walks.{size_some, size_none}
use Rattle.fts_ixcodec.proofs.measure.entry_size.Goals as goal

pub returns-in-Sealed-clause-some : goal.returns-in-Sealed-clause-some
returns-in-Sealed-clause-some c =
    let through = c.in-Sealed.through in
    let synced = c.in-Sealed.synced in
    size_some c.sealed_size.result c.deref.result.now through synced (seen c.args.entry.now) (ap seen c.in-Sealed.is ∙ ap (sealed through synced) (sym c.deref.ensures.value)) c.sealed_size.ensures.some

pub returns-in-Sealed-clause-none : goal.returns-in-Sealed-clause-none
returns-in-Sealed-clause-none c =
    let through = c.in-Sealed.through in
    let synced = c.in-Sealed.synced in
    size_none c.sealed_size.result c.deref.result.now through synced (seen c.args.entry.now) (ap seen c.in-Sealed.is ∙ ap (sealed through synced) (sym c.deref.ensures.value)) c.sealed_size.ensures.none
