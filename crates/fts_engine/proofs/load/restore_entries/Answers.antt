use Rattle.std.proofs.Common.{◌≡◌, ℕ, length, subst, sym, ap, arith, ◌∙◌}
use Rattle.fts_log.specs.Record.{gate_at}
use Rattle.fts_log.proofs.Reading.{as_many, read_none}
use Rattle.fts_engine.specs.Loading.{IsRestored, IsWrongEntry}
use Rattle.fts_engine.proofs.BothLogs.{both_none, both_more, both_told}
use Rattle.fts_engine.proofs.load.restore_entries.Goals as goal

pub loop-j-init : goal.loop-j-init
loop-j-init g c = record {
  restored = λ told told' all read holds holds' was. was;
  stays = λ told all holds was. was;
  flushed = c.requires;
  reads = both_none c.args.rows.now c.args.entries.now
      (λ told. read_none c.args.rows.now (λ files left. g.met.D.Disk.only_now _ files told left))
      (λ told. read_none c.args.entries.now (λ files left. g.met.E.Disk.only_now _ files told left));
}

pub loop-j-preserved : goal.loop-j-preserved
loop-j-preserved g c =
    let before = c.loop-j.invariant.reads in record {
      restored = λ told told' all read holds holds' was.
          c.in-Ok-true.ensures.restored (let same = c.in-Ok-true.is in cc) told told' all read
          ((before.of_rows told).stays all holds) ((before.of_index told').stays read holds') (c.loop-j.invariant.restored told told' all read holds holds' was);
      stays = λ told all holds was. c.in-Ok-true.ensures.stays told all ((before.of_rows told).stays all holds) (c.loop-j.invariant.stays told all holds was);
      flushed = c.in-Ok-true.ensures.flushed (let same = c.in-Ok-true.is in cc);
      reads = both_more ⊥ c.args.rows.now c.loop-j.rows c.restore_entry.new.rows c.args.entries.now c.loop-j.entries c.restore_entry.new.entries before
          (both_told _ ⊥ _ _ _ _ (λ none. absurd none) (λ told. let no = told in cc) c.in-Ok-true.ensures.reads);
    }

pub returns-clause-restored : goal.returns-clause-restored
returns-clause-restored g c e told told' all read holds holds' was =
    let whole : c.loop-j.j ≡ length read = omega (arith, as_many read c.args.entries.now holds', c.count-count.ensures, c.loop-j-test.false, c.loop-j.auto.j-end) in
    subst (λ (n : ℕ). IsRestored all read n c.loop-j.restoring) whole (c.loop-j.invariant.restored told told' all read holds holds' was)

pub returns-in-Ok-false-clause-refused : goal.returns-in-Ok-false-clause-refused
returns-in-Ok-false-clause-refused g c at e told told' all read holds holds' was =
    let j = c.loop-j.j in
    let before = c.loop-j.invariant.reads in
    let ensured = c.in-Ok-false.ensures in
    let holds_mid = (before.of_index told').stays read holds' in
    let refused = ensured.refused (let same = c.in-Ok-false.is in cc) told told' all read ((before.of_rows told).stays all holds) holds_mid
    (c.loop-j.invariant.restored told told' all read holds holds' was) in
    let told_place : c.place_of.result ≡ at = (let same = e in cc) in
    record {
      j = j;
      within = omega (arith, as_many read c.args.entries.now holds', c.count-count.ensures, c.loop-j-test.true);
      place = sym told_place ∙ c.place_of.ensures told' read ((ensured.reads.of_index told').stays read holds_mid)
          ∙ ap (λ magic. gate_at magic read j) (ensured.reads.many_index.magic ∙ before.many_index.magic);
      is = refused.1;
    }

pub returns-in-Ok-false-clause-stays : goal.returns-in-Ok-false-clause-stays
returns-in-Ok-false-clause-stays g c told all holds was =
    c.in-Ok-false.ensures.stays told all ((c.loop-j.invariant.reads.of_rows told).stays all holds) (c.loop-j.invariant.stays told all holds was)

pub returns-in-Ok-false-clause-reads : goal.returns-in-Ok-false-clause-reads
returns-in-Ok-false-clause-reads g c =
    both_more _ c.args.rows.now c.loop-j.rows c.restore_entry.new.rows c.args.entries.now c.loop-j.entries c.restore_entry.new.entries c.loop-j.invariant.reads
    (both_told _ _ _ _ _ _ (λ told. let no = told in cc) (λ told. let no = told in cc) c.in-Ok-false.ensures.reads)

pub returns-in-Err-clause-damaged : goal.returns-in-Err-clause-damaged
returns-in-Err-clause-damaged g c at e told all holds was =
    let before = c.loop-j.invariant.reads in
    subst (λ magic. IsWrongEntry magic all at) before.many_rows.magic
    (c.in-Err.ensures.damaged at (let same = e in cc) told all ((before.of_rows told).stays all holds) (c.loop-j.invariant.stays told all holds was))

pub returns-in-Err-clause-reads : goal.returns-in-Err-clause-reads
returns-in-Err-clause-reads g c =
    both_more _ c.args.rows.now c.loop-j.rows c.restore_entry.new.rows c.args.entries.now c.loop-j.entries c.restore_entry.new.entries c.loop-j.invariant.reads
    (both_told _ _ _ _ _ _ (λ told. let same = told in cc) (λ told. let same = told in cc) c.in-Err.ensures.reads)
