use Rattle.std.proofs.Common.{◌∙◌, refl, arith}
use Rattle.fts_log.proofs.Finding.{stands_found}
use Rattle.fts_log.proofs.records.Records.into_log.Goals as goal

pub invariant_of-result : goal.invariant_of-result
invariant_of-result g c =
    let found = c.args.self.found in
    record {
      whole_magic = c.args.self.whole_magic;
      limited = c.requires;
      ends_within = omega (arith, found.within);
      spaced = omega (arith, found.few, c.len-count.ensures);
      closed = omega arith;
      reaches = λ told. omega (arith, c.args.self.closed told c.if-not-found.false);
      found_within = found.before;
    }

pub returns-clause-whole : goal.returns-clause-whole
returns-clause-whole g c told entries holds =
    (stands_found _ entries c.args.self.found _ holds.found refl holds.durable refl (c.len-count.ensures ∙ c.args.self.found.ends.ok.0) refl c.if-not-found.false).0
