use Rattle.std.proofs.Common.{◌≡◌, ℕ, List, ◌∷◌, ◌++◌, [], false, length, ap, sym, subst, ◌∙◌}
use Rattle.fts_sessions.specs.declared.session.Session.{Session}
use Rattle.fts_top.specs.Sessions.{is_met}
use Rattle.fts_top.specs.Kept.{mets, mets_of, IsPlace}
use Rattle.fts_top.proofs.Keeping.{at_end}
use Rattle.fts_top.proofs.sessions.Sessions.place_of.Goals as goal

pub returns-clause-some : goal.returns-clause-some
returns-clause-some c =
    let items = c.args.self.now.sessions.items in
    let none : is_met (mets_of items) c.args.number ≡ false =
    subst (λ (xs : List Session). is_met (mets_of xs) c.args.number ≡ false) c.deref.ensures.value (rw c.in_default.is at c.place_in.ensures.none) in
    let count : length items ≡ c.len-place.result = ap length (sym c.deref.ensures.value) ∙ c.deref.ensures.len ∙ sym c.len-place.ensures in
    subst (λ (xs : List Session). IsPlace (mets c.args.self.now) c.args.number c.len-place.result xs) (sym c.push_reserved.ensures.items)
    (subst (λ (n : ℕ). IsPlace (mets c.args.self.now) c.args.number n (items ++ c.new.result ∷ [])) count
    (at_end items c.args.number c.new.result none c.new.ensures.number c.new.ensures.closed))
