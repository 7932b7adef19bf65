use Rattle.std.proofs.Common.{rules, ◌≡◌, ◌++◌, ◌∷◌, [], refl}
use Rattle.fts_cache.specs.declared.document.WordEnd.{WordEnd}
use Rattle.fts_cache.proofs.Arena.{arena_more}
use Rattle.fts_cache.proofs.document.DocWords.push.Goals as goal

pub invariant_of-self-2 : goal.invariant_of-self-2
invariant_of-self-2 c =
    let i = c.self.inside in
    let end : WordEnd = record { word = c.len.result; positions = c.len-2.result } in
    let bytes : c.extend_from_slice.new.self.items ≡ i.bytes.items ++ c.args.word.now = search rules in
    let positions : c.extend_from_slice-2.new.self.items ≡ i.positions.items ++ c.args.positions.now = search rules in
    let ends : c.push.new.self.items ≡ i.ends.items ++ end ∷ [] = search rules in
    (arena_more i.id i.size i.ends.items i.bytes.items i.positions.items c.args.self.now end c.args.word.now c.args.positions.now c.push.new.self.items c.extend_from_slice.new.self.items c.extend_from_slice-2.new.self.items _ c.self.invariant c.self.view_is c.requires
    (search rules) (search rules) ends bytes positions refl).is_arena

pub returns-clause-ok : goal.returns-clause-ok
returns-clause-ok c =
    let i = c.self.inside in
    let end : WordEnd = record { word = c.len.result; positions = c.len-2.result } in
    let bytes : c.extend_from_slice.new.self.items ≡ i.bytes.items ++ c.args.word.now = search rules in
    let positions : c.extend_from_slice-2.new.self.items ≡ i.positions.items ++ c.args.positions.now = search rules in
    let ends : c.push.new.self.items ≡ i.ends.items ++ end ∷ [] = search rules in
    (arena_more i.id i.size i.ends.items i.bytes.items i.positions.items c.args.self.now end c.args.word.now c.args.positions.now c.push.new.self.items c.extend_from_slice.new.self.items c.extend_from_slice-2.new.self.items _ c.self.invariant c.self.view_is c.requires
    (search rules) (search rules) ends bytes positions refl).view
