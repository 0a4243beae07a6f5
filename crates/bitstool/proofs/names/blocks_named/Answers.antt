use Rattle.std.proofs.Common.{rules, ◌≡◌, ◌+◌, ◌<◌, ◌++◌, [], ◌∷◌, suc, length, arith}
use Rattle.bitstool.specs.Names.{NamesBlock}
use Rattle.bitstool.proofs.Naming.{names_next}
use Rattle.bitstool.proofs.names.blocks_named.Goals as goal

pub loop-text-preserved : goal.loop-text-preserved
loop-text-preserved c =
    let one_more : c.loop-text.text-index + 1 ≡ suc c.loop-text.text-index = omega arith in
    let inside : c.loop-text.text-index < length c.args.given.now = search rules in
    let grown : c.push.new.self.items ≡ c.loop-text.ids.items ++ c.in-Some.id ∷ [] = search rules in
    rw (one_more, grown) (names_next NamesBlock c.args.given.now c.loop-text.ids.items c.loop-text.text-index _ c.in-Some.id inside c.loop-text.invariant c.in-Some.ensures)
