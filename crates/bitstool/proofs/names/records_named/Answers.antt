use Rattle.std.proofs.Common.{rules, ◌≡◌, ◌+◌, ◌<◌, ◌++◌, [], ◌∷◌, suc, length, arith}
use Rattle.bitstool.specs.Names.{NamesRecord}
use Rattle.bitstool.proofs.Naming.{names_next}
use Rattle.bitstool.proofs.names.records_named.Goals as goal

pub loop-text-preserved : goal.loop-text-preserved
loop-text-preserved c =
    let one_more : c.loop-text.text-index + 1 ≡ suc c.loop-text.text-index = omega arith in
    let inside : c.loop-text.text-index < length c.args.given.now = search rules in
    let grown : c.push.new.self.items ≡ c.loop-text.names.items ++ c.in-Some.name ∷ [] = search rules in
    rw (one_more, grown) (names_next NamesRecord c.args.given.now c.loop-text.names.items c.loop-text.text-index _ c.in-Some.name inside c.loop-text.invariant c.in-Some.ensures)
