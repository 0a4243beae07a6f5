use Rattle.std.proofs.Common.{take}
use Rattle.clap.specs.Walk.{texts}
use Rattle.bitstool.specs.Names.{NameEach, NamesBlock}
use Rattle.bitstool.proofs.names.blocks_named.Given as goal

abbrev pub invariant-loop-text : goal.invariant-loop-text
invariant-loop-text l = NameEach NamesBlock (take l.text-index (texts l.given)) l.ids.items
