use Rattle.std.proofs.Common.{take}
use Rattle.clap.specs.Walk.{texts}
use Rattle.bitstool.specs.Names.{NameEach, NamesRecord}
use Rattle.bitstool.proofs.names.records_named.Given as goal

abbrev pub invariant-loop-text : goal.invariant-loop-text
invariant-loop-text l = NameEach NamesRecord (take l.text-index (texts l.given)) l.names.items
