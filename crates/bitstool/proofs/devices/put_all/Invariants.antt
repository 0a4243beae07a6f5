use Rattle.std.proofs.Common.{◌≡◌, List, ℕ, ◌++◌, length}
use Rattle.std.specs.Io.KnownBytes.{Appends}
use Rattle.bitstool.proofs.devices.put_all.Given as goal

abbrev pub invariant-loop-rest : goal.invariant-loop-rest
invariant-loop-rest g l = (part : List ℕ) × (l.fn.text ≡ part ++ l.rest) × Appends (g.K.Sink.outgoing l.initial.sink).bytes (g.K.Sink.outgoing l.sink).bytes part × ((g.K.Sink.outgoing l.sink).failures ≡ (g.K.Sink.outgoing l.initial.sink).failures)

abbrev pub decreases-loop-rest : goal.decreases-loop-rest
decreases-loop-rest g l = length l.rest
