use Rattle.std.proofs.Common.{◌≡◌, ◌++◌, map}
use Rattle.bit_scan.specs.CodesView.{code_tallies}
use Rattle.bit_c.specs.Rows.{code_told}
use Rattle.bit_c.proofs.analysing.add_codes.Given as goal

abbrev pub invariant-loop-code : goal.invariant-loop-code
invariant-loop-code l = l.initial.out.items ++ map code_told (code_tallies l.codes) ≡ l.out.items ++ map code_told (code_tallies l.code-iterator)
