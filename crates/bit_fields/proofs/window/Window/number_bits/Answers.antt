use Rattle.std.proofs.Common.{get_or, arith}
use Rattle.std.specs.Int.Count.{trailing_of_zero}
use Rattle.bit_fields.specs.declared.window.TheConstants.{FOUR_TOPS}
use Rattle.bit_fields.proofs.Short.{bits_seen, tops_listed}
use Rattle.bit_fields.proofs.window.Window.number_bits.Goals as goal

pub returns-clause-ends : goal.returns-clause-ends
returns-clause-ends c = λ few. bits_seen c.args.n c.self.inside.held c.self.inside.word (get_or FOUR_TOPS c.args.n 0) c.args.self.now c.requires.some c.requires.few c.self.invariant.0 c.self.view_is c.self.invariant.1 (tops_listed c.args.n c.requires.some c.requires.few)
    (λ none. let at_none = rw none at few in absurd (omega (arith, at_none, trailing_of_zero 64)))
