use Rattle.std.proofs.Common.{◌≡◌, ◌≤◌, ◌∙◌, length, min, take, drop, sym, ap, arith, length-append}
use Rattle.bit_fields.specs.Packed.{first_apart}
use Rattle.bit_fields.proofs.Unlike.{zeros_same, apart_before}
use Rattle.bit_fields.proofs.packed.PackedValues.first_apart.Goals as goal

pub returns : goal.returns
returns c =
    let a = c.args.self.now in
    let b = c.args.other.now in
    let s = c.self.inside in
    let o = c.other.inside in
    let i = c.min-zeros.result in
    let k = c.max-behind.result in
    let le : min (length s.settled) (length o.settled) ≤ c.min-both.result = omega (arith, ap length c.self.view_is, ap length c.other.view_is, length-append s.settled (take s.held s.recent), length-append o.settled (take o.held o.recent)) in
    let passed : first_apart i (drop i a) (drop i b) ≡ first_apart k (drop k a) (drop k b) = rw (← c.self.view_is, ← c.other.view_is) (zeros_same c.before_zeros.result c.before_zeros-2.result i k c.min-both.result s.settled (take s.held s.recent) o.settled (take o.held o.recent) c.before_zeros.ensures.zeros c.before_zeros-2.ensures.zeros (omega arith) (omega arith) le) in
    apart_before c.apart_within-2.result (first_apart k (drop k a) (drop k b)) c.min-both.result a b (omega arith) c.apart_within-2.ensures.found c.apart_within-2.ensures.none
    ∙ sym passed ∙ sym c.in_default.ensures.none
