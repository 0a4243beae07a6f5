use Rattle.std.proofs.Common.{◌≡◌, true, sym, ◌∙◌, arith, refl}
use Rattle.std.proofs.lemmas.Bool.{false≢true}
use Rattle.bit_fields.proofs.InflowLaws.{Keeps-refl}
use Rattle.bit_fields.proofs.Parts.{fills_exact, Filled, live_from, took_as, missed_as}
use Rattle.bit_fields.proofs.reader.BitReader.part.Goals as goal
use Rattle.bit_fields.proofs.reader.BitReader.part.Goals.{then-bits_held-n+else-not-self+in-Ok, else-bits_held-n}

pub invariant_of-self : goal.invariant_of-self
invariant_of-self g c = record {
  exact = λ e. fills_exact c.args.n c.self.inside.position c.self.inside.inflow c.fill.new.self c.in-Err.missing c.in-Err.ensures (c.self.invariant.exact c.if-not-self.false);
  empty = λ e. absurd (false≢true (sym e ∙ c.if-not-self.false));
}

pub returns-in-Err-clause-takes : goal.returns-in-Err-clause-takes
returns-in-Err-clause-takes g c = missed_as c.args.n c.args.first c.self.inside.position c.self.inside.live c.self.inside.inflow c.fill.new.self c.in-Err.missing c.args.self.now c.miss.new.self c.miss.result c.if-not-self.false c.self.view_is c.in-Err.ensures c.miss.ensures.fault c.miss.ensures.stopped

pub returns-clause-takes : goal.returns-clause-takes
returns-clause-takes g c =
    let filled : Filled c.args.n c.self.inside.position c.self.inside.inflow c.if-bits_held-n.self-inside.live c.if-bits_held-n.self-inside.position c.if-bits_held-n.self-inside.inflow =
    elim c.if-bits_held-n.branch [
      | then-bits_held-n+else-not-self+in-Ok w ↦ rw w.self-inside-is (record { live = w.if-not-self.false; position = refl; keeps = w.in-Ok.ensures.0; there = w.in-Ok.ensures.1 })
      | else-bits_held-n w ↦ rw w.self-inside-is (record { live = live_from c.self.inside.live c.self.inside.inflow.window c.args.n c.self.invariant.empty c.requires.some (omega arith); position = refl; keeps = Keeps-refl c.self.inside.inflow; there = omega arith })
    ] in
    let was : c.self.inside.live ≡ true = elim c.if-bits_held-n.branch [
      | then-bits_held-n+else-not-self+in-Ok w ↦ w.if-not-self.false
      | else-bits_held-n w ↦ live_from c.self.inside.live c.self.inside.inflow.window c.args.n c.self.invariant.empty c.requires.some (omega arith)
    ] in
    took_as c.args.n c.args.first c.self.inside.position c.if-bits_held-n.self-inside.position c.take-value.result _ c.self.inside.live c.if-bits_held-n.self-inside.live c.self.inside.inflow c.if-bits_held-n.self-inside.inflow c.take-value.new.self c.args.self.now was c.self.view_is filled c.take-value.ensures.value (omega arith) c.take-value.ensures.rest
