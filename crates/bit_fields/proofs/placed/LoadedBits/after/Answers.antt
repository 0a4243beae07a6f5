use Rattle.std.proofs.Common.{◌/◌, ◌^◌, sym, ap, ◌∙◌, subst, arith}
use Rattle.std.proofs.lemmas.Nat.{shr_le}
use Rattle.bit_fields.specs.Buffered.{BufferedBits, beyond}
use Rattle.bit_fields.specs.Placed.{Shows}
use Rattle.bit_fields.specs.PlacedView.{loaded}
use Rattle.bit_fields.proofs.Placing.{shows_after}
use Rattle.bit_fields.proofs.placed.LoadedBits.after.Goals as goal

pub invariant_of-result : goal.invariant_of-result
invariant_of-result c =
    let ends = c.args.self.ends in
    let n = c.args.n in
    record {
      word = omega (arith, shr_le ends n);
      shows = subst (λ (a : BufferedBits). Shows (ends / 2 ^ n) a.bits) (sym (c.after.ensures.rest ∙ ap (beyond (loaded c.args.self)) c.from.ensures)) (shows_after n ends (loaded c.args.self).bits c.args.self.word c.args.self.shows);
    }
