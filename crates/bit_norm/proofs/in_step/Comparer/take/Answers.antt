use Rattle.std.proofs.Common.{Some, refl, subst}
use Rattle.bit_norm.specs.InStep.{Compared, sign_shown}
use Rattle.bit_norm.specs.InFront.{Comparing, Takes}
use Rattle.bit_norm.proofs.InStep.{departed}
use Rattle.bit_norm.proofs.in_step.Comparer.take.Goals as goal

pub returns-in-Other : goal.returns-in-Other
returns-in-Other c =
    let was = c.self.inside in
    let put = c.put_down.ensures in
    let old : Compared =
    record { first = was.first; first_blocks = was.first_blocks; second_blocks = was.second_blocks; within = was.walk.«open».items; items = was.walk.items; first_ended = was.first_ended; second_ended = was.second_ended; found = was.found } in
    let before : Comparing = record { compared = old; passed_to = was.passed_to; whole = was.is_whole; passed = was.passed } in
    let new : Compared = record old { first = c.next_beside.new.events; first_blocks = c.next_beside.new.blocks; found = Some put.0 } in
    let after : Comparing = record before { compared = new; passed_to = 18446744073709551615 } in
    rw put.1 (subst (λ (s : Comparing). Takes s (sign_shown c.args.sign) c.args.bit c.args.ended after) c.self.view_is
    (record {
      takes = λ none. departed old c.next_beside.new.events c.next_beside.new.blocks (sign_shown c.args.sign) c.args.bit c.args.ended put.0 c.next_beside.new.apart put.2 put.3 none (rw c.in-Other.is at c.in_ok-first_ended.ensures) put.4;
      on = λ no. absurd cc;
      over = λ _ f some. refl;
    }))
