use Rattle.std.proofs.Common.{Some, refl, subst}
use Rattle.bit_norm.specs.Entries.{has_record}
use Rattle.bit_norm.specs.InStep.{Compared}
use Rattle.bit_norm.specs.InFront.{Comparing, Takes}
use Rattle.bit_norm.proofs.InStep.{agreed, departed}
use Rattle.bit_norm.proofs.in_step.Comparer.take_record.Goals as goal

pub returns-in_ok-pass-in-Same : goal.returns-in_ok-pass-in-Same
returns-in_ok-pass-in-Same c =
    let was = c.self.inside in
    let old : Compared =
    record { first = was.first; first_blocks = was.first_blocks; second_blocks = was.second_blocks; within = was.walk.«open».items; items = was.walk.items; first_ended = was.first_ended; second_ended = was.second_ended; found = was.found } in
    let before : Comparing = record { compared = old; passed_to = was.passed_to; whole = was.is_whole; passed = was.passed } in
    let new = c.next_beside_record.new in
    let walk = c.pass.new.self in
    let sign = has_record c.args.code c.args.values.now in
    let after : Comparing = record before { compared = record old { first = new.events; first_blocks = new.blocks; within = walk.«open».items; items = walk.items; first_ended = c.in-Same.ended; second_ended = c.args.after } } in
    subst (λ (s : Comparing). Takes s sign c.args.first c.args.after after) c.self.view_is
    (record {
      takes = λ none. agreed old new.events new.blocks walk.«open».items walk.items sign c.args.first c.args.after c.in-Same.ended new.apart none c.in_ok-pass-in-Same.ensures (rw c.in-Same.is at c.in_ok-ended.ensures);
      on = λ _. refl;
      over = λ none f some. absurd cc;
    })

pub returns-in-Other : goal.returns-in-Other
returns-in-Other c =
    let was = c.self.inside in
    let put = c.put_down.ensures in
    let old : Compared =
    record { first = was.first; first_blocks = was.first_blocks; second_blocks = was.second_blocks; within = was.walk.«open».items; items = was.walk.items; first_ended = was.first_ended; second_ended = was.second_ended; found = was.found } in
    let before : Comparing = record { compared = old; passed_to = was.passed_to; whole = was.is_whole; passed = was.passed } in
    let new : Compared = record old { first = c.next_beside_record.new.events; first_blocks = c.next_beside_record.new.blocks; found = Some put.0 } in
    let after : Comparing = record before { compared = new; passed_to = 18446744073709551615 } in
    rw put.1 (subst (λ (s : Comparing). Takes s (has_record c.args.code c.args.values.now) c.args.first c.args.after after) c.self.view_is
    (record {
      takes = λ none. departed old c.next_beside_record.new.events c.next_beside_record.new.blocks (has_record c.args.code c.args.values.now) c.args.first c.args.after put.0 c.next_beside_record.new.apart put.2 put.3 none (rw c.in-Other.is at c.in_ok-ended.ensures) put.4;
      on = λ no. absurd cc;
      over = λ _ f some. refl;
    }))
