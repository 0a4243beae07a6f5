use Rattle.std.proofs.Common.{◌≡◌, ℕ, Bool, List, [], ◌++◌, take, drop, ap, sym, ◌∙◌, arith, length-append}
use Rattle.std.proofs.lemmas.List.{append-nil}
use Rattle.bit_grammar.specs.Normal.{values_bits}
use Rattle.bit_fields.proofs.BitLaws.{left_after, nothing_left}
use Rattle.bit_fields.proofs.Texts.{values_in_parts, part_added, part_fits}
use Rattle.bit_fields.proofs.text.BitText.numbers.Goals as goal

pub some_numbers-requires-clause-room : goal.some_numbers-requires-clause-room
some_numbers-requires-clause-room c =
    let l = c.loop-rest in
    let k = c.min-count.result in
    part_fits l.self (values_bits (take k l.rest.now)) (values_bits (drop k l.rest.now)) (values_bits l.rest.now) (c.args.self.now ++ values_bits c.args.values.now) 4611686018427387904 (values_in_parts k l.rest.now) l.invariant (omega (arith, c.requires, length-append c.args.self.now (values_bits c.args.values.now)))

pub loop-rest-preserved : goal.loop-rest-preserved
loop-rest-preserved c =
    let l = c.loop-rest in
    let k = c.min-count.result in
    let part = values_bits (take k l.rest.now) in
    part_added l.self c.some_numbers.new.self part _ (values_bits l.rest.now) (c.args.self.now ++ values_bits c.args.values.now) (values_in_parts k l.rest.now ∙ ap (λ (xs : List ℕ). part ++ values_bits xs) (left_after k l.rest.now)) c.in_ok-some_numbers.ensures l.invariant

pub returns : goal.returns
returns c =
    let l = c.loop-rest in
    let none : values_bits l.rest.now ≡ [] = ap values_bits (nothing_left l.rest.now c.loop-rest-test.ensures) in
    sym (append-nil l.self) ∙ ap (λ (s : List Bool). l.self ++ s) (sym none) ∙ l.invariant
