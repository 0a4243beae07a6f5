use Rattle.std.proofs.Common.{◌≡◌, ℕ, Bool, List, [], ◌++◌, length, take, ap, sym, ◌∙◌, arith, length-append}
use Rattle.std.proofs.lemmas.List.{append-nil}
use Rattle.bit_grammar.specs.Bits.{bits_of_bytes}
use Rattle.bit_fields.proofs.BitLaws.{length-bits_of_bytes, left_after, nothing_left}
use Rattle.bit_fields.proofs.Texts.{in_parts, part_added}
use Rattle.bit_fields.proofs.text.BitText.add_bytes.Goals as goal

pub add_some_bytes-requires-clause-room : goal.add_some_bytes-requires-clause-room
add_some_bytes-requires-clause-room c =
    let l = c.loop-rest in
    omega (arith, c.requires, ap length l.invariant, length-append l.self (bits_of_bytes l.rest.now), length-append c.args.self.now (bits_of_bytes c.args.bytes.now), length-bits_of_bytes c.args.bytes.now)

pub loop-rest-preserved : goal.loop-rest-preserved
loop-rest-preserved c =
    let l = c.loop-rest in
    let k = c.min-count.result in
    let part = bits_of_bytes (take k l.rest.now) in
    part_added l.self c.add_some_bytes.new.self part _ (bits_of_bytes l.rest.now) (c.args.self.now ++ bits_of_bytes c.args.bytes.now) (in_parts k l.rest.now ∙ ap (λ (xs : List ℕ). part ++ bits_of_bytes xs) (left_after k l.rest.now)) c.in_ok-add_some_bytes.ensures l.invariant

pub returns : goal.returns
returns c =
    let l = c.loop-rest in
    let none : bits_of_bytes l.rest.now ≡ [] = ap bits_of_bytes (nothing_left l.rest.now c.loop-rest-test.ensures) in
    sym (append-nil l.self) ∙ ap (λ (s : List Bool). l.self ++ s) (sym none) ∙ l.invariant
