use Rattle.std.proofs.Common.{◌≡◌, ◌-◌, true, ℕ, List, length, take, drop, sym, ◌∙◌, rules}
use Rattle.std.proofs.lemmas.List.{length-take-le}
use Rattle.bit_grammar.specs.declared.op.Op.{Op}
use Rattle.bit_grammar.specs.Definition.{has_shape}
use Rattle.bit_grammar.specs.FormatDefinition.{op_at}
use Rattle.bit_abbrev.specs.Operands.{others_of}
use Rattle.bit_abbrev.proofs.PlanParts.{in_three}
use Rattle.bit_abbrev.proofs.Records.{in_parts}
use Rattle.bit_abbrev.proofs.plan.Plan.of.Goals as goal

pub returns : goal.returns
returns c = λ planned.
    let ops : List Op = c.ops.result.now in
    let others : List Op = others_of ops in
    let n : ℕ = c.take_front-count.result in
    let usable : has_shape c.args.«abbrev».now ≡ true = search rules in
    record {
      others = take n others;
      tail = take (length others - n) (drop n others);
      all = sym c.ops.ensures.items ∙ in_three ops others (op_at ops 0) c.in-Literal.code n (in_parts ops c.in-len1-up.len_at_least) c.in-Literal.is c.take_front-count.ensures.within;
      shape = usable;
      count = length-take-le n others c.take_front-count.ensures.within;
      covers = c.take_front-count.ensures.covers;
      rest = c.rest_of-rest.ensures.rest;
    }
