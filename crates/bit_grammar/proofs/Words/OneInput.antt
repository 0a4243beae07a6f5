-- In the words of the format alone an input has at most one marked tree.
use Rattle.std.proofs.Common.{◌≡◌, ℕ, ◌+◌, List, length, arith}
use Rattle.bit_grammar.specs.declared.shapes.Shapes.TheVariants.{AtUse}
use Rattle.bit_grammar.specs.Bits.{bits_of_bytes}
use Rattle.bit_grammar.specs.Marks.{depth_in, values_in}
use Rattle.bit_grammar.specs.Blocks.{Limits}
use Rattle.bit_grammar.specs.Terms.{Marked}
use Rattle.bit_grammar.specs.FormatInput.{IsInput}
use Rattle.bit_grammar.proofs.WholeInputs.Inputs.{one_tree}
use Rattle.bit_grammar.proofs.WholeInputs.Limits.{all_pass}
use Rattle.bit_grammar.proofs.Words.InputWords.{input_agrees}

-- limits to which two trees keep
abbrev wide : List ℕ → Marked → Marked → Limits
wide bytes m n = record { bytes = length bytes; depth = depth_in m.blocks + depth_in n.blocks; values = values_in m.blocks + values_in n.blocks; shapes = AtUse }

pub one_tree_in_words : (bytes : List ℕ) (m n : Marked) → IsInput m (bits_of_bytes bytes) → IsInput n (bits_of_bytes bytes) → m ≡ n
one_tree_in_words bytes m n a b =
    let limits = wide bytes m n in
    one_tree limits bytes m n
    ((input_agrees limits bytes m).1 (a, omega arith, omega arith, omega arith, all_pass m.blocks))
    ((input_agrees limits bytes n).1 (b, omega arith, omega arith, omega arith, all_pass n.blocks))
