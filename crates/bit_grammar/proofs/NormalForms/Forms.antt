-- A normal form and its tree, without limits.
use Rattle.std.proofs.Common.{◌≡◌, ℕ, ◌+◌, ◌*◌, ◌<◌, ◌≤◌, List, [], ◌∷◌, length, sym, ap, ◌∙◌, arith}
use Rattle.std.specs.List.{All}
use Rattle.bit_grammar.specs.declared.shapes.Shapes.TheVariants.{AtDefinition}
use Rattle.bit_grammar.specs.Setting.{Setting}
use Rattle.bit_grammar.specs.Under.{under}
use Rattle.bit_grammar.specs.Bits.{bits_of_bytes}
use Rattle.bit_grammar.specs.Forest.{Forest, empty, a_block, a_record, Tree, forest_values, Fit}
use Rattle.bit_grammar.specs.Blocks.{Limits}
use Rattle.bit_grammar.specs.Input.{tree_of, SpellsInput}
use Rattle.bit_grammar.specs.Terms.{Marked}
use Rattle.bit_grammar.specs.Normal.{normal_form, most_bytes, most_depth, Capped, HasTree}
use Rattle.bit_grammar.specs.Size.{shortest_length, values_length, record_length, body_at, body_length, end_of, size_of}
use Rattle.bit_grammar.proofs.Bits.Bytes.{bytes_length}
use Rattle.bit_grammar.proofs.WholeInputs.Inputs.{one_tree}
use Rattle.bit_grammar.proofs.NormalForms.Normals.{IsSpelled, form_spelled}
use Rattle.bit_grammar.proofs.NormalForms.Sizes.{form_end, form_bytes}
use Rattle.bit_grammar.proofs.NormalForms.Settings.{fit_of_setting, normal_is_spelled}

-- ---- each value takes at least six bits

short_takes : (v : ℕ) → 6 ≤ shortest_length 6 v
unfolding shortest_length
short_takes v = omega arith

values_take : (vs : List ℕ) → 6 * length vs ≤ values_length vs
values_take [] = omega arith
values_take (v ∷ vs) = omega (arith, values_take vs, short_takes v)

items_take : (f : Forest) (p : ℕ) → p + 6 * forest_values f ≤ end_of f p
unfolding end_of
items_take empty p = omega arith
items_take (a_block id inner rest) p = omega (arith, items_take inner 0, items_take rest (body_at id p + body_length inner))
items_take (a_record code values rest) p = omega (arith, values_take values, items_take rest (p + record_length code values))

-- ---- one tree of a form

-- limits that each tree with a fitting normal form keeps to
abbrev widest : Limits
widest = record { bytes = most_bytes; depth = most_depth; values = 8 * 17179869180; shapes = AtDefinition }

form_has : (tree : Tree) (bytes : List ℕ) → Fit tree → bits_of_bytes bytes ≡ normal_form tree → length bytes ≤ 17179869180 → IsSpelled widest bytes tree
form_has tree bytes fit is fits =
    form_spelled widest tree bytes (omega arith) (omega arith) fit is fits fit.depth (omega (arith, items_take tree.blocks 32, form_end tree, ap length is, bytes_length bytes, fits))

pub one_tree_of_form : (a b : Tree) → Fit a → Fit b → size_of a ≤ 17179869180 → normal_form a ≡ normal_form b → a ≡ b
one_tree_of_form a b fit fit' fits same =
    let f = form_bytes a fit.blocks in
    let within : length f.0 ≤ 17179869180 = omega (arith, f.3, fits) in
    let x = form_has a f.0 fit f.2 within in
    let y = form_has b f.0 fit' (f.2 ∙ same) within in
    sym x.2 ∙ ap tree_of (one_tree widest f.0 x.0 y.0 x.1 y.1) ∙ y.2

-- ---- the normal form of an input

pub form_of_input : (s : Setting) (limits : Limits) (bytes : List ℕ) (m : Marked) → Capped limits → SpellsInput limits bytes m → size_of (under s (tree_of m)) ≤ limits.bytes
    → (out : List ℕ) × All (λ b. b < 256) out × (bits_of_bytes out ≡ normal_form (under s (tree_of m))) × HasTree s limits out (under s (tree_of m))
form_of_input s limits bytes m capped h fits =
    let f = form_bytes (under s (tree_of m)) (fit_of_setting s limits bytes m capped h).blocks in
    (f.0, f.1, f.2, normal_is_spelled s limits bytes f.0 m capped h f.2 (omega (arith, f.3, fits)))
