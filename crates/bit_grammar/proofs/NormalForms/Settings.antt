-- The trees of an input under each setting, and their normal forms.
use Rattle.std.proofs.Common.{◌≡◌, ℕ, ◌≤◌, List, length, sym, ap, ◌∙◌, arith}
use Rattle.bit_grammar.specs.Setting.{Setting, keep}
use Rattle.bit_grammar.specs.Bits.{bits_of_bytes}
use Rattle.bit_grammar.specs.Forest.{Tree, forest_depth, forest_values, Fit}
use Rattle.bit_grammar.specs.Under.{under}
use Rattle.bit_grammar.specs.Blocks.{Limits}
use Rattle.bit_grammar.specs.Input.{tree_of, SpellsInput}
use Rattle.bit_grammar.specs.Terms.{Marked}
use Rattle.bit_grammar.specs.Normal.{normal_form, Capped, HasTree}
use Rattle.bit_grammar.proofs.WholeInputs.Inputs.{one_tree}
use Rattle.bit_grammar.proofs.WholeInputs.Limits.{limits_judged}
use Rattle.bit_grammar.proofs.NormalForms.Normals.{IsSpelled, whole_spelled}
use Rattle.bit_grammar.proofs.NormalForms.Fits.{fit_of_spelled, depth_kept, values_kept}
use Rattle.bit_grammar.proofs.NormalForms.Under.{tree_kept, under_again, depth_under, values_under, fit_under}

pub fit_of_setting : (s : Setting) (limits : Limits) (bytes : List ℕ) (m : Marked) → Capped limits → SpellsInput limits bytes m → Fit (under s (tree_of m))
fit_of_setting s limits bytes m capped h = fit_under s (tree_of m) (fit_of_spelled limits bytes m capped h)

-- an input has a tree under a setting exactly if it has a whole one of which that is left
pub whole_of : (s : Setting) (limits : Limits) (bytes : List ℕ) (tree : Tree) → HasTree s limits bytes tree → (all : Tree) × HasTree keep limits bytes all × (under s all ≡ tree)
whole_of s limits bytes tree h = (tree_of h.0, (h.0, h.1, tree_kept (tree_of h.0)), h.2)

pub left_of : (s : Setting) (limits : Limits) (bytes : List ℕ) (all : Tree) → HasTree keep limits bytes all → HasTree s limits bytes (under s all)
left_of s limits bytes all h = (h.0, h.1, ap (under s) (sym (tree_kept (tree_of h.0)) ∙ h.2))

depth_of_setting : (s : Setting) (limits : Limits) (bytes : List ℕ) (m : Marked) → SpellsInput limits bytes m → forest_depth (under s (tree_of m)).blocks ≤ limits.depth
depth_of_setting s limits bytes m h =
    let within = (limits_judged limits limits bytes m h).0 h in
    omega (arith, depth_under s 0 (tree_of m).blocks, depth_kept m.blocks, within.1)

values_of_setting : (s : Setting) (limits : Limits) (bytes : List ℕ) (m : Marked) → SpellsInput limits bytes m → forest_values (under s (tree_of m)).blocks ≤ limits.values
values_of_setting s limits bytes m h =
    let within = (limits_judged limits limits bytes m h).0 h in
    omega (arith, values_under s 0 (tree_of m).blocks, values_kept m.blocks, within.2)

-- the normal form spells a whole tree, of which the setting leaves out nothing
spelled_whole : (s : Setting) (limits : Limits) (bytes out : List ℕ) (m : Marked) → Capped limits → SpellsInput limits bytes m → bits_of_bytes out ≡ normal_form (under s (tree_of m)) → length out ≤ limits.bytes → IsSpelled limits out (under s (tree_of m))
spelled_whole s limits bytes out m capped h is fits =
    whole_spelled limits (under s (tree_of m)) out capped (fit_of_setting s limits bytes m capped h) is fits (depth_of_setting s limits bytes m h) (values_of_setting s limits bytes m h)

pub normal_is_spelled : (s : Setting) (limits : Limits) (bytes out : List ℕ) (m : Marked) → Capped limits → SpellsInput limits bytes m → bits_of_bytes out ≡ normal_form (under s (tree_of m)) → length out ≤ limits.bytes → HasTree s limits out (under s (tree_of m))
normal_is_spelled s limits bytes out m capped h is fits = (let x = spelled_whole s limits bytes out m capped h is fits in (x.0, x.1, ap (under s) x.2 ∙ under_again s (tree_of m)))

-- and spells no other
pub normal_whole : (s : Setting) (limits : Limits) (bytes out : List ℕ) (m n : Marked) → Capped limits → SpellsInput limits bytes m → bits_of_bytes out ≡ normal_form (under s (tree_of m)) → length out ≤ limits.bytes → SpellsInput limits out n → tree_of n ≡ under s (tree_of m)
normal_whole s limits bytes out m n capped h is fits k =
    let x = spelled_whole s limits bytes out m capped h is fits in
    ap tree_of (one_tree limits out n x.0 k x.1) ∙ x.2

pub normal_once : (s : Setting) (limits : Limits) (bytes out : List ℕ) (m n : Marked) → Capped limits → SpellsInput limits bytes m → bits_of_bytes out ≡ normal_form (under s (tree_of m)) → length out ≤ limits.bytes → SpellsInput limits out n → under s (tree_of n) ≡ under s (tree_of m)
normal_once s limits bytes out m n capped h is fits k =
    let x = normal_is_spelled s limits bytes out m capped h is fits in
    ap (λ (y : Marked). under s (tree_of y)) (one_tree limits out n x.0 k x.1) ∙ x.2

pub normal_again : (s : Setting) (limits : Limits) (bytes out : List ℕ) (m n : Marked) → Capped limits → SpellsInput limits bytes m → bits_of_bytes out ≡ normal_form (under s (tree_of m)) → length out ≤ limits.bytes → SpellsInput limits out n → bits_of_bytes out ≡ normal_form (under s (tree_of n))
normal_again s limits bytes out m n capped h is fits k = is ∙ ap normal_form (sym (normal_once s limits bytes out m n capped h is fits k))

pub same_normal : (s : Setting) (limits : Limits) (bytes bytes' out : List ℕ) (m n : Marked) → Capped limits → SpellsInput limits bytes m → SpellsInput limits bytes' n → bits_of_bytes out ≡ normal_form (under s (tree_of m)) → bits_of_bytes out ≡ normal_form (under s (tree_of n)) → length out ≤ limits.bytes → under s (tree_of m) ≡ under s (tree_of n)
same_normal s limits bytes bytes' out m n capped h k is is' fits =
    let x = normal_is_spelled s limits bytes out m capped h is fits in
    sym x.2 ∙ normal_once s limits bytes' out n x.0 capped k is' fits x.1
