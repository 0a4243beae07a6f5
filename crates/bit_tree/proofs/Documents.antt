-- Judging a tree.
use Rattle.std.proofs.Common.{◌≡◌, ◌≢◌, ℕ, ◌^◌, ◌<◌, ◌≤◌, Bool, true, false, ◌&&◌, if◌then◌else◌, ◌==◌, List, [], ◌∷◌, refl, nat_lt, arith}
use Rattle.std.proofs.lemmas.Bool.{eqb-true}
use Rattle.std.proofs.lemmas.Bool.Decides.{nat_tests}
use Rattle.bit_grammar.specs.Forest.{Forest, empty, a_block, a_record, Tree, Fit, FitForest, AreBlocks, DescribesBlocks, wrapper_magic, forest_depth}
use Rattle.bit_tree.specs.Judging.{InRange, KeepsInfoRule, IsFirstReason, describes_blocks, keeps_info_rule}
use Rattle.bit_tree.specs.declared.document.DocumentReason.{DocumentReason}
use Rattle.bit_tree.specs.declared.document.DocumentReason.TheVariants.{WrapperMagic, DepthOver255, BlockInfoRule}
use Rattle.bit_tree.specs.TreeView.{forest_of_blocks, tree_with}
use Rattle.bit_tree.specs.declared.tree.Block.{Block}

both_true : (a b : Bool) → a && b ≡ true → (a ≡ true) × (b ≡ true)
both_true true b h = (refl, h)
both_true false b h = absurd cc

if_true : (a b : Bool) → (a ≡ true → b ≡ true) → (if a then b else true) ≡ true
if_true true b h = h refl
if_true false b h = refl

-- ---- the test of the rule is the rule

test_describes : (described : Bool) (f : Forest) → describes_blocks described f ≡ true → DescribesBlocks described f
test_describes described empty h = tt
test_describes described (a_block id inner rest) h = absurd cc
test_describes described (a_record code values rest) h = let p = both_true _ _ h in (p.0, test_describes true rest p.1)

describes_test : (described : Bool) (f : Forest) → DescribesBlocks described f → describes_blocks described f ≡ true
describes_test described empty d = refl
describes_test described (a_block id inner rest) d = absurd d
describes_test described (a_record code values rest) d = rw d.0 (describes_test true rest d.1)

test_keeps : (f : Forest) → keeps_info_rule f ≡ true → KeepsInfoRule f
test_keeps empty h = tt
test_keeps (a_block id inner rest) h =
    let first = if id == 0 then describes_blocks false inner else true in
    let p = both_true (first && keeps_info_rule inner) (keeps_info_rule rest) h in
    let q = both_true first (keeps_info_rule inner) p.0 in
    (λ (e : id ≡ 0). test_describes false inner (rw e at q.0), test_keeps inner q.1, test_keeps rest p.1)
test_keeps (a_record code values rest) h = test_keeps rest h

keeps_test : (f : Forest) → KeepsInfoRule f → keeps_info_rule f ≡ true
keeps_test empty k = refl
keeps_test (a_block id inner rest) k =
    rw (if_true (id == 0) (describes_blocks false inner) (λ (e : (id == 0) ≡ true). describes_test false inner (k.0 (eqb-true id 0 e))), keeps_test inner k.1) (keeps_test rest k.2)
keeps_test (a_record code values rest) k = keeps_test rest k

-- ---- fit trees

fit_of : (f : Forest) → InRange f → KeepsInfoRule f → FitForest f
fit_of empty r k = tt
fit_of (a_block id inner rest) r k = (r.0, k.0, fit_of inner r.1 k.1, fit_of rest r.2 k.2)
fit_of (a_record code values rest) r k = (r.0, r.1, fit_of rest r.2 k)

rule_of_fit : (f : Forest) → FitForest f → KeepsInfoRule f
rule_of_fit empty fit = tt
rule_of_fit (a_block id inner rest) fit = (fit.1, rule_of_fit inner fit.2, rule_of_fit rest fit.3)
rule_of_fit (a_record code values rest) fit = rule_of_fit rest fit.2

are_blocks : (blocks : List Block) → AreBlocks (forest_of_blocks blocks)
are_blocks [] = tt
are_blocks (b ∷ blocks) = are_blocks blocks

-- a magic and blocks that were judged are a fit tree
judged_fit : (magic : List ℕ) (blocks : List Block) → (tree_with magic blocks).magic < 2 ^ 32 → (tree_with magic blocks).magic ≢ wrapper_magic →
    InRange (forest_of_blocks blocks) → forest_depth (forest_of_blocks blocks) ≤ 255 → KeepsInfoRule (forest_of_blocks blocks) → Fit (tree_with magic blocks)
judged_fit magic blocks fits bare range depth rule = record { magic = fits; bare = bare; blocks = are_blocks blocks; fit = fit_of (forest_of_blocks blocks) range rule; depth = depth }

-- the results of the tests of a document's parts, if its magic and depth passed
pub record Passed (magic : List ℕ) (blocks : List Block) : Type 0 where
  pub fits : (tree_with magic blocks).magic < 2 ^ 32
  pub bare : (tree_with magic blocks).magic ≢ wrapper_magic
  pub range : InRange (forest_of_blocks blocks)
  pub depth : forest_depth (forest_of_blocks blocks) ≤ 255

-- blocks that are not too deep
pub shallow : (depth : ℕ) → false ≡ nat_lt 255 depth → depth ≤ 255
shallow depth h = grind (arith, nat_tests)

-- if the rule's test passes too, the tree is fit
pub passed_fit : (magic : List ℕ) (blocks : List Block) → Passed magic blocks → keeps_info_rule (forest_of_blocks blocks) ≡ true → Fit (tree_with magic blocks)
passed_fit magic blocks p h = judged_fit magic blocks p.fits p.bare p.range p.depth (test_keeps (forest_of_blocks blocks) h)

-- if it fails the rule is broken
pub rule_broken : (f : Forest) → keeps_info_rule f ≡ false → KeepsInfoRule f → ⊥
rule_broken f h k = let e = keeps_test f k in absurd cc

-- a tree with a reason is not fit
pub unfit : (tree : Tree) (reason : DocumentReason) → IsFirstReason tree reason → Fit tree → ⊥
unfit tree WrapperMagic is fit = fit.bare is
unfit tree DepthOver255 is fit = absurd (omega (arith, is.1, fit.depth))
unfit tree BlockInfoRule is fit = is.2 (rule_of_fit tree.blocks fit.fit)
