-- The signs of its entries determine a tree.
use Rattle.std.proofs.Common.{◌≡◌, ℕ, suc, List, [], ◌∷◌, ◌++◌, refl, sym, ap, ◌∙◌, subst}
use Rattle.std.specs.Prelude.{◌↔◌}
use Rattle.bit_grammar.specs.Setting.{Setting}
use Rattle.bit_grammar.specs.Under.{items_under, under, marks_under}
use Rattle.bit_grammar.proofs.NormalForms.Under.{forest_left}
use Rattle.bit_grammar.specs.Forest.{Forest, Tree, empty, a_block, a_record}
use Rattle.bit_grammar.specs.Input.{tree_of}
use Rattle.bit_grammar.specs.Terms.{Marked}
use Rattle.bit_grammar.specs.Marks.{Marks, no_marks, marked_block, marked_record, marked_definition, forest_of}
use Rattle.bit_norm.specs.declared.differences.OpenBlock.{OpenBlock}
use Rattle.bit_norm.specs.Entries.{Sign, begins, has_record, ends, over, Entry, open_block_with, entries, signs_in}

-- ---- the signs of a forest

abbrev pub signs_of : Forest → List Sign → List Sign
signs_of empty following = following
signs_of (a_block id inner rest) following = begins id ∷ signs_of inner (ends ∷ signs_of rest following)
signs_of (a_record code values rest) following = has_record code values ∷ signs_of rest following

-- no sign, or first an end
abbrev Stand : List Sign → Type 0
Stand [] = Unit {0}
Stand (ends ∷ more) = Unit {0}
Stand (over ∷ more) = Unit {0}
Stand (begins id ∷ more) = ⊥
Stand (has_record code values ∷ more) = ⊥

first_is : (a b : Sign) (f g : List Sign) → a ∷ f ≡ b ∷ g → (a ≡ b) × (f ≡ g)
first_is a b f g e = (cc, cc)

begins_is : (a b : ℕ) → begins a ≡ begins b → a ≡ b
begins_is a b e = cc

record_is : (a b : ℕ) (f g : List ℕ) → has_record a f ≡ has_record b g → (a ≡ b) × (f ≡ g)
record_is a b f g e = (cc, cc)

-- the first sign is not that of an item
not_first : (sign : Sign) (f g : List Sign) → Stand f → (Stand (sign ∷ g) → ⊥) → f ≡ sign ∷ g → ⊥
not_first sign f g stand other e = other (subst Stand e stand)

signs_are : (a b : Forest) (f g : List Sign) → Stand f → Stand g → signs_of a f ≡ signs_of b g → (a ≡ b) × (f ≡ g)
signs_are empty empty f g s t e = (refl, e)
signs_are empty (a_block id inner rest) f g s t e = absurd (not_first _ f _ s (λ h. h) e)
signs_are empty (a_record code values rest) f g s t e = absurd (not_first _ f _ s (λ h. h) e)
signs_are (a_block id inner rest) empty f g s t e = absurd (not_first _ g _ t (λ h. h) (sym e))
signs_are (a_record code values rest) empty f g s t e = absurd (not_first _ g _ t (λ h. h) (sym e))
signs_are (a_block id inner rest) (a_block other inside others) f g s t e =
    let first = first_is _ _ _ _ e in
    let within = signs_are inner inside (ends ∷ signs_of rest f) (ends ∷ signs_of others g) tt tt first.1 in
    let last = first_is _ _ _ _ within.1 in
    let more = signs_are rest others f g s t last.1 in
    (rw (begins_is _ _ first.0, within.0, more.0) refl, more.1)
signs_are (a_record code values rest) (a_record other numbers others) f g s t e =
    let first = first_is _ _ _ _ e in
    let same = record_is _ _ _ _ first.0 in
    let more = signs_are rest others f g s t first.1 in
    (rw (same.0, same.1, more.0) refl, more.1)
signs_are (a_block id inner rest) (a_record other numbers others) f g s t e = absurd cc
signs_are (a_record code values rest) (a_block other inside others) f g s t e = absurd cc

-- ---- the signs of entries

pub signs_in-append : (a b : List Entry) → signs_in (a ++ b) ≡ signs_in a ++ signs_in b
signs_in-append [] b = refl
signs_in-append (x ∷ a) b = ap (λ (s : List Sign). x.sign ∷ s) (signs_in-append a b)

signs_of-append : (f : Forest) (a b : List Sign) → signs_of f (a ++ b) ≡ signs_of f a ++ b
signs_of-append empty a b = refl
signs_of-append (a_block id inner rest) a b =
    ap (λ (s : List Sign). begins id ∷ s) (ap (λ (s : List Sign). signs_of inner (ends ∷ s)) (signs_of-append rest a b) ∙ signs_of-append inner (ends ∷ signs_of rest a) b)
signs_of-append (a_record code values rest) a b = ap (λ (s : List Sign). has_record code values ∷ s) (signs_of-append rest a b)

-- the signs of entries are those of the forest
signs_of_entries : (end : Sign) (within : List OpenBlock) (items ended : ℕ) (m : Marks) → signs_in (entries end within items ended m) ≡ signs_of (forest_of m) (end ∷ [])
signs_of_entries end within items ended no_marks = refl
signs_of_entries end within items ended (marked_block mark inner rest) =
    let inside = entries ends (within ++ open_block_with mark.id items ∷ []) 0 mark.body inner in
    let after = entries end within (suc items) mark.after rest in
    ap (λ (s : List Sign). begins mark.id ∷ s)
    (signs_in-append inside after
    ∙ ap (λ (s : List Sign). s ++ signs_in after) (signs_of_entries ends (within ++ open_block_with mark.id items ∷ []) 0 mark.body inner)
    ∙ sym (signs_of-append (forest_of inner) (ends ∷ []) (signs_in after))
    ∙ ap (λ (s : List Sign). signs_of (forest_of inner) (ends ∷ s)) (signs_of_entries end within (suc items) mark.after rest))
signs_of_entries end within items ended (marked_record mark rest) = ap (λ (s : List Sign). has_record mark.code mark.values ∷ s) (signs_of_entries end within (suc items) mark.after rest)
signs_of_entries end within items ended (marked_definition mark rest) = signs_of_entries end within items ended rest

-- the signs of the kept entries are those of the kept items
signs_left : (s : Setting) (p : ℕ) (m : Marks) → signs_in (entries over [] 0 p (marks_under s 0 m)) ≡ signs_of (items_under s 0 (forest_of m)) (over ∷ [])
signs_left s p m = signs_of_entries over [] 0 p (marks_under s 0 m) ∙ ap (λ (f : Forest). signs_of f (over ∷ [])) (forest_left s 0 m)

-- two marks have the same kept items exactly if their kept entries have the same signs
pub same_signs : (s : Setting) (p q : ℕ) (a b : Marks) → (signs_in (entries over [] 0 p (marks_under s 0 a)) ≡ signs_in (entries over [] 0 q (marks_under s 0 b))) ↔ (items_under s 0 (forest_of a) ≡ items_under s 0 (forest_of b))
same_signs s p q a b = (
  λ e. (signs_are (items_under s 0 (forest_of a)) (items_under s 0 (forest_of b)) (over ∷ []) (over ∷ []) tt tt (sym (signs_left s p a) ∙ e ∙ signs_left s q b)).0,
  λ e. signs_left s p a ∙ ap (λ (f : Forest). signs_of f (over ∷ [])) e ∙ sym (signs_left s q b),
)

-- the magic and the items make the tree
pub tree_is : (s : Setting) (a b : Marked) → a.head.magic ≡ b.head.magic → items_under s 0 (forest_of a.blocks) ≡ items_under s 0 (forest_of b.blocks) → under s (tree_of a) ≡ under s (tree_of b)
tree_is s a b magic blocks =
    let make : ℕ → Forest → Tree = λ n f. record { magic = n; blocks = f } in
    ap (λ (n : ℕ). make n (items_under s 0 (forest_of a.blocks))) magic ∙ ap (make b.head.magic) blocks
