-- The readings of worked inputs, and their normal forms.
use Rattle.std.proofs.Common.{◌≡◌, ℕ, Bool, List, Result, Ok}
use Rattle.bit_grammar.specs.declared.shapes.Shapes.TheVariants.{AtUse}
use Rattle.bit_grammar.specs.Setting.{Setting, keep}
use Rattle.bit_grammar.specs.Under.{items_under, under}
use Rattle.bit_grammar.specs.Bits.{bits_of_bytes}
use Rattle.bit_grammar.specs.Grammar.{Fault}
use Rattle.bit_grammar.specs.Forest.{Forest, Tree}
use Rattle.bit_grammar.specs.Marks.{Marks, forest_of}
use Rattle.bit_grammar.specs.Blocks.{Limits, judged_at}
use Rattle.bit_grammar.specs.Input.{tree_of}
use Rattle.bit_grammar.specs.Normal.{normal_form, usual_limits}
use Rattle.bit_grammar.proofs.Readings.Readers.{made_by, reading_input}

-- the usual limits, and the same with another limit on bytes, on depth or on values
abbrev pub usual : Limits
usual = usual_limits

abbrev pub with_bytes : ℕ → Limits
with_bytes n = record usual { bytes = n }

abbrev pub with_depth : ℕ → Limits
with_depth n = record usual { depth = n }

abbrev pub with_values : ℕ → Limits
with_values n = record usual { values = n }

-- the usual limits, with the shape of definitions judged at their use
abbrev pub at_use : Limits
at_use = judged_at AtUse usual

-- the marked blocks that bytes are read as, or the fault
abbrev pub marks : Limits → List ℕ → Result Marks Fault
marks limits bytes = made_by (λ m. m.blocks) (reading_input limits bytes)

-- the blocks, without places and definitions
abbrev pub blocks : Limits → List ℕ → Result Forest Fault
blocks limits bytes = made_by (λ m. forest_of m.blocks) (reading_input limits bytes)

-- the blocks under a setting
abbrev pub left : Setting → Limits → List ℕ → Result Forest Fault
left setting limits bytes = made_by (λ m. items_under setting 0 (forest_of m.blocks)) (reading_input limits bytes)

-- the magic and the blocks under a setting
abbrev pub tree : Setting → Limits → List ℕ → Result Tree Fault
tree setting limits bytes = made_by (λ m. under setting (tree_of m)) (reading_input limits bytes)

-- the normal form of what bytes are read as under a setting, in bits
abbrev pub rewritten : Setting → Limits → List ℕ → Result (List Bool) Fault
rewritten setting limits bytes = made_by (λ m. normal_form (under setting (tree_of m))) (reading_input limits bytes)

-- these bytes are accepted with these blocks, and their normal form is those bytes
abbrev pub Accepted : Limits → (bytes : List ℕ) → Forest → (normal : List ℕ) → Type 0
Accepted limits bytes forest normal = (blocks limits bytes ≡ Ok forest) × (rewritten keep limits bytes ≡ Ok (bits_of_bytes normal))

-- these bytes are accepted with these blocks, and are their normal form
abbrev pub IsNormal : Limits → (bytes : List ℕ) → Forest → Type 0
IsNormal limits bytes forest = Accepted limits bytes forest bytes
