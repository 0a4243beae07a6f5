-- Limits, and what is left out, as C passes them.
use Rattle.std.specs.Prelude.{◌≡◌, ◌⊎◌, ◌∷◌, ◌==◌, ℕ, Bool, false, IsTrue, List, map, Result, Ok, Err, if◌then◌else◌}
use Rattle.std.specs.List.{list_any}
use Rattle.bit_grammar.specs.declared.info.RecordName.{RecordName}
use Rattle.bit_grammar.specs.declared.shapes.Shapes.{Shapes}
use Rattle.bit_grammar.specs.declared.shapes.Shapes.TheVariants.{AtDefinition, AtUse}
use Rattle.bit_grammar.specs.Setting.{Setting}
use Rattle.bit_grammar.specs.Blocks as blocks
use Rattle.bit_grammar.specs.Normal.{Capped}
use Rattle.bit_fields.specs.Opening.{PassCaps}
use Rattle.bit_c.specs.declared.left_out.Asked.{Asked}
use Rattle.bit_c.specs.declared.left_out.BsLeftOut.{BsLeftOut}
use Rattle.bit_c.specs.declared.left_out.BsRecordName.{BsRecordName}
use Rattle.bit_c.specs.declared.limits.BsLimits.{BsLimits}
use Rattle.bit_c.specs.declared.outcome.Outcome.{Outcome}
use Rattle.bit_c.specs.declared.outcome.Outcome.TheVariants.{Limits, Names, Memory}

-- the place where the shapes of definitions are judged
abbrev pub shapes_told : BsLimits → Shapes
shapes_told l = if l.shapes_at_use then AtUse else AtDefinition

abbrev pub limits_told : BsLimits → blocks.Limits
limits_told l = record {
  bytes = l.bytes;
  depth = l.depth;
  values = l.values;
  shapes = shapes_told l;
}

-- A limit is past its cap, and the call returned `Limits` and changed nothing; or none is, and this holds of the outcome.
abbrev pub Within : blocks.Limits → (Leaves : Type 0) → (Outcome → Type 0) → Outcome → Type 0
Within limits Leaves Says outcome = ((outcome ≡ Limits) × PassCaps limits × Leaves)
    ⊎ (Capped limits × Says outcome)

-- ---- what is left out

abbrev pub name_told : BsRecordName → RecordName
name_told name = record { block = name.block; code = name.code }

-- the ids of the blocks that are left out
abbrev pub blocks_told : BsLeftOut → List ℕ
blocks_told out = if out.info then 0 ∷ out.blocks.now else out.blocks.now

-- the setting
abbrev pub setting_told : BsLeftOut → Setting
setting_told out = record { blocks = blocks_told out; records = map name_told out.records.now }

-- whether records of BLOCKINFO blocks are named
abbrev pub names_info : BsLeftOut → Bool
names_info out = list_any (λ name. name.block == 0) out.records.now

-- the reason why a call did nothing: a limit is past its cap; or records of BLOCKINFO blocks are named; or an allocation failed
abbrev pub DeclinesCall : blocks.Limits → BsLeftOut → Outcome → Type 0
DeclinesCall limits out Limits = PassCaps limits
DeclinesCall limits out Names = Capped limits × IsTrue (names_info out)
DeclinesCall limits out Memory = Capped limits × (names_info out ≡ false)
DeclinesCall limits out outcome = ⊥

-- The call did nothing for such a reason, and changed nothing; or limits and names are fit, and this holds of the outcome.
abbrev pub AsksWithin : blocks.Limits → BsLeftOut → (Leaves : Type 0) → (Outcome → Type 0) → Outcome
    → Type 0
AsksWithin limits out Leaves Says outcome = (DeclinesCall limits out outcome × Leaves)
    ⊎ (Capped limits × (names_info out ≡ false) × Says outcome)

abbrev pub asked_setting : Asked → Setting
asked_setting asked = record { blocks = asked.blocks.items; records = asked.records.items }

-- these limits and this setting were made; or not, for such a reason
abbrev pub ToldOfAsked : blocks.Limits → BsLeftOut → Result Asked Outcome → Type 0
ToldOfAsked limits out (Ok asked) = (asked.limits ≡ limits) × Capped limits
    × (names_info out ≡ false) × (asked_setting asked ≡ setting_told out)
ToldOfAsked limits out (Err outcome) = DeclinesCall limits out outcome
