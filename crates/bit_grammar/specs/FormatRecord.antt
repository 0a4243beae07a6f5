-- Records in the words of the format.
-- Source: "LLVM Bitcode File Format", "Abbreviation IDs", "Data Records", "UNABBREV_RECORD Encoding", "Abbreviated
-- Record Encoding".
use Rattle.std.specs.Prelude.{◌≡◌, ℕ, zero, suc, ◌+◌, Bool, List, [], ◌∷◌, ◌++◌, length}
use Rattle.bit_grammar.specs.declared.op.Op.{Op}
use Rattle.bit_grammar.specs.declared.op.Op.TheVariants.{Literal, Fixed, Vbr, Array, Char6, Blob}
use Rattle.bit_grammar.specs.FormatFields.{IsFixed, IsVbr, IsChar6, IsPadding}
use Rattle.bit_grammar.specs.Terms.{CodeAndValues}

-- The field of an operand that gives one value. A literal, and a field of width 0, take no bits.
abbrev pub IsScalar : Op → ℕ → List Bool → Type 0
IsScalar (Literal n) v s = (v ≡ n) × (s ≡ [])
IsScalar (Fixed width) v s = IsFixed width v s
IsScalar (Vbr zero) v s = (v ≡ 0) × (s ≡ [])
IsScalar (Vbr (suc width)) v s = IsVbr (suc width) v s
IsScalar Char6 v s = IsChar6 v s
IsScalar Array v s = ⊥
IsScalar Blob v s = ⊥

-- fields of one operand, one after another, with these values
abbrev pub AreFields : Op → List ℕ → List Bool → Type 0
AreFields op [] s = s ≡ []
AreFields op (v ∷ vs) s = (first others : List Bool) × (s ≡ first ++ others) × IsScalar op v first
    × AreFields op vs others

-- an array: its length in VBR 6, and as many fields of the element
abbrev pub IsArray : (element : Op) → List ℕ → List Bool → Type 0
IsArray element vs s = (count fields : List Bool) × (s ≡ count ++ fields)
    × IsVbr 6 (length vs) count × AreFields element vs fields

-- a blob that begins at bit p: its length in VBR 6, padding, as many bytes, and padding
pub record IsBlob (p : ℕ) (vs : List ℕ) (s : List Bool) : Type 0 where
  pub count : List Bool
  pub before : List Bool
  pub bytes : List Bool
  pub behind : List Bool
  pub parts : s ≡ count ++ (before ++ (bytes ++ behind))
  pub counted : IsVbr 6 (length vs) count
  pub padded_before : IsPadding (p + length count) before
  pub are_bytes : AreFields (Fixed 8) vs bytes
  pub padded_behind : IsPadding (p + length count + length before + length bytes) behind

-- the values of the operands after the first of a lawful list; the first value begins at bit p
abbrev pub AreValues : List Op → ℕ → List ℕ → List Bool → Type 0
AreValues [] p vs s = (vs ≡ []) × (s ≡ [])
AreValues (Array ∷ []) p vs s = ⊥
AreValues (Array ∷ element ∷ others) p vs s = IsArray element vs s
AreValues (Blob ∷ others) p vs s = IsBlob p vs s
AreValues (op ∷ others) p vs s = (v : ℕ) × (rest : List ℕ) × (first behind : List Bool)
    × (vs ≡ v ∷ rest) × (s ≡ first ++ behind) × IsScalar op v first
    × AreValues others (p + length first) rest behind

-- an unabbreviated record, after its abbreviation id: the code, the number of values and each value, in VBR 6
pub record IsUnabbreviated (e : CodeAndValues) (s : List Bool) : Type 0 where
  pub code : List Bool
  pub count : List Bool
  pub values : List Bool
  pub parts : s ≡ code ++ (count ++ values)
  pub coded : IsVbr 6 e.code code
  pub counted : IsVbr 6 (length e.values) count
  pub are_values : AreFields (Vbr 6) e.values values

-- a record by a lawful list of operands, which begins at bit p after its abbreviation id: the first gives the code, the others the values
abbrev pub IsAbbreviated : List Op → ℕ → CodeAndValues → List Bool → Type 0
IsAbbreviated [] p e s = ⊥
IsAbbreviated (op ∷ others) p e s = (code values : List Bool) × (s ≡ code ++ values)
    × IsScalar op e.code code × AreValues others (p + length code) e.values values
