-- Bytes written as hexadecimal text.
use Rattle.std.proofs.Common.{ℕ, zero, suc, ◌+◌, ◌-◌, ◌*◌, List, [], ◌∷◌, ◌++◌, ◌==◌, nat_lt, if◌then◌else◌}
use Rattle.std.specs.Prelude.{codes}
use Prim.Native.String.{String}

-- the digit with this ASCII code: 0 to 9 and A to F
abbrev digit : ℕ → ℕ
digit c = if nat_lt c 58 then c - 48 else c - 55

-- the digits of a text, without its spaces
abbrev digits_of : List ℕ → List ℕ
digits_of [] = []
digits_of (c ∷ cs) = if c == 32 then digits_of cs else digit c ∷ digits_of cs

-- each two digits are a byte, the higher one first
abbrev paired : List ℕ → List ℕ
paired [] = []
paired (high ∷ []) = []
paired (high ∷ low ∷ others) = (16 * high + low) ∷ paired others

abbrev pub bytes_of : List ℕ → List ℕ
bytes_of text = paired (digits_of text)

-- the bytes of a text
abbrev pub hex : String → List ℕ
hex text = bytes_of (codes text)

-- bytes, repeated
abbrev pub times : ℕ → List ℕ → List ℕ
times zero bytes = []
times (suc count) bytes = bytes ++ times count bytes
