-- What an input begins like, by bytes at its front.
use Rattle.std.specs.Prelude.{◌≡◌, ℕ, ◌≤◌, nat_eq, nat_le, nat_lt, not, ◌&&◌, ◌||◌, Bool, if◌then◌else◌, List, [], ◌∷◌, Option, length, codes}
use Rattle.std.specs.List.{list_all, starts_with}
use Rattle.bit_fields.specs.Devices.{Begins}
use Rattle.bitstool.specs.declared.beginning.Beginning.{Beginning}
use Rattle.bitstool.specs.declared.beginning.Beginning.TheVariants.{Gzip, Xz, Zstd, Elf, MachO, Pe, Archive, Assembly, Text, Unknown}

-- a letter or a space of ASCII
abbrev pub is_text_byte : ℕ → Bool
is_text_byte byte = nat_eq byte 9 || nat_eq byte 10 || nat_eq byte 13
    || (nat_le 32 byte && nat_lt byte 127)

-- the bytes begin with others
abbrev pub begins : List ℕ → List ℕ → Bool
begins bytes front = starts_with nat_eq bytes front

-- what begins with these bytes
abbrev pub beginning_of : List ℕ → Beginning
beginning_of bytes =
    if begins bytes (0x1f ∷ 0x8b ∷ []) then Gzip
    else if begins bytes (0xfd ∷ 0x37 ∷ 0x7a ∷ 0x58 ∷ 0x5a ∷ 0x00 ∷ []) then Xz
    else if begins bytes (0x28 ∷ 0xb5 ∷ 0x2f ∷ 0xfd ∷ []) then Zstd
    else if begins bytes (0x7f ∷ 0x45 ∷ 0x4c ∷ 0x46 ∷ []) then Elf
    else if begins bytes (0xcf ∷ 0xfa ∷ 0xed ∷ 0xfe ∷ [])
    || begins bytes (0xce ∷ 0xfa ∷ 0xed ∷ 0xfe ∷ [])
    || begins bytes (0xca ∷ 0xfe ∷ 0xba ∷ 0xbe ∷ []) then MachO
    else if begins bytes (codes "!<arch>") then Archive
    else if begins bytes (codes "; Module") then Assembly
    else if not (nat_eq (length bytes) 0) && list_all is_text_byte bytes then Text
    else if begins bytes (codes "MZ") then Pe
    else Unknown

-- Bytes at the front of an input, at most `most`, are the beginning of this; of no bytes that is nothing known.
abbrev pub BeginsLike : Option (List ℕ) → (most : ℕ) → Beginning → Type 0
BeginsLike input most beginning = (front : List ℕ) × Begins input front × (length front ≤ most)
    × (beginning ≡ beginning_of front)
