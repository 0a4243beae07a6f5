-- The size of a normal form, as sums over the tree.
-- This project's own.
use Rattle.std.specs.Prelude.{ℕ, zero, suc, ◌+◌, ◌-◌, ◌*◌, ◌/◌, ◌^◌, List, [], ◌∷◌, length, nat_lt, if◌then◌else◌}
use Rattle.bit_grammar.specs.Fields.{padding_length}
use Rattle.bit_grammar.specs.Terms.{chunk_limit}
use Rattle.bit_grammar.specs.Forest.{Forest, empty, a_block, a_record, Tree}

-- how many chunks the shortest VBR of a number has, at most `permitted`
abbrev pub chunk_count : (payload permitted : ℕ) → ℕ → ℕ
chunk_count payload zero v = 0
chunk_count payload (suc permitted) v = suc (if nat_lt v (2 ^ payload) then 0
    else chunk_count payload permitted (v / 2 ^ payload))

-- how many bits the shortest VBR of width n has
unfoldable pub shortest_length : (n v : ℕ) → ℕ
shortest_length n v = n * chunk_count (n - 1) (chunk_limit (n - 1)) v

abbrev pub values_length : List ℕ → ℕ
values_length [] = 0
values_length (v ∷ vs) = shortest_length 6 v + values_length vs

-- how many bits a record has: its abbreviation id, its code, the number of values, and each value
abbrev pub record_length : (code : ℕ) → List ℕ → ℕ
record_length code values = 2 + shortest_length 6 code + shortest_length 6 (length values)
    + values_length values

-- the next multiple of 32
abbrev pub aligned : ℕ → ℕ
aligned p = p + padding_length p

-- where the body of a block begins that begins at bit p: after its abbreviation id, its id, the width, padding and the length
abbrev pub body_at : (id p : ℕ) → ℕ
body_at id p = aligned (p + 2 + shortest_length 8 id + 4) + 32

-- The bit after items, the first of which begins at bit p. A block's body, which begins at a multiple of 32, is its items,
-- the abbreviation id 0 and padding.
unfoldable pub end_of : Forest → ℕ → ℕ
end_of empty p = p
end_of (a_block id inner rest) p = end_of rest (body_at id p + aligned (end_of inner 0 + 2))
end_of (a_record code values rest) p = end_of rest (p + record_length code values)

-- how many bits the body of a block with these items has
abbrev pub body_length : Forest → ℕ
body_length inner = aligned (end_of inner 0 + 2)

-- how many bytes the normal form has: the magic in 32 bits, and the blocks
unfoldable pub size_of : Tree → ℕ
size_of tree = end_of tree.blocks 32 / 8
