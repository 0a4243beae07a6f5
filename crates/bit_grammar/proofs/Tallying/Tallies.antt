-- The bits of all rows and the 32 of the magic are the bits of the stream.
use Rattle.std.proofs.Common.{◌≡◌, ℕ, ◌+◌, ◌*◌, ◌%◌, ◌≤◌, Bool, leb, eqb, List, [], length, map, Some, None, sym, ap, subst, ◌∙◌, arith, inl, inr}
use Rattle.std.proofs.lemmas.Bool.{leb-true, and_parts}
use Rattle.std.proofs.lemmas.List.{length-append}
use Rattle.bit_grammar.specs.Bits.{bits_of_bytes}
use Rattle.bit_grammar.specs.Grammar.{Spells}
use Rattle.bit_grammar.specs.FormatInput.{AreMarkedBlocks}
use Rattle.bit_grammar.specs.Blocks.{Limits, nothing_handed}
use Rattle.bit_grammar.specs.Whole.{SpellsAll}
use Rattle.bit_grammar.specs.Input.{version, offset, wrapper, any_bits, wrapper_and_gap, inner_magic, top_blocks, stream, wrapped, input, SpellsInput}
use Rattle.bit_grammar.specs.Terms.{Wrapper, Head, Marked}
use Rattle.bit_grammar.specs.Tally.{BlockTally, FullBlock, blocks_in, bits_in, own_bits, distinct, row_of, stream_begin, stream_bits, tally_of, bits_of_rows}
use Rattle.bit_grammar.specs.Machine.{flat}
use Rattle.bit_grammar.specs.Counting.{no_counts, count_events}
use Rattle.bit_grammar.proofs.Words.Fields.{fixed_is}
use Rattle.bit_grammar.proofs.Tallying.Sums.{sum_by_map, by_keys}
use Rattle.bit_grammar.proofs.Tallying.Counting.{rows_counted}
use Rattle.bit_grammar.proofs.Tallying.Places.{AreWithin, own_sum, blocks_placed}

-- a stream whose blocks begin at bit p and go to its end
pub record Counted (p : ℕ) (m : Marked) : Type 0 where
  pub only : AreMarkedBlocks m.blocks
  pub all : p + bits_in m.blocks ≡ m.after
  pub within : AreWithin m.blocks

stream_counted : (limits : Limits) (head : Head) (p : ℕ) (r : List Bool) (m : Marked) → SpellsAll (stream limits head) p r m → Counted p m × (m.head ≡ head)
unfolding stream top_blocks
stream_counted limits head p r m k =
    let f = blocks_placed limits k.0.0 nothing_handed p r k.0.1 k.1 in
    (subst (Counted p) (sym k.2) (record { only = f.only; all = omega (arith, f.all, f.there); within = f.within }), ap (λ (x : Marked). x.head) k.2)

version_length : (p : ℕ) (s : List Bool) → Spells version p s tt → length s ≡ 32
unfolding version
version_length p s k =
    let i = k.5 in
    let n = fixed_is 32 _ i.0 i.2 i.4 in
    omega (arith, ap length k.3, length-append k.0 k.1, ap length k.4.0, ap length i.3, length-append i.0 i.1, n.length, ap length i.5.0)

offset_length : (p : ℕ) (s : List Bool) (v : ℕ) → Spells offset p s v → (length s ≡ 32) × (20 ≤ v)
unfolding offset
offset_length p s v k =
    let i = k.5 in
    let j = i.5 in
    let n = fixed_is 32 _ i.0 i.2 i.4 in
    let fits = and_parts (leb 20 i.2) (eqb (i.2 % 4) 0) j.4.1 in
    (omega (arith, ap length k.3, length-append k.0 k.1, ap length k.4.0, ap length i.3, length-append i.0 i.1, n.length, ap length j.3, length-append j.0 j.1, ap length j.4.0, ap length j.5.0), omega (arith, leb-true _ _ fits.0, j.5.1))

wrapper_length : (p : ℕ) (s : List Bool) (w : Wrapper) → Spells wrapper p s w → (length s ≡ 128) × (20 ≤ w.offset)
unfolding wrapper
wrapper_length p s w k =
    let i = k.5 in
    let j = i.5 in
    let l = j.5 in
    let o = offset_length _ i.0 i.2 i.4 in
    let size = fixed_is 32 _ j.0 j.2 j.4 in
    let cpu = fixed_is 32 _ l.0 l.2 l.4 in
    (omega (arith, ap length k.3, length-append k.0 k.1, version_length _ k.0 k.4, ap length i.3, length-append i.0 i.1, o.0, ap length j.3, length-append j.0 j.1, size.length, ap length l.3, length-append l.0 l.1, cpu.length, ap length l.5.0), omega (arith, o.1, ap (λ (x : Wrapper). x.offset) l.5.1))

any_length : (n p : ℕ) (s : List Bool) → Spells (any_bits n) p s tt → length s ≡ n
unfolding any_bits
any_length n p s k =
    let i = k.5 in
    omega (arith, ap length k.3, length-append k.0 k.1, ap length k.4.0, ap length i.3, length-append i.0 i.1, ap length i.4.0, i.4.1, ap length i.5.0)

-- the header and the gap of a wrapper end at its offset
gap_length : (p : ℕ) (s : List Bool) (w : Wrapper) → Spells wrapper_and_gap p s w → 32 + length s ≡ 8 * w.offset
unfolding wrapper_and_gap
gap_length p s w k =
    let i = k.5 in
    let header = wrapper_length p k.0 k.2 k.4 in
    let gap = any_length _ _ i.0 i.4 in
    let same : w.offset ≡ k.2.offset = ap (λ (x : Wrapper). x.offset) i.5.1 in
    omega (arith, ap length k.3, length-append k.0 k.1, header.0, header.1, ap length i.3, length-append i.0 i.1, gap, ap length i.5.0, same)

magic_length : (p : ℕ) (s : List Bool) (magic : ℕ) → Spells inner_magic p s magic → length s ≡ 32
unfolding inner_magic
magic_length p s magic k =
    let i = k.5 in
    let j = i.5 in
    let n = fixed_is 32 _ i.0 i.2 i.4 in
    omega (arith, ap length k.3, length-append k.0 k.1, ap length k.4.0, ap length i.3, length-append i.0 i.1, n.length, ap length j.3, length-append j.0 j.1, ap length j.4.0, ap length j.5.0)

-- the bits of the blocks, after a magic at the beginning of the stream
abbrev pub IsCounted : Marked → Type 0
IsCounted m = Counted (stream_begin m.head.wrapper + 32) m

begin_of : (m : Marked) (head : Head) (p : ℕ) → m.head ≡ head → stream_begin head.wrapper + 32 ≡ p → Counted p m → IsCounted m
begin_of m head p same place c = record { only = c.only; all = omega (arith, ap (λ (h : Head). stream_begin h.wrapper) same, place, c.all); within = c.within }

wrapped_counted : (limits : Limits) (r : List Bool) (m : Marked) → SpellsAll (wrapped limits) 32 r m → IsCounted m
unfolding wrapped
wrapped_counted limits r m k =
    let i = k.5 in
    let j = i.4 in
    let head : Head = record { magic = j.2; wrapper = Some k.2 } in
    let p = 32 + length k.0 + length j.0 in
    let c = stream_counted limits head p j.1 m j.5 in
    begin_of m head p c.1 (omega (arith, gap_length 32 k.0 k.2 k.4, magic_length _ j.0 j.2 j.4)) c.0

input_counted : (limits : Limits) (r : List Bool) (m : Marked) → SpellsAll (input limits) 0 r m → IsCounted m
unfolding input
input_counted limits r m (front, others, magic, parts, spelled, inl k) =
    let place : 0 + length front ≡ 32 = omega (arith, (fixed_is 32 0 front magic spelled).length) in
    wrapped_counted limits others m (subst (λ (p : ℕ). SpellsAll (wrapped limits) p others m) place k.1)
input_counted limits r m (front, others, magic, parts, spelled, inr k) =
    let head : Head = record { magic = magic; wrapper = None } in
    let c = stream_counted limits head (0 + length front) others m k.1 in
    begin_of m head (0 + length front) c.1 (omega (arith, (fixed_is 32 0 front magic spelled).length)) c.0

rows_sum : (m : Marked) → AreWithin m.blocks → bits_of_rows (tally_of m) ≡ bits_in m.blocks
rows_sum m within =
    sum_by_map (λ (row : BlockTally). row.bits) (row_of m.blocks) (distinct (map (λ (b : FullBlock). b.mark.id) (blocks_in m.blocks))) ∙ by_keys (λ (b : FullBlock). b.mark.id) own_bits (blocks_in m.blocks) ∙ own_sum m.blocks within

-- the bits of all rows and the magic
pub bits_add_up : (limits : Limits) (bytes : List ℕ) (m : Marked) → SpellsInput limits bytes m → 32 + bits_of_rows (tally_of m) ≡ stream_bits m
bits_add_up limits bytes m h =
    let c = input_counted limits (bits_of_bytes bytes) m h.spelled in
    omega (arith, rows_sum m c.within, c.all)

-- one pass over the events of an input makes the rows
pub rows_by_events : (limits : Limits) (bytes : List ℕ) (m : Marked) → SpellsInput limits bytes m → (count_events (flat m.blocks []) no_counts).rows ≡ (tally_of m).rows
rows_by_events limits bytes m h = rows_counted m.blocks (input_counted limits (bits_of_bytes bytes) m h.spelled).only
