-- Rows of numbers in chunks of six bits, and their values.
use Rattle.std.proofs.Common.{◌≡◌, ℕ, zero, suc, ◌+◌, ◌*◌, ◌<◌, ◌≤◌, Bool, List, [], ◌∷◌, ◌++◌, length, take, drop, set, Ok, refl, sym, ap, ◌∙◌, subst, arith, length-append, length-drop}
use Rattle.std.proofs.lemmas.List.{take_more_set}
use Rattle.bit_grammar.specs.Bits.{bits_of_bytes}
use Rattle.bit_grammar.specs.Grammar.{Spells, repeat, reading}
use Rattle.bit_grammar.specs.Fields.{vbr}
use Rattle.bit_grammar.proofs.Readings.Deciding.{reads, is_spelled}
use Rattle.bit_grammar.proofs.Readings.Sequences.{made, made-spells}
use Rattle.bit_grammar.proofs.Words.Fields.{is_vbr, vbr_is}
use Rattle.bit_fields.specs.Buffered.{BufferedBits, Reads, beyond}
use Rattle.bit_fields.specs.Pens.{ReadsSixes, TakesNumber}
use Rattle.bit_fields.specs.Placed.{bits_at}
use Rattle.bit_fields.proofs.BitLaws.{drop_more}
use Rattle.bit_fields.proofs.LentParts.{parts_is}
use Rattle.bit_fields.proofs.Placing.{beyond_both, length_at}
use Rattle.bit_fields.proofs.PlainRecords.{repeat_both}

-- ---- numbers, one after another

row_then : (values more : List ℕ) (a b c : BufferedBits) → ReadsSixes values a b → ReadsSixes more b c → ReadsSixes (values ++ more) a c
row_then values more a b c first later = record {
  len = first.len + later.len;
  there = omega (arith, first.there, later.there, ap (λ (d : BufferedBits). length d.bits) first.is, length-drop first.len a.bits);
  is = later.is ∙ ap (λ (d : BufferedBits). beyond d later.len) first.is ∙ beyond_both a first.len later.len;
  reads = repeat_both (vbr 6) (length values) (length more) (length (values ++ more)) a.position a.bits values more b.position b.bits c.position c.bits (length-append values more) first.reads later.reads;
}

row_one : (value more : ℕ) (a b : BufferedBits) → TakesNumber 6 more a value b → ReadsSixes (value ∷ []) a b
row_one value more a b t = record { len = t.len; there = t.there; is = t.is; reads = rw t.reads refl }

-- one more number at the next place
pub row_more : (next value more : ℕ) (values : List ℕ) (before a b : BufferedBits) → next < length values → ReadsSixes (take next values) before a → TakesNumber 6 more a value b → ReadsSixes (take (next + 1) (set values next value)) before b
row_more next value more values before a b room row t = subst (λ (xs : List ℕ). ReadsSixes xs before b) (sym (take_more_set values next value room)) (row_then (take next values) (value ∷ []) before a b row (row_one value more a b t))

-- ---- a reading at another position

vbr_moves : (p q v : ℕ) (s : List Bool) → Spells (vbr 6) p s v → Spells (vbr 6) q s v
vbr_moves p q v s h = is_vbr 6 q s v (omega arith) (vbr_is 6 p s v (omega arith) h)

pub repeat_moves : (count p q : ℕ) (s : List Bool) (vs : List ℕ) → Spells (repeat count (vbr 6)) p s vs → Spells (repeat count (vbr 6)) q s vs
repeat_moves zero p q s vs h = h
repeat_moves (suc count) p q s vs h =
    let m = made (repeat count (vbr 6)) (λ xs. h.2 ∷ xs) (p + length h.0) h.1 vs h.5 in
    let later = made-spells (repeat count (vbr 6)) (λ xs. h.2 ∷ xs) (q + length h.0) h.1 m.0 (repeat_moves count (p + length h.0) (q + length h.0) h.1 m.0 m.1) in
    subst (Spells (repeat (suc count) (vbr 6)) q s) (sym m.2) (h.0, h.1, h.2, h.3, vbr_moves p q h.2 h.0 h.4, later)

repeat_moved : (k p q len : ℕ) (values : List ℕ) (s : List Bool) → reading (repeat k (vbr 6)) p s ≡ Ok (values, p + len, drop len s) → reading (repeat k (vbr 6)) q s ≡ Ok (values, q + len, drop len s)
repeat_moved k p q len values s seen =
    let found = is_spelled (repeat k (vbr 6)) p s values (p + len) (drop len s) seen in
    let long : length found.0 ≡ len = omega (arith, found.2) in
    ap (reading (repeat k (vbr 6)) q) found.1 ∙ reads (repeat k (vbr 6)) q found.0 values (drop len s) (repeat_moves k p q found.0 values found.3) ∙ ap (λ (n : ℕ). Ok (values, q + n, drop len s)) long

-- ---- at a place of bytes

pub behind_at : (start at len : ℕ) (bytes : List ℕ) → bits_at start (at + len) bytes ≡ beyond (bits_at start at bytes) len
behind_at start at len bytes = parts_is (start + (at + len)) (start + at + len) (drop (at + len) (bits_of_bytes bytes)) (drop len (drop at (bits_of_bytes bytes))) (omega arith) (sym (drop_more at len (bits_of_bytes bytes)))

pub row_there : (place to : ℕ) (values from : List ℕ) (b : BufferedBits) → place ≤ 8 * length from → to ≡ b.position → ReadsSixes values (bits_at 0 place from) b → to ≤ 8 * length from
row_there place to values from b there to_is row = omega (arith, there, to_is, row.there, length_at place from, ap (λ (d : BufferedBits). d.position) row.is)

-- numbers are read the same, wherever the bytes stand
pub row_moved : (start place to : ℕ) (values from : List ℕ) (b : BufferedBits) → to ≡ b.position → ReadsSixes values (bits_at 0 place from) b → ReadsSixes values (bits_at start place from) (bits_at start to from)
row_moved start place to values from b to_is row =
    let a : BufferedBits = bits_at 0 place from in
    let d : BufferedBits = bits_at start place from in
    let k : ℕ = length values in
    let place_is : to ≡ place + row.len = omega (arith, to_is, ap (λ (x : BufferedBits). x.position) row.is) in
    let here : Reads (repeat k (vbr 6)) a values (beyond a row.len) = subst (Reads (repeat k (vbr 6)) a values) row.is row.reads in
    let is : bits_at start to from ≡ beyond d row.len = ap (λ (i : ℕ). bits_at start i from) place_is ∙ behind_at start place row.len from in
    record { len = row.len; there = row.there; is = is; reads = subst (Reads (repeat k (vbr 6)) d values) (sym is) (repeat_moved k a.position d.position row.len values a.bits here) }
