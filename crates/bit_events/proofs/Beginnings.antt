-- After the beginning of an input is read, the events that the reader finds are those of the whole input.
use Rattle.std.proofs.Common.{◌≡◌, ℕ, ◌+◌, ◌-◌, ◌*◌, ◌%◌, ◌^◌, ◌<◌, ◌≤◌, Bool, true, false, leb, eqb, List, length, take, Option, Some, None, Result, Ok, Err, refl, sym, ap, subst, ◌∙◌, arith, inl, inr}
use Rattle.std.specs.Prelude.{if◌then◌else◌}
use Rattle.std.proofs.lemmas.Bool.{cases_lt, le-ltb, lt-ltb, leb-true, and_parts}
use Rattle.std.proofs.lemmas.List.{length-append, take_all}
use Rattle.bit_grammar.specs.declared.reason.Reason.TheVariants.{WrapperSize}
use Rattle.bit_grammar.specs.Bits.{number, bits_of_bytes}
use Rattle.bit_grammar.specs.Grammar as grammar
use Rattle.bit_grammar.specs.Grammar.{at, Spells, ◌and_then◌, reading}
use Rattle.bit_grammar.specs.Fields.{fixed}
use Rattle.bit_grammar.specs.Blocks.{Limits}
use Rattle.bit_grammar.specs.Input.{version, offset, wrapper, any_bits, wrapper_and_gap, inner_magic, is_wrapped, outer_wrapper, front_of, is_closed, too_long, cut_fault}
use Rattle.bit_grammar.specs.Terms.{Wrapper, Head}
use Rattle.bit_grammar.specs.Machine.{Ending, accepted, broke, Told, at_start, to_come}
use Rattle.bit_grammar.specs.Outlook.{Outlook, ending_by, end_of_few, cut_end, told_input, outlook}
use Rattle.bit_grammar.proofs.Readings.Deciding.{is_spelled}
use Rattle.bit_grammar.proofs.Bits.Numbers.{number_below}
use Rattle.bit_grammar.proofs.Readings.Wholes.{is_le, is_not_le}
use Rattle.bit_grammar.proofs.Words.Fields.{fixed_is, sum_is}
use Rattle.bit_grammar.proofs.NormalForms.SpelledParts.{Spelled}
use Rattle.bit_grammar.proofs.Readings.Parts.{apart, from_here, after_judge, is_given, image}
use Rattle.bit_fields.specs.Reader.{Extent, within}
use Rattle.bit_fields.specs.Opening.{Beginning, with_magic, in_wrapper, beginning, wrapper_of, end_of_stream}
use Rattle.bit_fields.proofs.BitLaws.{length-bits_of_bytes}
use Rattle.bit_fields.proofs.Cutting.{within_whole, within_cut}
use Rattle.bit_events.specs.Coming.{end_at, end_by, told_of}
use Rattle.bit_events.proofs.Faults.{Other, not_size, reading_fault, fixed_free, gap_free, inner_free, EndsOther, to_come_other}

-- the end of the events, within this many bits
abbrev pub few_in : ℕ → Option Wrapper → Ending → Ending
few_in len None ending = ending
few_in len (Some w) ending = end_of_few (leb (8 * w.size) (len - 8 * w.offset)) (at WrapperSize 96) ending

-- a wrapper that was read, up to its stream, within this many bits
abbrev pub HoldsIn : ℕ → Option Wrapper → Type 0
HoldsIn len None = Unit {0}
HoldsIn len (Some w) = (8 * w.offset ≤ len) × (w.offset < 2 ^ 32) × (w.size < 2 ^ 32)

-- the extent of an input with such a wrapper
abbrev pub extent_of : Limits → List ℕ → Option Wrapper → Extent
extent_of limits bytes outer = record { total = length bytes; end = end_of_stream outer; limit = limits.bytes }

-- ---- the wrapper that was read

-- a wrapper's fields, within this many bits
record FieldsAre (w : Wrapper) (len : ℕ) : Type 0 where
  length : len ≡ 128
  lawful : 20 ≤ w.offset
  offset : w.offset < 2 ^ 32
  size : w.size < 2 ^ 32

pub small : (p : ℕ) (s : List Bool) (v : ℕ) → Spells (fixed 32) p s v → (length s ≡ 32) × (v < 2 ^ 32)
small p s v k =
    let f = fixed_is 32 p s v k in
    (f.length, subst (λ (x : ℕ). x < 2 ^ 32) (sym (f.value ∙ sum_is s)) (subst (λ (x : ℕ). number s < 2 ^ x) f.length (number_below s)))

version_length : (p : ℕ) (s : List Bool) → Spelled version p s tt → length s ≡ 32
unfolding version
version_length p s k =
    let a = apart (from_here k) in
    let held = a.two.is in
    omega (arith, ap length a.parts, length-append a.front a.others, ap length held.0, (small p a.front a.value a.one.is).0)

offset_is : (p : ℕ) (s : List Bool) (n : ℕ) → Spelled offset p s n → (length s ≡ 32) × (20 ≤ n) × (n < 2 ^ 32)
unfolding offset
offset_is p s n k =
    let a = apart (from_here k) in
    let j = after_judge a.two in
    let g = is_given j.then in
    let one = small p a.front a.value a.one.is in
    let both = and_parts (leb 20 a.value) (eqb (a.value % 4) 0) j.held in
    (omega (arith, ap length a.parts, length-append a.front a.others, ap length g.0, one.0), omega (arith, g.1, leb-true _ _ both.0), omega (arith, g.1, one.1))

fields_are : (p : ℕ) (s : List Bool) (w : Wrapper) → Spelled wrapper p s w → FieldsAre w (length s)
unfolding wrapper
fields_are p s w k =
    let a = apart k in
    let b = apart a.two in
    let c = apart b.two in
    let d = image c.two in
    let o = offset_is _ b.front b.value b.one in
    let z = small _ c.front c.value c.one.is in
    let cpu = small _ c.others d.value d.one.is in
    subst (λ (x : Wrapper). FieldsAre x (length s)) (sym d.is) (record {
      length = omega (arith, ap length a.parts, length-append a.front a.others, version_length p a.front a.one, ap length b.parts, length-append b.front b.others, o.0, ap length c.parts, length-append c.front c.others, z.0, cpu.0);
      lawful = o.1;
      offset = o.2;
      size = z.1;
    })

any_length : (n p : ℕ) (s : List Bool) (v : Unit {0}) → Spelled (any_bits n) p s v → length s ≡ n
unfolding any_bits
any_length n p s v k = (let a = image (from_here k) in let bits = a.one.is in ap length bits.0 ∙ bits.1)

-- the wrapper and its gap end where its stream begins
pub record GapIs (w : Wrapper) (len : ℕ) : Type 0 where
  pub ends : 32 + len ≡ 8 * w.offset
  pub offset : w.offset < 2 ^ 32
  pub size : w.size < 2 ^ 32

pub gap_is : (p : ℕ) (s : List Bool) (w : Wrapper) → Spelled wrapper_and_gap p s w → GapIs w (length s)
unfolding wrapper_and_gap
gap_is p s w k =
    let a = apart k in
    let b = apart a.two in
    let g = is_given b.two in
    let f = fields_are p a.front a.value a.one in
    subst (λ (x : Wrapper). GapIs x (length s)) (sym g.1) (record {
      ends = omega (arith, ap length a.parts, length-append a.front a.others, f.length, f.lawful, ap length b.parts, length-append b.front b.others, any_length _ _ b.front b.value b.one, ap length g.0);
      offset = f.offset;
      size = f.size;
    })

-- how many bits are left after them
record LeftBehind (w : Wrapper) (len left : ℕ) : Type 0 where
  parts : len ≡ 8 * w.offset + left
  offset : w.offset < 2 ^ 32
  size : w.size < 2 ^ 32

left_behind : (r : List Bool) (x : ℕ × ℕ × List Bool) (y : Wrapper × ℕ × List Bool) → reading (fixed 32) 0 r ≡ Ok x → reading wrapper_and_gap x.1 x.2 ≡ Ok y → LeftBehind y.0 (length r) (length y.2)
left_behind r x y e g =
    let one = is_spelled (fixed 32) 0 r x.0 x.1 x.2 e in
    let two = is_spelled wrapper_and_gap x.1 x.2 y.0 y.1 y.2 g in
    let k = gap_is x.1 two.0 y.0 (record { is = two.3 }) in
    record {
      parts = omega (arith, ap length one.1, length-append one.0 x.2, (small 0 one.0 x.0 one.3).0, ap length two.1, length-append two.0 y.2, k.ends);
      offset = k.offset;
      size = k.size;
    }

abbrev Header : Type 0
Header = Result (Wrapper × ℕ × List Bool) grammar.Fault

abbrev read : Wrapper × ℕ × List Bool → Header
read x = Ok x

abbrev failed : grammar.Fault → Header
failed fault = Err fault

same_read : (x y : Wrapper × ℕ × List Bool) → read x ≡ read y → x ≡ y
same_read x y e = cc

not_read : (fault : grammar.Fault) (y : Wrapper × ℕ × List Bool) → failed fault ≡ read y → ⊥
not_read fault y e = absurd cc

-- the wrapper was read first
header_read : (p : ℕ) (s : List Bool) (y : Wrapper × ℕ × List Bool) → reading wrapper_and_gap p s ≡ Ok y → (q : ℕ) × (t : List Bool) × (reading wrapper p s ≡ Ok (y.0, q, t))
unfolding wrapper_and_gap
header_read p s y e = go (reading wrapper p s) e
  where
    passed : (x : Wrapper × ℕ × List Bool) (z : Result (Unit {0} × ℕ × List Bool) grammar.Fault) → (z and_then λ k. Ok (x.0, k.1, k.2)) ≡ read y → x.0 ≡ y.0
    passed x (Ok z) e = ap (λ (k : Wrapper × ℕ × List Bool). k.0) (same_read (x.0, z.1, z.2) y e)
    passed x (Err fault) e = absurd (not_read fault y e)

    go : (x : Header) → (x and_then λ x. (reading (any_bits (8 * (x.0.offset - 20))) x.1 x.2 and_then λ k. Ok (x.0, k.1, k.2))) ≡ read y → (q : ℕ) × (t : List Bool) × (x ≡ Ok (y.0, q, t))
    go (Ok x) e = (x.1, x.2, ap (λ (w : Wrapper). read (w, x.1, x.2)) (passed x (reading (any_bits (8 * (x.0.offset - 20))) x.1 x.2) e))
    go (Err fault) e = absurd (not_read fault y e)

-- ---- the events after a beginning

-- the beginning of these bits was read
record Begun (limits : Limits) (r : List Bool) (x : Head × ℕ × List Bool) : Type 0 where
  told : told_input limits 0 r ≡ Ok (x.0, ((to_come limits at_start x.1 x.2).0, few_in (length r) x.0.wrapper (to_come limits at_start x.1 x.2).1))
  wrapper : wrapper_of r ≡ x.0.wrapper
  holds : HoldsIn (length r) x.0.wrapper

-- the beginning of these bits breaks
record Unbegun (limits : Limits) (r : List Bool) (fault : grammar.Fault) : Type 0 where
  told : told_input limits 0 r ≡ Err fault
  other : Other fault

abbrev IsRight : Limits → List Bool → Beginning → Type 0
IsRight limits r (Ok x) = Begun limits r x
IsRight limits r (Err fault) = Unbegun limits r fault

inner_right : (limits : Limits) (r : List Bool) (x : ℕ × ℕ × List Bool) (y : Wrapper × ℕ × List Bool) (z : Result (ℕ × ℕ × List Bool) grammar.Fault) → reading (fixed 32) 0 r ≡ Ok x → is_wrapped x.0 ≡ true → reading wrapper_and_gap x.1 x.2 ≡ Ok y → reading inner_magic y.1 (take (8 * y.0.size) y.2) ≡ z
    → IsRight limits r (with_magic (Some y.0) z)
unfolding wrapper_of outer_wrapper
inner_right limits r x y (Ok z) e n g i =
    let b = left_behind r x y e g in
    let h = header_read x.1 x.2 y g in
    let len : length y.2 ≡ length r - 8 * y.0.offset = omega (arith, b.parts) in
    record {
      told = rw (e, n, g, i, len) refl;
      wrapper = rw (e, n, h.2) refl;
      holds = (omega (arith, b.parts), b.offset, b.size);
    }
inner_right limits r x y (Err fault) e n g i = record { told = rw (e, n, g, i) refl; other = reading_fault Other inner_magic y.1 (take (8 * y.0.size) y.2) fault inner_free i }

gap_right : (limits : Limits) (r : List Bool) (x : ℕ × ℕ × List Bool) (y : Header) → reading (fixed 32) 0 r ≡ Ok x → is_wrapped x.0 ≡ true → reading wrapper_and_gap x.1 x.2 ≡ y → IsRight limits r (in_wrapper y)
gap_right limits r x (Ok y) e n g = inner_right limits r x y (reading inner_magic y.1 (take (8 * y.0.size) y.2)) e n g refl
gap_right limits r x (Err fault) e n g = record { told = rw (e, n, g) refl; other = reading_fault Other wrapper_and_gap x.1 x.2 fault gap_free g }

magic_right : (limits : Limits) (r : List Bool) (x : ℕ × ℕ × List Bool) (b : Bool) → reading (fixed 32) 0 r ≡ Ok x → is_wrapped x.0 ≡ b → IsRight limits r (if b then in_wrapper (reading wrapper_and_gap x.1 x.2) else Ok (record { magic = x.0; wrapper = None }, x.1, x.2))
unfolding wrapper_of outer_wrapper
magic_right limits r x true e n = gap_right limits r x (reading wrapper_and_gap x.1 x.2) e n refl
magic_right limits r x false e n = record { told = rw (e, n) refl; wrapper = rw (e, n) refl; holds = tt }

beginning_right : (limits : Limits) (r : List Bool) → IsRight limits r (beginning r)
unfolding beginning
beginning_right limits r = go (reading (fixed 32) 0 r) refl
  where
    go : (x : Result (ℕ × ℕ × List Bool) grammar.Fault) → reading (fixed 32) 0 r ≡ x → IsRight limits r (x and_then λ x. if is_wrapped x.0 then in_wrapper (reading wrapper_and_gap x.1 x.2) else Ok (record { magic = x.0; wrapper = None }, x.1, x.2))
    go (Ok x) e = magic_right limits r x (is_wrapped x.0) e refl
    go (Err fault) e = record { told = rw e refl; other = reading_fault Other (fixed 32) 0 r fault (fixed_free 32) e }

-- ---- how it ends

-- an input within the limit
whole_end : (limits : Limits) (bytes : List ℕ) (outer : Option Wrapper) (ending : Ending) → length bytes ≤ limits.bytes → HoldsIn (8 * length bytes) outer → few_in (8 * length bytes) outer ending ≡ end_by (extent_of limits bytes outer) ending
whole_end limits bytes None (accepted p) fits k = rw (le-ltb limits.bytes (length bytes) fits) refl
whole_end limits bytes None (broke fault) fits k = ap broke (sym (within_whole (extent_of limits bytes None) fault.reason fault.bit fits))
whole_end limits bytes (Some w) (accepted p) fits k =
    let named = lt-ltb (w.offset + w.size) (2 ^ 64 - 1) (omega (arith, k.1, k.2)) in
    elim (cases_lt (length bytes) (w.offset + w.size)) [
      | inl lt ↦ rw (le-ltb limits.bytes (length bytes) fits, is_not_le (8 * w.size) (8 * length bytes - 8 * w.offset) (omega (arith, lt, k.0)), named, lt-ltb (length bytes) (w.offset + w.size) lt) refl
      | inr le ↦ rw (le-ltb limits.bytes (length bytes) fits, is_le (8 * w.size) (8 * length bytes - 8 * w.offset) (omega (arith, le, k.0)), named, le-ltb (length bytes) (w.offset + w.size) le) refl
    ]
whole_end limits bytes (Some w) (broke fault) fits k = ap broke (sym (within_whole (extent_of limits bytes (Some w)) fault.reason fault.bit fits))

-- one that is longer is not accepted
long_end : (limits : Limits) (bytes : List ℕ) (outer : Option Wrapper) (p : ℕ) → limits.bytes < 2 ^ 64 - 1 → limits.bytes < length bytes → end_at (extent_of limits bytes outer) p ≡ broke (too_long limits)
long_end limits bytes outer p low longer =
    elim (cases_lt limits.bytes (end_of_stream outer)) [
      | inl lt ↦ rw (lt-ltb limits.bytes (length bytes) longer, lt-ltb limits.bytes (end_of_stream outer) lt) refl
      | inr le ↦ rw (lt-ltb limits.bytes (length bytes) longer, le-ltb limits.bytes (end_of_stream outer) le, lt-ltb (end_of_stream outer) (2 ^ 64 - 1) (omega (arith, le, low)), le-ltb (length bytes) (end_of_stream outer) (omega (arith, le, longer))) refl
    ]

few_cut : (limits : Limits) (closed enough : Bool) (p : ℕ) → cut_end limits closed (end_of_few enough (at WrapperSize 96) (accepted p)) ≡ broke (too_long limits)
few_cut limits closed true p = refl
few_cut limits closed false p = refl

-- a break of one that is longer
fault_cut : (limits : Limits) (bytes : List ℕ) (outer : Option Wrapper) (fault : grammar.Fault) → limits.bytes < 2 ^ 64 - 1 → limits.bytes < length bytes → wrapper_of (front_of limits bytes) ≡ outer → Other fault
    → cut_fault limits (is_closed limits bytes) fault ≡ within (extent_of limits bytes outer) fault.reason fault.bit
fault_cut limits bytes outer fault low longer is k =
    subst (λ (o : Option Wrapper). cut_fault limits (is_closed limits bytes) fault ≡ within (extent_of limits bytes o) fault.reason fault.bit) is
    (sym (within_cut limits bytes fault.reason fault.bit low longer (not_size fault.reason k)))

cut_end_is : (limits : Limits) (bytes : List ℕ) (len : ℕ) (outer : Option Wrapper) (ending : Ending) → limits.bytes < 2 ^ 64 - 1 → limits.bytes < length bytes → wrapper_of (front_of limits bytes) ≡ outer → EndsOther ending
    → cut_end limits (is_closed limits bytes) (few_in len outer ending) ≡ end_by (extent_of limits bytes outer) ending
cut_end_is limits bytes len None (accepted p) low longer is k = sym (long_end limits bytes None p low longer)
cut_end_is limits bytes len None (broke fault) low longer is k = ap broke (fault_cut limits bytes None fault low longer is k)
cut_end_is limits bytes len (Some w) (accepted p) low longer is k = few_cut limits (is_closed limits bytes) (leb (8 * w.size) (len - 8 * w.offset)) p ∙ sym (long_end limits bytes (Some w) p low longer)
cut_end_is limits bytes len (Some w) (broke fault) low longer is k = ap broke (fault_cut limits bytes (Some w) fault low longer is k)

-- ---- the whole input

all_taken : (limits : Limits) (bytes : List ℕ) → length bytes ≤ limits.bytes → front_of limits bytes ≡ bits_of_bytes bytes
all_taken limits bytes fits = ap bits_of_bytes (take_all limits.bytes bytes fits)

outlook_within : (limits : Limits) (bytes : List ℕ) → length bytes ≤ limits.bytes → outlook limits bytes ≡ told_input limits 0 (front_of limits bytes)
unfolding outlook
outlook_within limits bytes fits = rw (is_le (length bytes) limits.bytes fits, all_taken limits bytes fits) refl

outlook_past : (limits : Limits) (bytes : List ℕ) → limits.bytes < length bytes → outlook limits bytes ≡ ending_by (cut_end limits (is_closed limits bytes)) (cut_fault limits (is_closed limits bytes)) (told_input limits 0 (front_of limits bytes))
unfolding outlook
outlook_past limits bytes longer = rw (is_not_le (length bytes) limits.bytes longer) refl

-- a head and events, with this end
abbrev with_end : Head × Told → Ending → Outlook
with_end x ending = Ok (x.0, (x.1.0, ending))

-- if the beginning is read, the outlook has its head and the events after it, with the end that a reader finds
pub outlook_begun : (limits : Limits) (bytes : List ℕ) (head : Head) (p : ℕ) (left : List Bool) → limits.bytes < 2 ^ 64 - 1 → beginning (front_of limits bytes) ≡ Ok (head, p, left)
    → outlook limits bytes ≡ Ok (head, told_of limits (record { total = length bytes; end = end_of_stream head.wrapper; limit = limits.bytes }) at_start p left)
outlook_begun limits bytes head p left low e =
    let told = to_come limits at_start p left in
    let b : Begun limits (front_of limits bytes) (head, p, left) = subst (IsRight limits (front_of limits bytes)) e (beginning_right limits (front_of limits bytes)) in
    elim (cases_lt limits.bytes (length bytes)) [
      | inl longer ↦
          outlook_past limits bytes longer ∙ ap (ending_by (cut_end limits (is_closed limits bytes)) (cut_fault limits (is_closed limits bytes))) b.told
          ∙ ap (with_end (head, told)) (cut_end_is limits bytes _ head.wrapper told.1 low longer b.wrapper (to_come_other limits at_start p left))
      | inr fits ↦
          let len : length (front_of limits bytes) ≡ 8 * length bytes = ap length (all_taken limits bytes fits) ∙ length-bits_of_bytes bytes in
          outlook_within limits bytes fits ∙ b.told ∙ ap (λ (n : ℕ). with_end (head, told) (few_in n head.wrapper told.1)) len
          ∙ ap (with_end (head, told)) (whole_end limits bytes head.wrapper told.1 fits (subst (λ (n : ℕ). HoldsIn n head.wrapper) len b.holds))
    ]

-- if the beginning breaks, the outlook has the fault that a reader returns
pub outlook_declined : (limits : Limits) (bytes : List ℕ) (fault : grammar.Fault) → limits.bytes < 2 ^ 64 - 1 → beginning (front_of limits bytes) ≡ Err fault
    → outlook limits bytes ≡ Err (within (record { total = length bytes; end = end_of_stream (wrapper_of (front_of limits bytes)); limit = limits.bytes }) fault.reason fault.bit)
outlook_declined limits bytes fault low e =
    let b : Unbegun limits (front_of limits bytes) fault = subst (IsRight limits (front_of limits bytes)) e (beginning_right limits (front_of limits bytes)) in
    let outer = wrapper_of (front_of limits bytes) in
    elim (cases_lt limits.bytes (length bytes)) [
      | inl longer ↦ outlook_past limits bytes longer ∙ ap (ending_by (cut_end limits (is_closed limits bytes)) (cut_fault limits (is_closed limits bytes))) b.told ∙ ap Err (fault_cut limits bytes outer fault low longer refl b.other)
      | inr fits ↦ outlook_within limits bytes fits ∙ b.told ∙ ap Err (sym (within_whole (extent_of limits bytes outer) fault.reason fault.bit fits))
    ]
