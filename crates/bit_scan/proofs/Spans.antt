-- The bits of the records of a stream are at most those of the stream.
use Rattle.std.proofs.Common.{◌≡◌, ℕ, ◌+◌, ◌*◌, ◌≤◌, List, [], ◌∷◌, length, Bool, sym, ap, subst, ◌∙◌, arith, inl, inr, Some, None}
use Rattle.std.proofs.lemmas.List.{length-append}
use Rattle.bit_grammar.specs.Bits.{bits_of_bytes}
use Rattle.bit_grammar.specs.Grammar.{Spells}
use Rattle.bit_grammar.specs.Marks.{RecordMark}
use Rattle.bit_grammar.specs.Blocks.{Limits, Handed, Scope, BlockHead, nothing_handed, define, record_after}
use Rattle.bit_grammar.specs.Whole.{SpellsAll}
use Rattle.bit_grammar.specs.Input.{top_blocks, stream, wrapped, input, SpellsInput}
use Rattle.bit_grammar.specs.Terms.{Head, Marked}
use Rattle.bit_grammar.specs.Machine.{Event, enters, defines, notes, leaves, flat, Frame, Machine, at_start, frame_of, scope_of, open_block, open_nested, step_after, step_in, step_top, step_of, Ending, accepted}
use Rattle.bit_grammar.specs.Steps.{Steps}
use Rattle.bit_grammar.specs.Tally.{record_bits}
use Rattle.bit_grammar.proofs.Bits.Bytes.{bytes_length}
use Rattle.bit_grammar.proofs.Tallying.Places.{blocks_placed}
use Rattle.bit_grammar.proofs.Events.Steps.{spelled_steps}

-- the bits of the record of an event
abbrev pub bits_told : Event → ℕ
bits_told (enters o) = 0
bits_told (defines mark) = 0
bits_told (notes mark) = record_bits mark
bits_told (leaves after) = 0

-- the bits of all records
abbrev pub all_bits_told : List Event → ℕ
all_bits_told [] = 0
all_bits_told (event ∷ events) = bits_told event + all_bits_told events

-- ---- a step

-- the record of an event, if it has one, is from bit `first` on and before bit `after`
record Spanned (first after : ℕ) (v : Event × Machine) : Type 0 where
  few : first + bits_told v.0 ≤ after

opened_none : (limits : Limits) (frames : List Frame) (first : ℕ) (handed : Handed) (p : ℕ) (s : List Bool) (v : Event × Machine) → Spells (open_block limits frames first handed) p s v → bits_told v.0 ≡ 0
unfolding open_block
opened_none limits frames first handed p s v k = ap (λ (x : Event × Machine). bits_told x.0) k.5.5.1

after_spanned : (limits : Limits) (h : BlockHead) (frames : List Frame) (first : ℕ) (scope : Scope) (id p : ℕ) (s : List Bool) (v : Event × Machine) → first ≤ p → Spells (step_after limits h frames first scope id) p s v → Spanned first (p + length s) v
unfolding step_after open_nested define record_after
after_spanned limits h frames first scope id p s v le (inl k) = record { few = omega (arith, ap (λ (x : Event × Machine). bits_told x.0) k.1.5.1) }
after_spanned limits h frames first scope id p s v le (inr (e, inl k)) = record { few = omega (arith, opened_none limits (frame_of h scope ∷ frames) first scope.handed _ k.1.1 v k.1.5) }
after_spanned limits h frames first scope id p s v le (inr (e, inr (e', inl k))) = record { few = omega (arith, ap (λ (x : Event × Machine). bits_told x.0) k.1.5.1) }
after_spanned limits h frames first scope id p s v le (inr (e, inr (e', inr k))) =
    let r = k.1 in
    let m = r.4 in
    let made = m.5.5.5.1 in
    let begins : r.2.0.first ≡ first = ap (λ (y : RecordMark × Scope). y.0.first) made in
    let ends : r.2.0.after ≡ p + length m.0 = ap (λ (y : RecordMark × Scope). y.0.after) made ∙ m.5.4.1 in
    let told : bits_told v.0 ≡ record_bits r.2.0 = ap (λ (x : Event × Machine). bits_told x.0) r.5.1 in
    record { few = omega (arith, told, begins, ends, ap length r.3, length-append r.0 r.1, ap length m.3, length-append m.0 m.1) }

frames_spanned : (limits : Limits) (frames : List Frame) (handed : Handed) (p : ℕ) (s : List Bool) (v : Event × Machine) → Spells (step_of limits frames handed) p s v → bits_told v.0 ≤ length s
unfolding step_in step_top
frames_spanned limits [] handed p s v k = omega (arith, opened_none limits [] k.2 handed _ k.5.5.1 v k.5.5.5)
frames_spanned limits (f ∷ frames) handed p s v k =
    let i = k.5 in
    let begins : k.2 ≡ p = k.4.1 in
    let spanned = after_spanned limits f.head frames k.2 (scope_of f handed) i.2 (p + length k.0 + length i.0) i.1 v (omega (arith, begins)) i.5 in
    omega (arith, spanned.few, begins, ap length k.3, length-append k.0 k.1, ap length i.3, length-append i.0 i.1)

-- ---- a stream

-- the number of events and the bits of their records are at most the bits that the events take
pub record Told (bits : ℕ) (events : List Event) : Type 0 where
  pub count : length events ≤ bits
  pub records : all_bits_told events ≤ bits

steps_told : (limits : Limits) (m : Machine) (p : ℕ) (r : List Bool) (events : List Event) (ending : Ending) → Steps limits m p r events ending → Told (length r) events
steps_told limits m p r [] ending h = record { count = omega arith; records = omega arith }
steps_told limits m p r (event ∷ events) ending h =
    let more = steps_told limits h.2 (p + length h.0) h.1 events ending h.6 in
    let one = frames_spanned limits m.frames m.handed p h.0 (event, h.2) h.5 in
    let len : length r ≡ length h.0 + length h.1 = ap length h.3 ∙ length-append h.0 h.1 in
    record { count = omega (arith, more.count, h.4, len); records = omega (arith, more.records, one, len) }

-- the events of an input with these bits, which ends before bit `after`
pub record InputTold (limits : Limits) (bits : ℕ) (m : Marked) : Type 0 where
  pub told : Told bits (flat m.blocks [])
  pub after : m.after ≤ bits

stream_told : (limits : Limits) (head : Head) (p bits : ℕ) (r : List Bool) (m : Marked) → p + length r ≤ bits → SpellsAll (stream limits head) p r m → InputTold limits bits m
unfolding stream top_blocks
stream_told limits head p bits r m le k =
    let f = blocks_placed limits k.0.0 nothing_handed p r k.0.1 k.1 in
    let t = steps_told limits at_start p r _ (accepted k.0.1) (spelled_steps limits p r k.0 k.1) in
    subst (InputTold limits bits) (sym k.2) (record {
      told = record { count = omega (arith, le, t.count); records = omega (arith, le, t.records) };
      after = omega (arith, le, f.there);
    })

wrapped_told : (limits : Limits) (p bits : ℕ) (r : List Bool) (m : Marked) → p + length r ≤ bits → SpellsAll (wrapped limits) p r m → InputTold limits bits m
unfolding wrapped
wrapped_told limits p bits r m le k =
    let i = k.5 in
    let j = i.4 in
    let head : Head = record { magic = j.2; wrapper = Some k.2 } in
    let fits : p + length k.0 + length j.0 + length j.1 ≤ bits = omega (arith, le, ap length k.3, length-append k.0 k.1, ap length i.2, length-append i.0 i.1, ap length j.3, length-append j.0 j.1) in
    stream_told limits head (p + length k.0 + length j.0) bits j.1 m fits j.5

bits_spelled : (limits : Limits) (r : List Bool) (m : Marked) → SpellsAll (input limits) 0 r m → InputTold limits (length r) m
unfolding input
bits_spelled limits r m (front, others, magic, parts, spelled, inl k) =
    wrapped_told limits (0 + length front) (length r) others m (omega (arith, ap length parts, length-append front others)) k.1
bits_spelled limits r m (front, others, magic, parts, spelled, inr k) =
    stream_told limits (record { magic = magic; wrapper = None }) (0 + length front) (length r) others m (omega (arith, ap length parts, length-append front others)) k.1

-- the events of an input, in at most the bits of its bytes
pub input_told : (limits : Limits) (bytes : List ℕ) (m : Marked) → SpellsInput limits bytes m → InputTold limits (8 * length bytes) m
input_told limits bytes m h = subst (λ (n : ℕ). InputTold limits n m) (bytes_length bytes) (bits_spelled limits (bits_of_bytes bytes) m h.spelled)
