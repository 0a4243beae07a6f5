-- Whole inputs, by the rules and in the words of the format.
use Rattle.std.proofs.Common.{◌≡◌, ℕ, ◌+◌, ◌-◌, ◌*◌, ◌%◌, ◌≤◌, ◌≢◌, Bool, true, false, eqb, List, ◌++◌, length, Option, Some, None, refl, sym, ap, subst, ◌∙◌, append_assoc, arith, inl, inr}
use Rattle.std.specs.Prelude.{◌↔◌}
use Rattle.std.proofs.lemmas.Bool.{leb-true, eqb-true, eqb-false, ne_eqb, and_parts, not-true}
use Rattle.std.proofs.lemmas.List.{length-append}
use Rattle.bit_grammar.specs.Bits.{bits_of_bytes}
use Rattle.bit_grammar.specs.FormatFields.{IsFixed}
use Rattle.bit_grammar.specs.Forest.{wrapper_magic}
use Rattle.bit_grammar.specs.Marks.{Marks, depth_in, values_in}
use Rattle.bit_grammar.specs.Blocks.{Limits}
use Rattle.bit_grammar.specs.Terms.{no_definitions, Wrapper, Head, Marked}
use Rattle.bit_grammar.specs.FormatBlocks.{PassIn}
use Rattle.bit_grammar.specs.Whole.{SpellsAll}
use Rattle.bit_grammar.specs.Input.{version, offset, wrapper, any_bits, wrapper_and_gap, is_wrapped, inner_magic, stream, wrapped, input, SpellsInput}
use Rattle.bit_grammar.specs.FormatInput.{IsStream, IsWrapped, InputBy, IsInput}
use Rattle.bit_grammar.proofs.Readings.Wholes.{is_le}
use Rattle.bit_grammar.proofs.Words.Fields.{fixed_is, is_fixed}
use Rattle.bit_grammar.proofs.WholeInputs.Limits.{limits_judged}
use Rattle.bit_grammar.proofs.NormalForms.SpelledParts.{Spelled, then_spelled, then_last, given, here_spelled, judge_spelled}
use Rattle.bit_grammar.proofs.Readings.Parts.{apart, from_here, after_judge, is_given, ends, image}
use Rattle.bit_grammar.proofs.Words.TopWords.{BlocksAre, stream_is, stream_spelled}

-- ---- the wrapper and the gap

version_is : (p : ℕ) (s : List Bool) → Spelled version p s tt → IsFixed 32 0 s
unfolding version
version_is p s k =
    let a = apart (from_here k) in
    let one = fixed_is 32 p a.front a.value a.one.is in
    let held = a.two.is in
    subst (IsFixed 32 0) (sym (ends s a.front a.others a.parts held.0)) (subst (λ (n : ℕ). IsFixed 32 n a.front) (eqb-true _ _ held.1) one)

offset_is : (p : ℕ) (s : List Bool) (n : ℕ) → Spelled offset p s n → IsFixed 32 n s × ((20 ≤ n) × (n % 4 ≡ 0))
unfolding offset
offset_is p s n k =
    let a = apart (from_here k) in
    let j = after_judge a.two in
    let g = is_given j.then in
    let both = and_parts _ _ j.held in
    let one = subst (IsFixed 32 a.value) (sym (ends s a.front a.others a.parts g.0)) (fixed_is 32 p a.front a.value a.one.is) in
    subst (λ (x : ℕ). IsFixed 32 x s × ((20 ≤ x) × (x % 4 ≡ 0))) (sym g.1) (one, (leb-true _ _ both.0, eqb-true _ _ both.1))

is_offset : (p : ℕ) (s : List Bool) (n : ℕ) → IsFixed 32 n s → (20 ≤ n) × (n % 4 ≡ 0) → Spelled offset p s n
unfolding offset
is_offset p s n k lawful =
    let low = is_le 20 n lawful.0 in
    let whole : eqb (n % 4) 0 ≡ true = ap (λ (x : ℕ). eqb x 0) lawful.1 in
    here_spelled _ (then_last _ (record { is = is_fixed 32 p s n k }) (judge_spelled _ _ _ (rw (low, whole) refl) given))

-- the wrapper's fields after its magic
record FieldsAre (w : Wrapper) (s : List Bool) : Type 0 where
  version : List Bool
  offset : List Bool
  size : List Bool
  cpu : List Bool
  parts : s ≡ version ++ (offset ++ (size ++ cpu))
  is_version : IsFixed 32 0 version
  is_offset : IsFixed 32 w.offset offset
  offset_lawful : (20 ≤ w.offset) × (w.offset % 4 ≡ 0)
  is_size : IsFixed 32 w.size size
  is_cpu : IsFixed 32 w.cpu cpu

fields_are : (p : ℕ) (s : List Bool) (w : Wrapper) → Spelled wrapper p s w → FieldsAre w s
unfolding wrapper
fields_are p s w k =
    let a = apart k in
    let b = apart a.two in
    let c = apart b.two in
    let d = image c.two in
    let o = offset_is _ b.front b.value b.one in
    subst (λ (x : Wrapper). FieldsAre x s) (sym d.is) (record {
      version = a.front;
      offset = b.front;
      size = c.front;
      cpu = c.others;
      parts = a.parts ∙ ap (λ (t : List Bool). a.front ++ t) (b.parts ∙ ap (λ (t : List Bool). b.front ++ t) c.parts);
      is_version = version_is p a.front a.one;
      is_offset = o.0;
      offset_lawful = o.1;
      is_size = fixed_is 32 _ c.front c.value c.one.is;
      is_cpu = fixed_is 32 _ c.others d.value d.one.is;
    })

are_fields : (p : ℕ) (s : List Bool) (w : Wrapper) → FieldsAre w s → Spelled wrapper p s w
unfolding wrapper version
are_fields p s w k =
    subst (λ (t : List Bool). Spelled wrapper p t w) (sym k.parts)
    (then_spelled _ (here_spelled _ (then_last _ (record { is = is_fixed 32 p k.version 0 k.is_version }) (record { is = (refl, refl) })))
    (then_spelled _ (is_offset _ k.offset w.offset k.is_offset k.offset_lawful)
    (then_spelled _ (record { is = is_fixed 32 _ k.size w.size k.is_size })
    (then_last _ (record { is = is_fixed 32 _ k.cpu w.cpu k.is_cpu }) given))))

any_is : (n p : ℕ) (s : List Bool) (v : Unit {0}) → Spelled (any_bits n) p s v → length s ≡ n
unfolding any_bits
any_is n p s v k =
    let a = image (from_here k) in
    let bits = a.one.is in
    ap length bits.0 ∙ bits.1

is_any : (n p : ℕ) (s : List Bool) → length s ≡ n → Spelled (any_bits n) p s tt
unfolding any_bits
is_any n p s len = here_spelled _ (then_last _ (record { is = (refl, len) }) given)

-- the fields, and the gap up to the stream
record GapIs (w : Wrapper) (s : List Bool) : Type 0 where
  header : List Bool
  gap : List Bool
  parts : s ≡ header ++ gap
  fields : FieldsAre w header
  fills : length gap ≡ 8 * (w.offset - 20)

gap_is : (p : ℕ) (s : List Bool) (w : Wrapper) → Spelled wrapper_and_gap p s w → GapIs w s
unfolding wrapper_and_gap
gap_is p s w k =
    let a = apart k in
    let b = apart a.two in
    let g = is_given b.two in
    let gap = ends a.others b.front b.others b.parts g.0 in
    subst (λ (x : Wrapper). GapIs x s) (sym g.1) (record { header = a.front; gap = a.others; parts = a.parts; fields = fields_are p a.front a.value a.one; fills = ap length gap ∙ any_is _ _ b.front b.value b.one })

is_gap : (p : ℕ) (s : List Bool) (w : Wrapper) → GapIs w s → Spelled wrapper_and_gap p s w
unfolding wrapper_and_gap
is_gap p s w k = subst (λ (t : List Bool). Spelled wrapper_and_gap p t w) (sym k.parts) (then_spelled _ (are_fields p k.header w k.fields) (then_last _ (is_any _ _ k.gap k.fills) given))

fields_length : (w : Wrapper) (s : List Bool) → FieldsAre w s → length s ≡ 128
fields_length w s k =
    omega (arith, ap length k.parts, length-append k.version (k.offset ++ (k.size ++ k.cpu)), length-append k.offset (k.size ++ k.cpu), length-append k.size k.cpu, k.is_version.length, k.is_offset.length, k.is_size.length, k.is_cpu.length)

-- ---- the stream

is_bare : (magic : ℕ) → is_wrapped magic ≡ false → magic ≢ wrapper_magic
is_bare magic e = eqb-false magic wrapper_magic e

not_wrapped : (magic : ℕ) → magic ≢ wrapper_magic → is_wrapped magic ≡ false
not_wrapped magic h = ne_eqb magic wrapper_magic h

inner_is : (p : ℕ) (s : List Bool) (magic : ℕ) → Spelled inner_magic p s magic → IsFixed 32 magic s × (magic ≢ wrapper_magic)
unfolding inner_magic
inner_is p s magic k =
    let a = apart (from_here k) in
    let j = after_judge a.two in
    let g = is_given j.then in
    let one = subst (IsFixed 32 a.value) (sym (ends s a.front a.others a.parts g.0)) (fixed_is 32 p a.front a.value a.one.is) in
    subst (λ (n : ℕ). IsFixed 32 n s × (n ≢ wrapper_magic)) (sym g.1) (one, is_bare a.value (not-true _ j.held))

is_inner : (p : ℕ) (s : List Bool) (magic : ℕ) → IsFixed 32 magic s → magic ≢ wrapper_magic → Spelled inner_magic p s magic
unfolding inner_magic
is_inner p s magic k bare =
    let no = not_wrapped magic bare in
    here_spelled _ (then_last _ (record { is = is_fixed 32 p s magic k }) (judge_spelled _ _ _ (rw no refl) given))

-- a magic and the blocks after it
stream_made : (p q magic : ℕ) (blocks : Marks) (front rest s : List Bool) (after : ℕ) → s ≡ front ++ rest → IsFixed 32 magic front → magic ≢ wrapper_magic → q ≡ p + 32 → BlocksAre blocks no_definitions q rest after
    → IsStream p magic blocks s × (after ≡ p + length s)
stream_made p q magic blocks front rest s after parts is bare place k =
    let b = subst (λ (x : ℕ). BlocksAre blocks no_definitions x rest after) place k in
    (record { front = front; rest = rest; left = b.left; parts = parts; is_magic = is; bare = bare; only = b.only; items = b.items }, omega (arith, b.ends, ap length parts, length-append front rest, is.length))

-- the blocks after a stream's magic
blocks_made : (p q magic : ℕ) (blocks : Marks) (s : List Bool) (after : ℕ) (k : IsStream p magic blocks s) → q ≡ p + 32 → after ≡ p + length s → BlocksAre blocks no_definitions q k.rest after
blocks_made p q magic blocks s after k place end =
    subst (λ (x : ℕ). BlocksAre blocks no_definitions x k.rest after) (sym place) (record { left = k.left; only = k.only; items = k.items; ends = omega (arith, end, ap length k.parts, length-append k.front k.rest, k.is_magic.length) })

-- ---- the parts of a wrapped input

-- the header, after the magic and before the gap
regrouped : (a h g s : List Bool) → a ++ ((h ++ g) ++ s) ≡ (a ++ h) ++ (g ++ s)
regrouped a h g s = ap (λ (x : List Bool). a ++ x) (append_assoc h g s) ∙ sym (append_assoc a h (g ++ s))

-- a wrapped input after its magic
wrapped_is : (limits : Limits) (p : ℕ) (front others s : List Bool) (m : Marked) → s ≡ front ++ others → IsFixed 32 wrapper_magic front → p ≡ 32 → SpellsAll (wrapped limits) p others m → IsInput m s
unfolding wrapped
wrapped_is limits p front others s m parts is place k =
    let w = k.2 in
    let gap = gap_is p k.0 w (record { is = k.4 }) in
    let f = gap.fields in
    let i = k.5 in
    let j = i.4 in
    let magic = inner_is _ j.0 j.2 (record { is = j.4 }) in
    let t = stream_is limits (record { magic = j.2; wrapper = Some w }) _ j.1 m j.5 in
    let at_stream : p + length k.0 ≡ 8 * w.offset = omega (arith, place, ap length gap.parts, length-append gap.header gap.gap, fields_length w gap.header f, gap.fills, f.offset_lawful.0) in
    let made = stream_made (8 * w.offset) _ j.2 m.blocks j.0 j.1 i.0 m.after j.3 magic.0 magic.1 (omega (arith, at_stream, magic.0.length)) t.blocks in
    let all : s ≡ (front ++ (f.version ++ (f.offset ++ (f.size ++ f.cpu)))) ++ (gap.gap ++ (i.0 ++ i.1)) =
    parts ∙ ap (λ (x : List Bool). front ++ x) (k.3 ∙ ap (λ (x : List Bool). x ++ k.1) (gap.parts ∙ ap (λ (x : List Bool). x ++ gap.gap) f.parts))
    ∙ regrouped front (f.version ++ (f.offset ++ (f.size ++ f.cpu))) gap.gap k.1 ∙ ap (λ (x : List Bool). (front ++ (f.version ++ (f.offset ++ (f.size ++ f.cpu)))) ++ (gap.gap ++ x)) i.2 in
    let head : Head = record { magic = j.2; wrapper = Some w } in
    let whole : IsWrapped w j.2 m.blocks s = record {
      front = front;
      version = f.version;
      offset = f.offset;
      size = f.size;
      cpu = f.cpu;
      gap = gap.gap;
      stream = i.0;
      tail = i.1;
      parts = all;
      is_magic = is;
      is_version = f.is_version;
      is_offset = f.is_offset;
      offset_lawful = f.offset_lawful;
      is_size = f.is_size;
      is_cpu = f.is_cpu;
      gap_fills = omega (arith, gap.fills, f.offset_lawful.0);
      stream_fills = i.3;
      is_stream = made.0;
    } in
    subst (λ (h : Head). InputBy h.wrapper (record m { head = h }) s) (sym t.begins) (whole, omega (arith, made.1, i.3))

is_wrapped_input : (limits : Limits) (w : Wrapper) (s : List Bool) (m : Marked) (k : IsWrapped w m.head.magic m.blocks s) → m.head.wrapper ≡ Some w → m.after ≡ 8 * (w.offset + w.size) → depth_in m.blocks ≤ limits.depth → values_in m.blocks ≤ limits.values → PassIn limits.shapes m.blocks
    → SpellsAll (wrapped limits) 32 ((k.version ++ (k.offset ++ (k.size ++ k.cpu))) ++ (k.gap ++ (k.stream ++ k.tail))) m
unfolding wrapped
is_wrapped_input limits w s m k by end deep fits passes =
    let header : List Bool = k.version ++ (k.offset ++ (k.size ++ k.cpu)) in
    let f : FieldsAre w header = record { version = k.version; offset = k.offset; size = k.size; cpu = k.cpu; parts = refl; is_version = k.is_version; is_offset = k.is_offset; offset_lawful = k.offset_lawful; is_size = k.is_size; is_cpu = k.is_cpu } in
    let gap = is_gap 32 (header ++ k.gap) w (record { header = header; gap = k.gap; parts = refl; fields = f; fills = omega (arith, k.gap_fills) }) in
    let at_stream : 32 + length (header ++ k.gap) ≡ 8 * w.offset = omega (arith, length-append header k.gap, fields_length w header f, k.gap_fills) in
    let t = k.is_stream in
    let blocks = blocks_made (8 * w.offset) (32 + length (header ++ k.gap) + length t.front) m.head.magic m.blocks k.stream m.after t (omega (arith, at_stream, t.is_magic.length)) (omega (arith, end, k.stream_fills)) in
    let head : record { magic = m.head.magic; wrapper = Some w } ≡ m.head = ap (λ (x : Option Wrapper). record { magic = m.head.magic; wrapper = x }) (sym by) in
    let spelled = stream_spelled limits _ t.rest m deep fits passes blocks in
    let spelled' = subst (λ (h : Head). SpellsAll (stream limits h) (32 + length (header ++ k.gap) + length t.front) t.rest m) (sym head) spelled in (
      header ++ k.gap,
      k.stream ++ k.tail,
      w,
      sym (append_assoc header k.gap (k.stream ++ k.tail)),
      gap.is,
      (k.stream, k.tail, refl, k.stream_fills, (t.front, t.rest, m.head.magic, t.parts, (is_inner _ t.front m.head.magic t.is_magic t.bare).is, spelled')),
    )

-- ---- the input

input_is : (limits : Limits) (s : List Bool) (m : Marked) → SpellsAll (input limits) 0 s m → IsInput m s
unfolding input
input_is limits s m (front, others, magic, parts, spelled, inl k) =
    let is = fixed_is 32 0 front magic spelled in
    wrapped_is limits _ front others s m parts (subst (λ (n : ℕ). IsFixed 32 n front) (eqb-true _ _ k.0) is) (omega (arith, is.length)) k.1
input_is limits s m (front, others, magic, parts, spelled, inr k) =
    let is = fixed_is 32 0 front magic spelled in
    let head : Head = record { magic = magic; wrapper = None } in
    let t = stream_is limits head _ others m k.1 in
    let made = stream_made 0 _ magic m.blocks front others s m.after parts is (is_bare magic k.0) (omega (arith, is.length)) t.blocks in
    subst (λ (h : Head). InputBy h.wrapper (record m { head = h }) s) (sym t.begins) (made.0, omega (arith, made.1))

is_input : (limits : Limits) (o : Option Wrapper) (s : List Bool) (m : Marked) → m.head.wrapper ≡ o → InputBy o m s → depth_in m.blocks ≤ limits.depth → values_in m.blocks ≤ limits.values → PassIn limits.shapes m.blocks → SpellsAll (input limits) 0 s m
unfolding input
is_input limits None s m by k deep fits passes =
    let t = k.0 in
    let blocks = blocks_made 0 (0 + length t.front) m.head.magic m.blocks s m.after t (omega (arith, t.is_magic.length)) (omega (arith, k.1)) in
    let head : record { magic = m.head.magic; wrapper = None } ≡ m.head = ap (λ (x : Option Wrapper). record { magic = m.head.magic; wrapper = x }) (sym by) in
    let spelled = subst (λ (h : Head). SpellsAll (stream limits h) (0 + length t.front) t.rest m) (sym head) (stream_spelled limits _ t.rest m deep fits passes blocks) in
    (t.front, t.rest, m.head.magic, t.parts, is_fixed 32 0 t.front m.head.magic t.is_magic, inr (not_wrapped m.head.magic t.bare, spelled))
is_input limits (Some w) s m by k deep fits passes =
    let t = k.0 in
    let header : List Bool = t.version ++ (t.offset ++ (t.size ++ t.cpu)) in
    let others : List Bool = t.gap ++ (t.stream ++ t.tail) in
    let place : 32 ≡ 0 + length t.front = omega (arith, t.is_magic.length) in
    let spelled = subst (λ (q : ℕ). SpellsAll (wrapped limits) q (header ++ others) m) place (is_wrapped_input limits w s m t by k.1 deep fits passes) in
    (t.front, header ++ others, wrapper_magic, t.parts ∙ append_assoc t.front header others, is_fixed 32 0 t.front wrapper_magic t.is_magic, inl (refl, spelled))

pub input_agrees : (limits : Limits) (bytes : List ℕ) (m : Marked) → (SpellsInput limits bytes m ↔ (IsInput m (bits_of_bytes bytes) × (length bytes ≤ limits.bytes) × (depth_in m.blocks ≤ limits.depth) × (values_in m.blocks ≤ limits.values) × PassIn limits.shapes m.blocks))
input_agrees limits bytes m = (there, back)
  where
    there : SpellsInput limits bytes m → IsInput m (bits_of_bytes bytes) × (length bytes ≤ limits.bytes) × (depth_in m.blocks ≤ limits.depth) × (values_in m.blocks ≤ limits.values) × PassIn limits.shapes m.blocks
    there k =
        let kept = (limits_judged limits limits bytes m k).0 k in
        (input_is limits (bits_of_bytes bytes) m k.spelled, kept.0, kept.1, kept.2, kept.3)

    back : IsInput m (bits_of_bytes bytes) × (length bytes ≤ limits.bytes) × (depth_in m.blocks ≤ limits.depth) × (values_in m.blocks ≤ limits.values) × PassIn limits.shapes m.blocks → SpellsInput limits bytes m
    back k = record { fits = k.1; spelled = is_input limits m.head.wrapper (bits_of_bytes bytes) m refl k.0 k.2 k.3 k.4 }
