-- The steps of a stream, after a head, are those of some bytes, whether the bytes of the source are known or not.
use Rattle.std.proofs.Common.{◌≡◌, ℕ, ◌+◌, ◌*◌, ◌-◌, ◌/◌, ◌%◌, ◌^◌, ◌<◌, ◌≤◌, Bool, List, [], ◌++◌, length, Some, None, refl, sym, ap, subst, ◌∙◌, arith, append_assoc, inl, inr}
use Rattle.std.proofs.lemmas.List.{append-nil, length-append}
use Rattle.bit_grammar.specs.Grammar.{Spells}
use Rattle.bit_grammar.specs.Blocks.{Limits}
use Rattle.bit_grammar.specs.Whole.{Whole, SpellsAll}
use Rattle.bit_grammar.specs.Input.{stream, wrapped, input, marked_with}
use Rattle.bit_grammar.specs.Terms.{Head, Marked}
use Rattle.bit_grammar.specs.Machine.{Event, flat, Machine, at_start, accepted}
use Rattle.bit_grammar.specs.Steps.{Leads, Steps}
use Rattle.bit_grammar.proofs.Bits.Bytes.{bytes_of, BytesOf}
use Rattle.bit_grammar.proofs.Events.Steps.{steps_after, steps_spelled}
use Rattle.bit_fields.specs.Opening.{opening, end_of_stream}
use Rattle.bit_events.proofs.Beginnings.{GapIs, gap_is, small}
use Rattle.bit_events.proofs.WholeInputs.{Accepted}

-- these bits are by a rule a marked tree with this head and these events, which ends before bit q
record IsMarked (whole : Whole Marked) (p : ℕ) (r : List Bool) (head : Head) (events : List Event) (q : ℕ) : Type 0 where
  m : Marked
  spelled : SpellsAll whole p r m
  is_head : m.head ≡ head
  flattened : events ≡ flat m.blocks []
  ended : m.after ≡ q

-- the steps of a stream are its blocks
stream_marked : (limits : Limits) (head : Head) (p : ℕ) (t : List Bool) (events : List Event) (new : Machine) → Leads limits at_start p t events new → new.frames ≡ [] → IsMarked (stream limits head) p t head events (p + length t)
unfolding stream
stream_marked limits head p t events new leads none =
    let q : ℕ = p + length t in
    let all = steps_after limits at_start new p t [] events [] (accepted q) leads ((none, refl), refl) in
    let steps : Steps limits at_start p t events (accepted q) = subst (λ (r : List Bool). Steps limits at_start p r events (accepted q)) (append-nil t) (subst (λ (es : List Event). Steps limits at_start p (t ++ []) es (accepted q)) (append-nil events) all) in
    let v = steps_spelled limits p t events q steps in
    record { m = marked_with head v.0; spelled = (v.0, v.1, refl); is_head = refl; flattened = v.2; ended = sym v.3 }

-- the head and the steps after it
input_marked : (limits : Limits) (head : Head) (p end q : ℕ) (s t : List Bool) (events : List Event) (new : Machine) → Spells opening 0 s head → p ≡ 0 + length s → Leads limits at_start p t events new → new.frames ≡ [] → q ≡ p + length t → end ≡ end_of_stream head.wrapper → (end < 2 ^ 64 - 1 → q ≡ 8 * end)
    → IsMarked (input limits) 0 (s ++ t) head events q
unfolding opening input wrapped
input_marked limits head p end q s t events new (front, others, magic, parts, first, inr (bare, (none, is))) place leads closed q_is end_is fills =
    let here : p ≡ 0 + length front = omega (arith, place, ap length parts, length-append front others, ap length none) in
    let it = stream_marked limits (record { magic = magic; wrapper = None }) (0 + length front) t events new (subst (λ (n : ℕ). Leads limits at_start n t events new) here leads) closed in
    let all : s ++ t ≡ front ++ t = ap (λ (r : List Bool). r ++ t) (parts ∙ ap (λ (r : List Bool). front ++ r) none ∙ append-nil front) in
    record {
      m = it.m;
      spelled = (front, t, magic, all, first, inr (bare, it.spelled));
      is_head = it.is_head ∙ sym is;
      flattened = it.flattened;
      ended = omega (arith, it.ended, here, q_is);
    }
input_marked limits head p end q s t events new (front, others, magic, parts, first, inl (is_wrapper, (gap, inner, w, more, header, (bits, rest, number, last, second, (none, is))))) place leads closed q_is end_is fills =
    let g : GapIs w (length gap) = gap_is (0 + length front) gap w (record { is = header }) in
    let whole : length s ≡ 32 + (length gap + length bits) = omega (arith, ap length parts, length-append front others, (small 0 front magic first).0, ap length more, length-append gap inner, ap length last, length-append bits rest, ap length none) in
    let here : p ≡ 0 + length front + length gap + length bits = omega (arith, place, whole, (small 0 front magic first).0) in
    let it = stream_marked limits (record { magic = number; wrapper = Some w }) (0 + length front + length gap + length bits) t events new (subst (λ (n : ℕ). Leads limits at_start n t events new) here leads) closed in
    let bound : end ≡ w.offset + w.size = end_is ∙ ap (λ (h : Head). end_of_stream h.wrapper) is in
    let filled : length (bits ++ t) ≡ 8 * w.size = omega (arith, length-append bits t, fills (omega (arith, bound, g.offset, g.size)), bound, q_is, place, whole, g.ends) in
    let tail : rest ++ t ≡ t = ap (λ (r : List Bool). r ++ t) none in
    let all : s ++ t ≡ front ++ (gap ++ (bits ++ t)) =
    ap (λ (r : List Bool). r ++ t) (parts ∙ ap (λ (r : List Bool). front ++ r) (more ∙ ap (λ (r : List Bool). gap ++ r) last)) ∙ append_assoc front (gap ++ (bits ++ rest)) t ∙ ap (λ (r : List Bool). front ++ r) (append_assoc gap (bits ++ rest) t ∙ ap (λ (r : List Bool). gap ++ r) (append_assoc bits rest t ∙ ap (λ (r : List Bool). bits ++ r) tail)) in
    record {
      m = it.m;
      spelled = (front, gap ++ (bits ++ t), magic, all, first, inl (is_wrapper, (gap, bits ++ t, w, refl, header, (bits ++ t, [], sym (append-nil (bits ++ t)), filled, (bits, t, number, refl, second, it.spelled)))));
      is_head = it.is_head ∙ sym is;
      flattened = it.flattened;
      ended = omega (arith, it.ended, here, q_is);
    }

-- there are bytes with these bits
pub some_bytes : (limits : Limits) (head : Head) (p end q : ℕ) (s t : List Bool) (events : List Event) (new : Machine) → Spells opening 0 s head → p ≡ 0 + length s → Leads limits at_start p t events new → new.frames ≡ [] → q ≡ p + length t → end ≡ end_of_stream head.wrapper → (end < 2 ^ 64 - 1 → q ≡ 8 * end) → q % 8 ≡ 0 → q ≤ 8 * limits.bytes
    → (bytes : List ℕ) × Accepted limits bytes head events q
some_bytes limits head p end q s t events new h place leads closed q_is end_is fills aligned few =
    let it = input_marked limits head p end q s t events new h place leads closed q_is end_is fills in
    let b : BytesOf (s ++ t) (q / 8) = bytes_of (q / 8) (s ++ t) (omega (arith, length-append s t, q_is, place, aligned)) in (
      b.bytes,
      record {
        m = it.m;
        spelled = record { fits = omega (arith, b.count, few); spelled = subst (λ (r : List Bool). SpellsAll (input limits) 0 r it.m) (sym b.is) it.spelled };
        is_head = it.is_head;
        flattened = it.flattened;
        ended = it.ended;
      },
    )
