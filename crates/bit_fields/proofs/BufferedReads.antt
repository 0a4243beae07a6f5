-- Buffered bits: one field after another, and what a reader takes when it catches up.
use Rattle.std.proofs.Common.{◌≡◌, ℕ, ◌+◌, ◌-◌, ◌≤◌, Bool, List, ◌++◌, length, drop, Result, Ok, Err, refl, sym, ap, ◌∙◌, subst, arith, append_assoc}
use Rattle.std.proofs.lemmas.List.{length-append, drop_at}
use Rattle.bit_grammar.specs.Grammar as grammar
use Rattle.bit_grammar.specs.Grammar.{Grammar, gives, ◌>>=◌, Spells, reading}
use Rattle.bit_grammar.specs.Input.{any_bits}
use Rattle.bit_grammar.proofs.Readings.Deciding.{reads, is_spelled}
use Rattle.bit_fields.specs.declared.fault.Fault.{Fault}
use Rattle.bit_fields.specs.declared.fault.Fault.TheVariants.{Refused, Read, Write, Memory, OutputTooLong, Failed}
use Rattle.bit_fields.specs.Reader.{Reader, TellsBytes, Breaks, SpellsTo, Took, Why, Takes}
use Rattle.bit_fields.specs.Short.{TookNothing}
use Rattle.bit_fields.specs.declared.buffered.BufferedParts.{BufferedParts}
use Rattle.bit_fields.specs.BufferedParts.{bits_of_parts, Shown}
use Rattle.bit_fields.proofs.Composing.{spells_read, took_then, same_reading}
use Rattle.bit_fields.specs.Buffered.{BufferedBits, Reads, Sees, reader_further, reader_at, beyond}
use Rattle.bit_fields.proofs.InflowLaws.{Spends-refl}
use Rattle.bit_fields.proofs.Gap.{gap_whole}

-- ---- a reader that has only the buffered bits

pub reads_took : {A : Type 0} (rule : Grammar A) (a : BufferedBits) (value : A) (b : BufferedBits) → Reads rule a value b → a.position ≤ b.position → Took rule (reader_at a) value (reader_at b)
reads_took rule a value b seen forward = record {
  was_live = refl;
  live = refl;
  goes_on = Spends-refl (reader_at a).incoming 0;
  forward = forward;
  end = refl;
  limit = refl;
  extent = λ k. refl;
  reads = λ k. seen;
  spells = spells_read rule a.position a.bits value b.position b.bits seen;
}

pub took_reads : {A : Type 0} (rule : Grammar A) (a : BufferedBits) (value : A) (b : BufferedBits) → Took rule (reader_at a) value (reader_at b) → Reads rule a value b
took_reads rule a value b t = t.reads refl

-- ---- what follows

-- what was skipped
pub reads_passed : {A : Type 0} (rule : Grammar A) (a : BufferedBits) (value : A) (b : BufferedBits) → Reads rule a value b → (passed : List Bool) × (a.bits ≡ passed ++ b.bits) × (b.position ≡ a.position + length passed) × Spells rule a.position passed value
reads_passed rule a value b seen = is_spelled rule a.position a.bits value b.position b.bits seen

pub reads_forward : {A : Type 0} (rule : Grammar A) (a : BufferedBits) (value : A) (b : BufferedBits) → Reads rule a value b → a.position ≤ b.position
reads_forward rule a value b seen = let p = reads_passed rule a value b seen in omega (arith, p.2)

-- the rule reads the same, whatever follows what is buffered
pub reads_before : {A : Type 0} (rule : Grammar A) (a : BufferedBits) (value : A) (b : BufferedBits) → Reads rule a value b → (rest : List Bool) → reading rule a.position (a.bits ++ rest) ≡ Ok (value, b.position, b.bits ++ rest)
reads_before rule a value b seen rest =
    let p = reads_passed rule a value b seen in
    let all : a.bits ++ rest ≡ p.0 ++ (b.bits ++ rest) = ap (λ (s : List Bool). s ++ rest) p.1 ∙ append_assoc p.0 b.bits rest in
    ap (reading rule a.position) all ∙ reads rule a.position p.0 value (b.bits ++ rest) p.3 ∙ ap (λ (q : ℕ). Ok (value, q, b.bits ++ rest)) (sym p.2)

-- the bits left after those that were skipped
left_behind : {A : Type 0} (rule : Grammar A) (a : BufferedBits) (value : A) (b : BufferedBits) → Reads rule a value b → (rest : List Bool) → drop (b.position - a.position) (a.bits ++ rest) ≡ b.bits ++ rest
left_behind rule a value b seen rest =
    let p = reads_passed rule a value b seen in
    let all : a.bits ++ rest ≡ p.0 ++ (b.bits ++ rest) = ap (λ (s : List Bool). s ++ rest) p.1 ∙ append_assoc p.0 b.bits rest in
    ap (drop (b.position - a.position)) all ∙ drop_at p.0 (b.bits ++ rest) (b.position - a.position) (omega (arith, p.2))

-- this many bits are buffered
pub reads_there : {A : Type 0} (rule : Grammar A) (a : BufferedBits) (value : A) (b : BufferedBits) → Reads rule a value b → b.position - a.position ≤ length a.bits
reads_there rule a value b seen = let p = reads_passed rule a value b seen in omega (arith, p.2, ap length p.1, length-append p.0 b.bits)

-- the remaining buffered bits are those after the bits that were read
pub reads_beyond : {A : Type 0} (rule : Grammar A) (a : BufferedBits) (value : A) (b : BufferedBits) (bits : ℕ) → Reads rule a value b → bits ≡ b.position - a.position → Reads rule a value (beyond a bits)
reads_beyond rule a value b bits seen is =
    let p = reads_passed rule a value b seen in
    let place : b.position ≡ a.position + bits = omega (arith, p.2, is) in
    let left : b.bits ≡ drop bits a.bits = sym (ap (drop bits) p.1 ∙ drop_at p.0 b.bits bits (omega (arith, p.2, is))) in
    seen ∙ rw (place, left) refl

-- ---- a reader before these bits

-- what a call takes after one that took nothing
pub nothing_then : {A : Type 0} (rule : Grammar A) (a b : Reader) (result : Result A Fault) (c : Reader) → TookNothing a b → Takes rule b result c → Takes rule a result c
nothing_then rule a b result c nothing t = same_reading (gives (tt {0}) >>= λ v. rule) rule a result c (λ p r. refl) (took_then (gives (tt {0})) (λ v. rule) a (tt {0}) b result c nothing t)

pub seen_took : {A : Type 0} (rule : Grammar A) (r : Reader) (a : BufferedBits) (value : A) (b : BufferedBits) → Sees r a → Reads rule a value b → Took rule r value (reader_further r (b.position - a.position)) × Sees (reader_further r (b.position - a.position)) b
seen_took rule r a value b sees seen =
    let on : a.position ≤ b.position = reads_forward rule a value b seen in
    let place : r.position + (b.position - a.position) ≡ b.position = omega (arith, sees.position) in
    let left : (k : TellsBytes r) → drop (b.position - a.position) r.left ≡ b.bits ++ (sees.front k).0 = λ k. ap (drop (b.position - a.position)) (sees.front k).1 ∙ left_behind rule a value b seen (sees.front k).0 in (
      record {
        was_live = sees.live;
        live = sees.live;
        goes_on = Spends-refl r.incoming r.budget;
        forward = omega arith;
        end = refl;
        limit = refl;
        extent = λ k. refl;
        reads = λ k. ap (reading rule r.position) (sees.front k).1 ∙ ap (λ (p : ℕ). reading rule p (a.bits ++ (sees.front k).0)) sees.position ∙ reads_before rule a value b seen (sees.front k).0
            ∙ rw (place, left k) refl;
        spells = subst (λ (p : ℕ). SpellsTo rule p value (r.position + (b.position - a.position))) (sym sees.position)
            (subst (λ (q : ℕ). SpellsTo rule a.position value q) (sym place) (spells_read rule a.position a.bits value b.position b.bits seen));
      },
      record { live = sees.live; position = place; front = λ k. ((sees.front k).0, left k) },
    )

-- ---- a reader that catches up

any_whole : (count p : ℕ) (r : List Bool) → count ≤ length r → reading (any_bits count) p r ≡ Ok (tt, p + count, drop count r)
unfolding any_bits
any_whole count p r there = gap_whole count p p r there

same_answer : (x y : (Unit {0}) × ℕ × List Bool) → ◌≡◌ {A = Result ((Unit {0}) × ℕ × List Bool) grammar.Fault} (Ok x) (Ok y) → (x.1 ≡ y.1) × (x.2 ≡ y.2)
same_answer x y e = (cc, cc)

any_spelled : (count p q : ℕ) → SpellsTo (any_bits count) p tt q → q ≡ p + count
unfolding any_bits
any_spelled count p q k =
    let a = k.1 in
    let b = a.5 in
    omega (arith, k.2, ap length a.3, length-append a.0 a.1, ap length a.4.0, ap length b.3, length-append b.0 b.1, ap length b.4.0, b.4.1, ap length b.5.0)

-- it took the bits that were seen
pub caught_up : {A : Type 0} (rule : Grammar A) (r : Reader) (a : BufferedBits) (value : A) (b : BufferedBits) (s : Reader) → Sees r a → Reads rule a value b → Took (any_bits (b.position - a.position)) r tt s → Took rule r value s
caught_up rule r a value b s sees seen t =
    let first = seen_took rule r a value b sees seen in
    record {
      was_live = t.was_live;
      live = t.live;
      goes_on = t.goes_on;
      forward = t.forward;
      end = t.end;
      limit = t.limit;
      extent = t.extent;
      reads = λ k. let e = same_answer (tt, r.position + (b.position - a.position), drop (b.position - a.position) r.left) (tt, s.position, s.left) (sym (any_whole (b.position - a.position) r.position r.left (there k)) ∙ t.reads k) in first.0.reads k ∙ rw (e.0, e.1) refl;
      spells = subst (λ (q : ℕ). SpellsTo rule r.position value q) (sym (any_spelled (b.position - a.position) r.position s.position t.spells)) first.0.spells;
    }
  where
    there : TellsBytes r → b.position - a.position ≤ length r.left
    there k = omega (arith, reads_there rule a value b seen, ap length (sees.front k).1, length-append a.bits (sees.front k).0)

-- if it did not, its source failed, whatever it was to read
pub not_caught_up : {A B : Type 0} (rule : Grammar A) (r : Reader) (a : BufferedBits) (value : A) (b : BufferedBits) (fault : Fault) (s : Reader) (other : Grammar B) → Sees r a → Reads rule a value b → Why (any_bits (b.position - a.position)) r fault s → Why other r fault s
not_caught_up rule r a value b (Refused reason bit) s other sees seen why =
    (why.0, λ k. absurd (subst (λ (x : Result ((Unit {0}) × ℕ × List Bool) grammar.Fault). Breaks r.extent x reason bit) (any_whole (b.position - a.position) r.position r.left (omega (arith, reads_there rule a value b seen, ap length (sees.front k).1, length-append a.bits (sees.front k).0))) (why.1 k)))
not_caught_up rule r a value b Read s other sees seen why = why
not_caught_up rule r a value b Memory s other sees seen why = why
not_caught_up rule r a value b Failed s other sees seen why = why
not_caught_up rule r a value b Write s other sees seen why = why
not_caught_up rule r a value b OutputTooLong s other sees seen why = why

-- ---- a reader that lent it

pub shown_caught_up : {A : Type 0} (rule : Grammar A) (r : Reader) (buffered_parts : BufferedParts) (value : A) (b : BufferedBits) (s t : Reader) → Shown r buffered_parts s → Reads rule (bits_of_parts buffered_parts) value b → Took (any_bits (b.position - buffered_parts.position)) s tt t → Took rule r value t
shown_caught_up rule r buffered_parts value b s t shown seen took =
    caught_up rule r (bits_of_parts buffered_parts) value b t shown.sees seen (nothing_then (any_bits (b.position - buffered_parts.position)) r s (Ok tt) t shown.nothing took)

pub shown_not_caught_up : {A B : Type 0} (rule : Grammar A) (r : Reader) (buffered_parts : BufferedParts) (value : A) (b : BufferedBits) (s : Reader) (fault : Fault) (t : Reader) (other : Grammar B) → Shown r buffered_parts s → Reads rule (bits_of_parts buffered_parts) value b → Why (any_bits (b.position - buffered_parts.position)) s fault t → Why other r fault t
shown_not_caught_up rule r buffered_parts value b s fault t other shown seen why =
    not_caught_up rule r (bits_of_parts buffered_parts) value b fault t other shown.sees seen (nothing_then (any_bits (b.position - buffered_parts.position)) r s (Err fault) t shown.nothing why)
