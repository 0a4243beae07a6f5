-- What the calls of a writer append.
use Rattle.std.proofs.Common.{◌≡◌, ℕ, zero, suc, ◌+◌, ◌*◌, ◌-◌, ◌^◌, ◌<◌, Bool, true, false, List, [], ◌∷◌, ◌++◌, length, take, drop, replicate, Option, Some, None, Result, Ok, Err, refl, sym, ap, ◌∙◌, subst, arith, append_assoc, length-append, inl, inr, ◌⊎◌}
use Rattle.std.specs.Prelude.{IsSome}
use Rattle.std.specs.Io.KnownBytes as bytes
use Rattle.std.proofs.lemmas.Bool.{cases_lt}
use Rattle.std.proofs.lemmas.List.{append-nil, append_cancel_left, take-append-drop}
use Rattle.bit_grammar.specs.Bits.{bits_of, bits_of_bytes}
use Rattle.bit_fields.specs.Devices.{Outgoing, IsSpent, Accepted, Declined, known_bytes}
use Rattle.bit_fields.specs.Writer.{Writer, TellsTaken, taken_bits, written_bits, GainedBytes, Grows, Wrote, LostBits, Writes}
use Rattle.bit_fields.specs.declared.fault.Fault.{Fault}
use Rattle.bit_fields.specs.declared.fault.Fault.TheVariants.{Refused, Read, Write, Memory, OutputTooLong, Failed}
use Rattle.bit_fields.proofs.BitLaws.{bits_of_bytes-append}

-- ---- one put

appended : (old new : Option (List ℕ)) (more : List ℕ) → bytes.Appends old new more → IsSome old → IsSome new × (known_bytes new ≡ known_bytes old ++ more)
appended None new more a known = absurd cc
appended (Some xs) None more a known = absurd a
appended (Some xs) (Some ys) more a known = (refl, a)

stayed : (old new : Option (List ℕ)) → bytes.Keeps old new → IsSome old → IsSome new × (known_bytes new ≡ known_bytes old)
stayed None new a known = absurd cc
stayed (Some xs) None a known = absurd a
stayed (Some xs) (Some ys) a known = (refl, a)

pub wrote_some : (w : Writer) (o : Outgoing) (count : ℕ) (from : List ℕ) (held : List Bool) → w.live ≡ true → Accepted w.outgoing o count from → (count ≡ 0 → ⊥) → bits_of_bytes (take count from) ≡ take (8 * count) w.held → held ≡ drop (8 * count) w.held
    → Wrote w [] (record w { held = held; outgoing = o })
wrote_some w o count from held live put some front rest =
    let after : TellsTaken w → known_bytes o.bytes ≡ known_bytes w.outgoing.bytes ++ take count from = λ k. (appended w.outgoing.bytes o.bytes (take count from) put.bytes k).1 in
    record {
      was_live = live;
      live = live;
      position = omega arith;
      failures = put.failures (omega arith);
      tells = λ k. (appended w.outgoing.bytes o.bytes (take count from) put.bytes k).0;
      kept = λ k. (take count from, after k);
      written = λ k.
          ap (λ (s : List Bool). bits_of_bytes (known_bytes o.bytes) ++ s) rest
          ∙ ap (λ (b : List ℕ). bits_of_bytes b ++ drop (8 * count) w.held) (after k)
          ∙ ap (λ (s : List Bool). s ++ drop (8 * count) w.held) (bits_of_bytes-append (known_bytes w.outgoing.bytes) (take count from))
          ∙ append_assoc (bits_of_bytes (known_bytes w.outgoing.bytes)) (bits_of_bytes (take count from)) (drop (8 * count) w.held)
          ∙ ap (λ (s : List Bool). bits_of_bytes (known_bytes w.outgoing.bytes) ++ s) (ap (λ (s : List Bool). s ++ drop (8 * count) w.held) front ∙ take-append-drop (8 * count) w.held)
          ∙ sym (append-nil (written_bits w));
    }

lost_nothing : (w : Writer) (o : Outgoing) → w.live ≡ true → (w.outgoing.failures < o.failures) ⊎ IsSpent w.outgoing → (TellsTaken w → IsSome o.bytes × (known_bytes o.bytes ≡ known_bytes w.outgoing.bytes)) → LostBits w [] (record w { live = false; outgoing = o })
lost_nothing w o live why same = record {
  was_live = live;
  failed = refl;
  why = why;
  tells = λ k. (same k).0;
  kept = λ k. ([], (same k).1 ∙ sym (append-nil (known_bytes w.outgoing.bytes)));
  front = λ k. (w.held, ap (λ (b : List ℕ). bits_of_bytes b ++ w.held) (same k).1 ∙ sym (append-nil (written_bits w)));
}

pub took_no_byte : (w : Writer) (o : Outgoing) (count : ℕ) (from : List ℕ) → w.live ≡ true → Accepted w.outgoing o count from → count ≡ 0 → 0 < length from → LostBits w [] (record w { live = false; outgoing = o })
took_no_byte w o count from live put none some =
    let nothing : take count from ≡ [] = rw none refl in
    lost_nothing w o live (inl (omega (arith, put.failed none some)))
    (λ k. let a = appended w.outgoing.bytes o.bytes (take count from) put.bytes k in (a.0, a.1 ∙ ap (λ (b : List ℕ). known_bytes w.outgoing.bytes ++ b) nothing ∙ append-nil (known_bytes w.outgoing.bytes)))

-- which bits are held does not matter once some were lost
pub lost_held : (a b : Writer) (s held : List Bool) → LostBits a s b → LostBits a s (record b { held = held })
lost_held a b s held p = record { was_live = p.was_live; failed = p.failed; why = p.why; tells = p.tells; kept = p.kept; front = p.front }

why_declined : (old new : Outgoing) → Declined old new → (old.failures < new.failures) ⊎ IsSpent old
why_declined old new declined = elim (cases_lt old.failures (2 ^ 64 - 1)) [ inl fresh ↦ inl (omega (arith, declined.counted fresh)) | inr worn ↦ inr worn ]

pub took_none : (w : Writer) (o : Outgoing) → w.live ≡ true → Declined w.outgoing o → LostBits w [] (record w { live = false; outgoing = o })
took_none w o live declined = lost_nothing w o live (why_declined w.outgoing o declined) (stayed w.outgoing.bytes o.bytes declined.bytes)

-- ---- one write, and another after it

pub wrote_nothing : (w : Writer) → w.live ≡ true → Wrote w [] w
wrote_nothing w live = record { was_live = live; live = live; position = omega arith; failures = refl; tells = λ k. k; kept = λ k. ([], sym (append-nil (known_bytes w.outgoing.bytes))); written = λ k. sym (append-nil (written_bits w)) }

both_kept : (a b c : Writer) → Grows a b → Grows b c → Grows a c
both_kept a b c p q = (p.0 ++ q.0, q.1 ∙ ap (λ (x : List ℕ). x ++ q.0) p.1 ∙ append_assoc (known_bytes a.outgoing.bytes) p.0 q.0)

pub wrote_then_wrote : (a b c : Writer) (s t : List Bool) → Wrote a s b → Wrote b t c → Wrote a (s ++ t) c
wrote_then_wrote a b c s t p q = record {
  was_live = p.was_live;
  live = q.live;
  position = omega (arith, p.position, q.position, length-append s t);
  failures = q.failures ∙ p.failures;
  tells = λ k. q.tells (p.tells k);
  kept = λ k. both_kept a b c (p.kept k) (q.kept (p.tells k));
  written = λ k. q.written (p.tells k) ∙ ap (λ (x : List Bool). x ++ t) (p.written k) ∙ append_assoc (written_bits a) s t;
}

pub wrote_then_lost : (a b c : Writer) (s t : List Bool) → Wrote a s b → LostBits b t c → LostBits a (s ++ t) c
wrote_then_lost a b c s t p q = record {
  was_live = p.was_live;
  failed = q.failed;
  why = elim q.why [ inl more ↦ inl (omega (arith, p.failures, more)) | inr spent ↦ inr (omega (arith, p.failures, spent)) ];
  tells = λ k. q.tells (p.tells k);
  kept = λ k. both_kept a b c (p.kept k) (q.kept (p.tells k));
  front = λ k. let f = q.front (p.tells k) in (f.0, f.1 ∙ ap (λ (x : List Bool). x ++ t) (p.written k) ∙ append_assoc (written_bits a) s t);
}

lost_more : (a b : Writer) (s t : List Bool) → LostBits a s b → LostBits a (s ++ t) b
lost_more a b s t p = record {
  was_live = p.was_live;
  failed = p.failed;
  why = p.why;
  tells = p.tells;
  kept = p.kept;
  front = λ k. let f = p.front k in (f.0 ++ t, sym (append_assoc (bits_of_bytes (known_bytes b.outgoing.bytes)) f.0 t) ∙ ap (λ (x : List Bool). x ++ t) f.1 ∙ append_assoc (written_bits a) s t);
}

-- the held bits go to the sink, or are lost, after some of the bits that are to be written
pub wrote_no_more : (a b c : Writer) (s : List Bool) → Wrote a s b → Wrote b [] c → Wrote a s c
wrote_no_more a b c s p q = subst (λ (x : List Bool). Wrote a x c) (append-nil s) (wrote_then_wrote a b c s [] p q)

pub lost_between : (a b c : Writer) (s t all : List Bool) → s ++ t ≡ all → Wrote a s b → LostBits b [] c → LostBits a all c
lost_between a b c s t all is p q = subst (λ (x : List Bool). LostBits a x c) (ap (λ (x : List Bool). x ++ t) (append-nil s) ∙ is) (lost_more a c (s ++ []) t (wrote_then_lost a b c s [] p q))

pub wrote_in_parts : (a b c : Writer) (s t all : List Bool) → s ++ t ≡ all → Wrote a s b → Wrote b t c → Wrote a all c
wrote_in_parts a b c s t all is p q = subst (λ (x : List Bool). Wrote a x c) is (wrote_then_wrote a b c s t p q)

pub wrote_then : (a b c : Writer) (s t : List Bool) (r : Result (Unit {0}) Fault) → Wrote a s b → Writes t b r c → Writes (s ++ t) a r c
wrote_then a b c s t (Ok _) p q = wrote_then_wrote a b c s t p q
wrote_then a b c s t (Err Write) p q = wrote_then_lost a b c s t p q
wrote_then a b c s t (Err Failed) p q = let live = p.live in let dead = q.0 in absurd cc
wrote_then a b c s t (Err (Refused reason bit)) p q = q
wrote_then a b c s t (Err Read) p q = q
wrote_then a b c s t (Err Memory) p q = q
wrote_then a b c s t (Err OutputTooLong) p q = q

-- if s cannot be written, s with more bits after it cannot
pub not_written : (s t : List Bool) (a : Writer) (fault : Fault) (b : Writer) → Writes s a (Err fault) b → Writes (s ++ t) a (Err fault) b
not_written s t a Write b h = lost_more a b s t h
not_written s t a Failed b h = h
not_written s t a (Refused reason bit) b h = h
not_written s t a Read b h = h
not_written s t a Memory b h = h
not_written s t a OutputTooLong b h = h

-- ---- one field

pub wrote_field : (a b : Writer) (s held : List Bool) (position : ℕ) → Wrote a [] b → position ≡ b.position + length s → held ≡ b.held ++ s → Wrote a s (record b { held = held; position = position })
wrote_field a b s held position p position_is held_is =
    let last : Wrote b s (record b { held = held; position = position }) = record {
      was_live = p.live;
      live = p.live;
      position = position_is;
      failures = refl;
      tells = λ k. k;
      kept = λ k. ([], sym (append-nil (known_bytes b.outgoing.bytes)));
      written = λ k. ap (λ (t : List Bool). bits_of_bytes (known_bytes b.outgoing.bytes) ++ t) held_is ∙ sym (append_assoc (bits_of_bytes (known_bytes b.outgoing.bytes)) b.held s);
    } in
    wrote_then_wrote a b _ [] s p last

pub zeros-replicate : (n : ℕ) → bits_of n 0 ≡ replicate n false
zeros-replicate zero = refl
zeros-replicate (suc n) = ap (λ (s : List Bool). false ∷ s) (zeros-replicate n)

pub padded_before : (n : ℕ) (w : Writer) → n ≡ 0 → w.live ≡ true → Wrote w (replicate n false) w
padded_before n w none live = subst (λ (k : ℕ). Wrote w (replicate k false) w) (sym none) (wrote_nothing w live)

-- ---- the bytes that a sink took

nothing_held : (w : Writer) → w.held ≡ [] → written_bits w ≡ taken_bits w
nothing_held w none = ap (λ (s : List Bool). taken_bits w ++ s) none ∙ append-nil (taken_bits w)

gained_bits : (a b : Writer) (more : List ℕ) → GainedBytes a more b → taken_bits b ≡ taken_bits a ++ bits_of_bytes more
gained_bits a b more g = ap bits_of_bytes g ∙ bits_of_bytes-append (known_bytes a.outgoing.bytes) more

pub gained_all : (a b : Writer) (s : List Bool) → Wrote a s b → TellsTaken a → a.held ≡ [] → b.held ≡ [] → (more : List ℕ) × GainedBytes a more b × (bits_of_bytes more ≡ s)
gained_all a b s p k none_before none_after =
    let more : List ℕ = (p.kept k).0 in
    let same : taken_bits a ++ bits_of_bytes more ≡ taken_bits a ++ s =
    sym (gained_bits a b more (p.kept k).1) ∙ sym (nothing_held b none_after) ∙ p.written k ∙ ap (λ (x : List Bool). x ++ s) (nothing_held a none_before) in
    (more, (p.kept k).1, append_cancel_left (taken_bits a) (bits_of_bytes more) s same)

pub gained_front : (a b : Writer) (s : List Bool) → LostBits a s b → TellsTaken a → a.held ≡ [] → (more : List ℕ) × (rest : List Bool) × GainedBytes a more b × (bits_of_bytes more ++ rest ≡ s)
gained_front a b s p k none_before =
    let more : List ℕ = (p.kept k).0 in
    let f = p.front k in
    let same : taken_bits a ++ (bits_of_bytes more ++ f.0) ≡ taken_bits a ++ s =
    sym (append_assoc (taken_bits a) (bits_of_bytes more) f.0) ∙ ap (λ (x : List Bool). x ++ f.0) (sym (gained_bits a b more (p.kept k).1)) ∙ f.1 ∙ ap (λ (x : List Bool). x ++ s) (nothing_held a none_before) in
    (more, f.0, (p.kept k).1, append_cancel_left (taken_bits a) (bits_of_bytes more ++ f.0) s same)
