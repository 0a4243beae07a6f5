-- Skipped bits: the gap between a wrapper and its stream.
use Rattle.std.proofs.Common.{◌≡◌, ℕ, ◌+◌, ◌-◌, ◌<◌, ◌≤◌, Bool, true, List, [], length, drop, replicate, Result, Ok, Err, refl, sym, ap, ◌∙◌, subst, arith, inl, inr}
use Rattle.std.proofs.lemmas.Bool.{cases_lt, le-ltb, lt-ltb}
use Rattle.std.proofs.lemmas.List.{append-nil, length-drop, length-replicate}
use Rattle.bit_grammar.specs.declared.reason.Reason.{Reason}
use Rattle.bit_grammar.specs.declared.reason.Reason.TheVariants.{Truncated}
use Rattle.bit_grammar.specs.Grammar as grammar
use Rattle.bit_grammar.specs.Grammar.{Grammar, at, ◌>>◌, reading}
use Rattle.bit_grammar.specs.Input.{any_bits}
use Rattle.bit_fields.specs.declared.fault.Fault.{Fault}
use Rattle.bit_fields.specs.declared.fault.Fault.TheVariants.{Refused, Read, Write, Memory, OutputTooLong, Failed}
use Rattle.bit_fields.specs.Reader.{Reader, TellsBytes, Breaks, SpellsTo, Took, Why}
use Rattle.bit_fields.specs.Inflow.{Flow, flow_bits, Skips}
use Rattle.bit_fields.specs.Inside.{gap_of, reader_of, TookGap}
use Rattle.bit_fields.proofs.BitLaws.{drop_more}
use Rattle.bit_fields.proofs.Composing.{took_then, same_reading, from_here}

-- ---- what is read

pub gap_whole : (n first p : ℕ) (r : List Bool) → n ≤ length r → reading (gap_of first n) p r ≡ Ok (tt, p + n, drop n r)
gap_whole n first p r there = rw (le-ltb (length r) n there) refl

pub gap_short : (n first p : ℕ) (r : List Bool) → length r < n → reading (gap_of first n) p r ≡ Err (at Truncated first)
gap_short n first p r short = rw (lt-ltb (length r) n short) refl

-- n bits, and then more
gap_both : (n more first p : ℕ) (r : List Bool) → reading (gap_of first n >> gap_of first more) p r ≡ reading (gap_of first (n + more)) p r
gap_both n more first p r = elim (cases_lt (length r) n) [
  | inl lt ↦ rw (lt-ltb (length r) n lt, lt-ltb (length r) (n + more) (omega arith)) refl
  | inr le ↦ elim (cases_lt (length r) (n + more)) [
    | inl less ↦ rw (le-ltb (length r) n le, lt-ltb (length r) (n + more) less, lt-ltb (length (drop n r)) more (omega (arith, length-drop n r))) refl
    | inr enough ↦
        let there : p + n + more ≡ p + (n + more) = omega arith in
        rw (le-ltb (length r) n le, le-ltb (length r) (n + more) enough, le-ltb (length (drop n r)) more (omega (arith, length-drop n r)), drop_more n more r, there) refl
  ]
]

-- ---- what a step takes

-- any bits are those of a gap
gap_spelled : (first n p : ℕ) → SpellsTo (gap_of first n) p tt (p + n)
gap_spelled first n p =
    let s : List Bool = replicate n true in
    let len : length s ≡ n = length-replicate n true in
    (s, (s, [], s, sym (append-nil s), (refl, len), (refl, refl)), omega (arith, len))

-- bits were skipped
pub gap_taken : (field most count p : ℕ) (live : Bool) (f g : Flow) (now : Reader) → reader_of live p f ≡ now → now.live ≡ true → Skips f g count → count ≤ most → TookGap field most count now (reader_of live (p + count) g)
gap_taken field most count p live f g now view is_live skips few =
    let l : live ≡ true = ap (λ (r : Reader). r.live) view ∙ is_live in
    rw (← view, l) (record {
      some = skips.some;
      few = few;
      took = record {
        was_live = refl;
        live = refl;
        goes_on = skips.spends;
        forward = omega arith;
        end = skips.end;
        limit = skips.limit;
        extent = λ k. rw (skips.total k, skips.end, skips.limit) refl;
        reads = λ k. gap_whole count field p (flow_bits f) (skips.there k) ∙ rw (skips.left k) refl;
        spells = gap_spelled field count p;
      };
      moves = refl;
    })

-- ---- the loop

-- the loop's invariant: of `bits` bits `left` are still to be skipped
pub record Skipping (bits left : ℕ) (a b : Reader) : Type 0 where
  pub live : b.live ≡ true
  pub few : left ≤ bits
  pub moves : b.position ≡ a.position + (bits - left)
  pub took : (first : ℕ) → Took (gap_of first (bits - left)) a tt b

pub read_or_not : (fault : grammar.Fault) (x : (Unit {0}) × ℕ × List Bool) → Err fault ≡ Ok x → ⊥
read_or_not fault x e = cc

after_gap : (n field p : ℕ) (r : List Bool) → n ≤ length r → reading (gap_of field n >> gap_of field 1) p r ≡ reading (gap_of field 1) (p + n) (drop n r)
after_gap n field p r there = rw (le-ltb (length r) n there) refl

-- where a gap is said to begin changes only its fault
gap_elsewhere : (n s t : ℕ) (a b : Reader) → Took (gap_of s n) a tt b → Took (gap_of t n) a tt b
gap_elsewhere n s t a b h = record {
  was_live = h.was_live;
  live = h.live;
  goes_on = h.goes_on;
  forward = h.forward;
  end = h.end;
  limit = h.limit;
  extent = h.extent;
  reads = λ k. elim (cases_lt (length a.left) n) [
    | inl short ↦ absurd (read_or_not (at Truncated s) (tt, b.position, b.left) (sym (gap_short n s a.position a.left short) ∙ h.reads k))
    | inr there ↦ gap_whole n t a.position a.left there ∙ sym (gap_whole n s a.position a.left there) ∙ h.reads k
  ];
  spells = h.spells;
}

pub skipping_goes_on : (bits left field count : ℕ) (a b c : Reader) → Skipping bits left a b → TookGap field left count b c → Skipping bits (left - count) a c
skipping_goes_on bits left field count a b c so t =
    let e : bits - left + count ≡ bits - (left - count) = omega (arith, so.few, t.few) in
    record {
      live = t.took.live;
      few = omega (arith, so.few);
      moves = omega (arith, so.moves, t.moves, so.few, t.few);
      took = λ first. subst (λ (n : ℕ). Took (gap_of first n) a tt c) e
          (same_reading (gap_of first (bits - left) >> gap_of first count) (gap_of first (bits - left + count)) a (Ok tt) c (λ p r. gap_both (bits - left) count first p r)
          (took_then (gap_of first (bits - left)) (λ v. gap_of first count) a tt b (Ok tt) c (so.took first) (gap_elsewhere count field first b c t.took)));
    }

-- ---- the gap

-- a rule that breaks wherever another one does, and in the same way
pub breaks_too : {A B : Type 0} (f : Grammar A) (h : Grammar B) (a : Reader) (fault : Fault) (b : Reader) → ((reason : Reason) (bit : ℕ) → TellsBytes a → Breaks a.extent (reading f a.position a.left) reason bit → Breaks a.extent (reading h a.position a.left) reason bit) → Why f a fault b → Why h a fault b
breaks_too f h a (Refused reason bit) b so why = (why.0, λ k. so reason bit k (why.1 k))
breaks_too f h a Read b so why = why
breaks_too f h a Memory b so why = why
breaks_too f h a Failed b so why = why
breaks_too f h a Write b so why = why
breaks_too f h a OutputTooLong b so why = why

-- n bits are there, and then not one, which breaks a rule
pub fails_after : {A : Type 0} (rule : Grammar A) (n field : ℕ) (a b : Reader) (fault : Fault) (c : Reader) → Took (gap_of field n) a tt b → (length a.left ≡ n → reading rule a.position a.left ≡ Err (at Truncated field)) → Why (gap_of field 1) b fault c → Why rule a fault c
fails_after {A} rule n field a b fault c t ends why =
    breaks_too (gap_of field n >> gap_of field 1) rule a fault c (λ reason bit k h. by reason bit (there k) h) (took_then (gap_of field n) (λ v. gap_of field 1) a tt b (Err fault) c t why)
  where
    there : TellsBytes a → n ≤ length a.left
    there k = elim (cases_lt (length a.left) n) [
      | inl short ↦ absurd (read_or_not (at Truncated field) (tt, b.position, b.left) (sym (gap_short n field a.position a.left short) ∙ t.reads k))
      | inr enough ↦ enough
    ]

    by : (reason : Reason) (bit : ℕ) → n ≤ length a.left → Breaks a.extent (reading (gap_of field n >> gap_of field 1) a.position a.left) reason bit → Breaks a.extent (reading rule a.position a.left) reason bit
    by reason bit enough h = elim (cases_lt (length (drop n a.left)) 1) [
      | inl none ↦
          let end : length a.left ≡ n = omega (arith, length-drop n a.left) in
          let read : reading (gap_of field n >> gap_of field 1) a.position a.left ≡ Err (at Truncated field) = after_gap n field a.position a.left enough ∙ gap_short 1 field (a.position + n) (drop n a.left) none in
          let so : Breaks {A = A} a.extent (Err (at Truncated field)) reason bit = subst (λ (x : Result ((Unit {0}) × ℕ × List Bool) grammar.Fault). Breaks a.extent x reason bit) read h in
          subst (λ (x : Result (A × ℕ × List Bool) grammar.Fault). Breaks a.extent x reason bit) (sym (ends end)) so
      | inr one ↦
          let read : reading (gap_of field n >> gap_of field 1) a.position a.left ≡ Ok (tt, a.position + n + 1, drop 1 (drop n a.left)) = after_gap n field a.position a.left enough ∙ gap_whole 1 field (a.position + n) (drop n a.left) one in
          absurd (subst (λ (x : Result ((Unit {0}) × ℕ × List Bool) grammar.Fault). Breaks a.extent x reason bit) read h)
    ]

pub gap_fails : (first bits left : ℕ) (a b : Reader) (fault : Fault) (c : Reader) → Skipping bits left a b → 0 < left → Why (gap_of first 1) b fault c → first ≡ a.position → Why (any_bits bits) a fault c
unfolding any_bits
gap_fails first bits left a b fault c so some why here =
    let all : Why (gap_of first bits) a fault c = fails_after (gap_of first bits) (bits - left) first a b fault c (so.took first) (λ e. gap_short bits first a.position a.left (omega (arith, so.few, e))) why in
    from_here (λ s. gap_of s bits) a (Err fault) c (subst (λ (s : ℕ). Why (gap_of s bits) a fault c) here all)

pub gap_skipped : (first bits left : ℕ) (a b : Reader) → Skipping bits left a b → left ≤ 0 → first ≡ a.position → Took (any_bits bits) a tt b
unfolding any_bits
gap_skipped first bits left a b so done here =
    let n : bits - left ≡ bits = omega arith in
    let all : Took (gap_of first bits) a tt b = subst (λ (m : ℕ). Took (gap_of first m) a tt b) n (so.took first) in
    from_here (λ s. gap_of s bits) a (Ok tt) b (subst (λ (s : ℕ). Took (gap_of s bits) a tt b) here all)
