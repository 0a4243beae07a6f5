-- Calls that read a number of bits of a field.
use Rattle.std.proofs.Common.{◌≡◌, ℕ, ◌+◌, ◌*◌, ◌-◌, ◌<◌, ◌≤◌, min, Bool, true, false, List, [], ◌++◌, length, take, drop, Result, Ok, Err, refl, sym, ap, ◌∙◌, subst, arith}
use Rattle.std.proofs.lemmas.Bool.{le-ltb, lt-ltb}
use Rattle.std.proofs.lemmas.List.{length-append, take-append-le, drop-append-le}
use Rattle.bit_grammar.specs.Bits.{number, bits_of_bytes}
use Rattle.bit_grammar.specs.declared.reason.Reason.TheVariants.{Truncated}
use Rattle.bit_grammar.specs.Grammar.{Grammar, at, gives, reading}
use Rattle.bit_grammar.specs.Fields.{fixed, byte, char6}
use Rattle.bit_grammar.specs.Terms.{character}
use Rattle.bit_fields.specs.declared.fault.Fault.{Fault}
use Rattle.bit_fields.specs.declared.inflow.Missing.{Missing}
use Rattle.bit_fields.specs.declared.inflow.Missing.TheVariants.{End, Limit, Read}
use Rattle.bit_fields.specs.Devices.{known_bytes}
use Rattle.bit_fields.specs.Inflow.{Flow, stop_of, budget_of, KeepsFlow, Fills}
use Rattle.bit_fields.specs.Reader.{Reader, Took, Why, Takes, stopped_at}
use Rattle.bit_fields.specs.Inside.{part_of, reader_of, fault_of_missing}
use Rattle.bit_fields.proofs.InflowLaws.{Spends-none}
use Rattle.bit_fields.proofs.Composing.{fault_then, spells_read, took_then, took_nothing, from_here}

-- ---- the reading

-- n bits at the front
pub part_at : (n first p : ℕ) (w rest : List Bool) → n ≤ length w → reading (part_of first n) p (w ++ rest) ≡ Ok (number (take n w), p + n, drop n w ++ rest)
part_at n first p w rest there =
    rw (le-ltb (length (w ++ rest)) n (omega (arith, length-append w rest)), take-append-le n w rest there, drop-append-le n w rest there) refl

-- fewer bits
pub part_short : (n first p : ℕ) (r : List Bool) → length r < n → reading (part_of first n) p r ≡ Err (at Truncated first)
part_short n first p r short = rw (lt-ltb (length r) n short) refl

-- ---- the call

-- a rule that takes n bits of the window
pub window_took : {A : Type 0} (rule : Grammar A) (value : A) (n p : ℕ) (f g : Flow) → KeepsFlow f g → ((rest : List Bool) → reading rule p (g.window ++ rest) ≡ Ok (value, p + n, drop n g.window ++ rest)) → Took rule (reader_of true p f) value (reader_of true (p + n) (record g { window = drop n g.window }))
window_took rule value n p f g kept read = record {
  was_live = refl;
  live = refl;
  goes_on = kept.spends;
  forward = omega arith;
  end = kept.end;
  limit = kept.limit;
  extent = λ k. rw (kept.total k, kept.end, kept.limit) refl;
  reads = λ k. ap (reading rule p) (sym (kept.left k)) ∙ read (bits_of_bytes (take (stop_of g - g.loaded) (known_bytes g.incoming.to_come)));
  spells = spells_read rule p (g.window ++ []) value (p + n) (drop n g.window ++ []) (read []);
}

-- a rule that is truncated if fewer than n bits are left
pub window_missed : {A : Type 0} (rule : Grammar A) (n first p : ℕ) (f g : Flow) (missing : Missing) → ((more : List Bool) → length (f.window ++ more) < n → reading rule p (f.window ++ more) ≡ Err (at Truncated first)) → Fills n f g (Err missing) → Why rule (reader_of true p f) (fault_of_missing missing first g.limit) (stopped_at (reader_of true p g) first)
window_missed rule n first p f g End short out = (
  record { was_live = refl; failed = refl; goes_on = Spends-none f.incoming (budget_of f) g.incoming (budget_of g) out.keeps.spends },
  λ k. rw (short (bits_of_bytes (take (stop_of f - f.loaded) (known_bytes f.incoming.to_come))) (out.left k)) (rw (out.cut k) refl),
)
window_missed rule n first p f g Limit short out = (
  record { was_live = refl; failed = refl; goes_on = Spends-none f.incoming (budget_of f) g.incoming (budget_of g) out.keeps.spends },
  λ k. rw (short (bits_of_bytes (take (stop_of f - f.loaded) (known_bytes f.incoming.to_come))) (out.left k)) (rw (out.cut k, out.keeps.limit) refl),
)
window_missed rule n first p f g Read short lost = record { was_live = refl; failed = refl; fails = lost.fails }

-- ---- as the code handles them

pub fills_exact : (n p : ℕ) (a b : Flow) (missing : Missing) → Fills n a b (Err missing) → p + length a.window ≡ 8 * min a.loaded (stop_of a) → p + length b.window ≡ 8 * min b.loaded (stop_of b)
fills_exact n p a b End out place = omega (arith, out.keeps.place.exact, place)
fills_exact n p a b Limit out place = omega (arith, out.keeps.place.exact, place)
fills_exact n p a b Read lost place = omega (arith, lost.place.exact, place)

pub live_from : (live : Bool) (w : List Bool) (n : ℕ) → (live ≡ false → w ≡ []) → 0 < n → n ≤ length w → live ≡ true
live_from true w n empty some there = refl
live_from false w n empty some there = absurd (omega (arith, ap length (empty refl)))

-- n bits are in the window
pub record Filled (n p : ℕ) (f : Flow) (alive : Bool) (q : ℕ) (g : Flow) : Type 0 where
  pub live : alive ≡ true
  pub position : q ≡ p
  pub keeps : KeepsFlow f g
  pub there : n ≤ length g.window

pub took_as : (n first p q value after_q : ℕ) (was live : Bool) (f g after : Flow) (now : Reader) → was ≡ true → reader_of was p f ≡ now → Filled n p f live q g → value ≡ number (take n g.window) → after_q ≡ q + n → after ≡ record g { window = drop n g.window }
    → Took (part_of first n) now value (reader_of live after_q after)
took_as n first p q value after_q was live f g after now was_live now_is filled value_is q_is after_is =
    rw (← now_is, was_live, filled.live, value_is, q_is, filled.position, after_is) (window_took (part_of first n) (number (take n g.window)) n p f g filled.keeps (λ rest. part_at n first p g.window rest filled.there))

pub missed_as : (n first p : ℕ) (was : Bool) (f g : Flow) (missing : Missing) (now new : Reader) (fault : Fault) → was ≡ true → reader_of was p f ≡ now → Fills n f g (Err missing) → fault ≡ fault_of_missing missing first g.limit → new ≡ stopped_at (reader_of was p g) first
    → Why (part_of first n) now fault new
missed_as n first p was f g missing now new fault was_live now_is fills fault_is new_is =
    rw (← now_is, new_is, was_live, fault_is) (window_missed (part_of first n) n first p f g missing (λ more short. part_short n first p (f.window ++ more) short) fills)

-- ---- fields of one part

pub fixed_from : (n first : ℕ) (a : Reader) (result : Result ℕ Fault) (b : Reader) → first ≡ a.position → Takes (part_of first n) a result b → Takes (fixed n) a result b
unfolding fixed
fixed_from n first a result b here t = from_here (λ p. part_of p n) a result b (subst (λ (p : ℕ). Takes (part_of p n) a result b) here t)

pub byte_from : (a : Reader) (result : Result ℕ Fault) (b : Reader) → Takes (fixed 8) a result b → Takes byte a result b
unfolding byte
byte_from a result b t = t

pub char6_took : (a : Reader) (code value : ℕ) (b : Reader) → Took (fixed 6) a code b → value ≡ character code → Took char6 a value b
unfolding char6
char6_took a code value b t is = rw is (took_then (fixed 6) (λ c. gives (character c)) a code b (Ok (character code)) b t (took_nothing (character code) b t.live))

pub char6_missed : (a : Reader) (fault : Fault) (b : Reader) → Why (fixed 6) a fault b → Why char6 a fault b
unfolding char6
char6_missed a fault b why = fault_then (fixed 6) (λ c. gives (character c)) a fault b why
