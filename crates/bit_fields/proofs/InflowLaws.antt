-- The state after loading bytes.
use Rattle.std.proofs.Common.{◌≡◌, ℕ, zero, suc, ◌+◌, ◌*◌, ◌-◌, ◌<◌, ◌≤◌, Bool, true, false, ltb, List, [], ◌++◌, length, take, Option, Some, None, refl, sym, ap, ◌∙◌, subst, arith, append_assoc}
use Rattle.std.specs.Prelude.{IsSome}
use Rattle.std.specs.Io.KnownBytes as bytes
use Rattle.std.proofs.lemmas.Bool.{false≢true, le-ltb, lt-ltb, and_right, and_left, and_from}
use Rattle.std.proofs.lemmas.List.{append-nil, length-append, length-take-le}
use Rattle.std.proofs.Math.Seq.{take-append-add}
use Rattle.bit_grammar.specs.Bits.{bits_of, bits_of_bytes}
use Rattle.bit_grammar.proofs.Bits.Numbers.{length-bits_of}
use Rattle.bit_fields.specs.Devices.{Incoming, Gave, GaveWord, Spends, Fails, known_bytes}
use Rattle.bit_fields.specs.Inflow.{Flow, IsKnown, stop_of, flow_bits, total_of, is_flow_cut, budget_of, IsFlow, SamePlace, KeepsFlow, NoMore}
use Rattle.bit_fields.proofs.BitLaws.{bits_of_bytes-append, length-bits_of_bytes}

-- ---- what is paid

pub Spends-refl : (i : Incoming) (n : ℕ) → Spends i n i n
Spends-refl i n = record { pulls = omega arith; failures = refl; tells = λ k. k; bytes = λ k. omega arith; accounts = λ n all says. says }

pub Spends-trans : (a : Incoming) (n : ℕ) (b : Incoming) (m : ℕ) (c : Incoming) (k : ℕ) → Spends a n b m → Spends b m c k → Spends a n c k
Spends-trans a n b m c k p q = record {
  pulls = omega (arith, p.pulls, q.pulls);
  failures = q.failures ∙ p.failures;
  tells = λ t. q.tells (p.tells t);
  bytes = λ t. omega (arith, p.bytes t, q.bytes (p.tells t));
  accounts = λ at all says. q.accounts at all (p.accounts at all says);
}

-- no more is spent
pub Spends-none : (a : Incoming) (n : ℕ) (b : Incoming) (m : ℕ) → Spends a n b m → Spends a n b 0
Spends-none a n b m p = record { pulls = omega (arith, p.pulls); failures = p.failures; tells = p.tells; bytes = λ t. omega (arith, p.bytes t); accounts = p.accounts }

pub Fails-none : (a : Incoming) (n : ℕ) (b : Incoming) (m : ℕ) → Fails a n b m → Fails a n b 0
Fails-none a n b m p = record { pulls = omega (arith, p.pulls); failed = p.failed; tells = p.tells; bytes = λ t. omega (arith, p.bytes t); accounts = p.accounts }

-- pulls that succeeded, and one that failed
pub fails_later : (a : Incoming) (n : ℕ) (b : Incoming) (m : ℕ) (c : Incoming) (k : ℕ) → Spends a n b m → Fails b m c k → Fails a n c k
fails_later a n b m c k p q = record {
  pulls = omega (arith, p.pulls, q.pulls);
  failed = rw (← p.failures) q.failed;
  tells = λ t. q.tells (p.tells t);
  bytes = λ t. omega (arith, p.bytes t, q.bytes (p.tells t));
  accounts = λ at all says. q.accounts at all (p.accounts at all says);
}

-- ---- what a pull gives

pub consumed : (old new : Option (List ℕ)) (gone : List ℕ) → bytes.Consumes old new gone → IsSome old → IsSome new × (known_bytes old ≡ gone ++ known_bytes new)
consumed None new gone c known = absurd cc
consumed (Some xs) None gone c known = absurd c
consumed (Some xs) (Some ys) gone c known = (refl, c)

pub kept : (old new : Option (List ℕ)) → bytes.Keeps old new → IsSome old → IsSome new × (known_bytes old ≡ known_bytes new)
kept None new c known = absurd cc
kept (Some xs) None c known = absurd c
kept (Some xs) (Some ys) c known = (refl, sym c)

pub at_end : (o : Option (List ℕ)) → bytes.IsAtEnd o → known_bytes o ≡ []
at_end None h = refl
at_end (Some xs) h = h

-- a pull that gave bytes is paid for by them, and one that gave none is the last
pub gave_spends : (i j : Incoming) (count : ℕ) (into : List ℕ) (before after : ℕ) → Gave i j count into → after + count ≤ before → after + 1 ≤ before → Spends i before j after
gave_spends i j count into before after gave paid one =
    let taken : length (take count into) ≡ count = length-take-le count into gave.fits in
    record {
      pulls = omega (arith, gave.pulls);
      failures = gave.failures;
      tells = λ k. (consumed i.to_come j.to_come (take count into) gave.bytes k).0;
      bytes = λ k. omega (arith, ap length (consumed i.to_come j.to_come (take count into) gave.bytes k).1, length-append (take count into) (known_bytes j.to_come), taken);
      accounts = gave.accounts;
    }

-- ---- once

none_taken : (k : ℕ) (bytes : List ℕ) → k ≡ 0 → bits_of_bytes (take k bytes) ≡ []
none_taken k bytes e = rw e refl

none_there : (k : ℕ) (bytes : List ℕ) → bytes ≡ [] → bits_of_bytes (take k bytes) ≡ []
none_there zero bytes e = refl
none_there (suc k) bytes e = rw e refl

pub SamePlace-refl : (f : Flow) → SamePlace f f
SamePlace-refl f = record { loaded = omega arith; exact = refl }

pub Keeps-refl : (f : Flow) → KeepsFlow f f
Keeps-refl f = record { end = refl; limit = refl; place = SamePlace-refl f; spends = Spends-refl f.incoming (budget_of f); left = λ k. refl; total = λ k. refl }

pub nothing_left : (f : Flow) → stop_of f ≤ f.loaded → flow_bits f ≡ f.window
nothing_left f at = ap (λ (s : List Bool). f.window ++ s) (none_taken (stop_of f - f.loaded) (known_bytes f.incoming.to_come) (omega arith)) ∙ append-nil f.window

-- a wrapper ends the stream within the limit
pub stops_at_end : (f : Flow) → stop_of f ≤ f.loaded → f.end ≤ f.limit → NoMore f f false
stops_at_end f at le = record {
  keeps = Keeps-refl f;
  window = refl;
  left = λ k. nothing_left f at;
  cut = λ k. and_right (ltb f.limit (total_of f)) (ltb f.limit f.end) (le-ltb f.limit f.end le);
  left_now = nothing_left f at;
  cut_now = and_right (ltb f.limit (total_of f)) (ltb f.limit f.end) (le-ltb f.limit f.end le);
}

-- it is known that the input is longer
pub stops_at_limit : (f : Flow) → stop_of f ≤ f.loaded → f.limit < f.end → f.limit < f.loaded → NoMore f f true
stops_at_limit f at lt over =
    let cut : is_flow_cut f ≡ true = and_from (ltb f.limit (total_of f)) (ltb f.limit f.end) (lt-ltb f.limit (total_of f) (omega arith)) (lt-ltb f.limit f.end lt) in
    record {
      keeps = Keeps-refl f;
      window = refl;
      left = λ k. nothing_left f at;
      cut = λ k. cut;
      left_now = nothing_left f at;
      cut_now = cut;
    }

-- the source was at its end before
pub stops_again : (f : Flow) → IsFlow f → f.ended ≡ true → NoMore f f false
stops_again f is e =
    let end = is.ended e in
    let none : known_bytes f.incoming.to_come ≡ [] = at_end f.incoming.to_come end.0 in
    let few : length (known_bytes f.incoming.to_come) ≡ 0 = ap length none in
    let left : flow_bits f ≡ f.window = ap (λ (s : List Bool). f.window ++ s) (none_there (stop_of f - f.loaded) (known_bytes f.incoming.to_come) none) ∙ append-nil f.window in
    let cut : is_flow_cut f ≡ false = and_left (ltb f.limit (total_of f)) (ltb f.limit f.end) (le-ltb f.limit (total_of f) (omega (arith, end.1, few))) in
    record { keeps = Keeps-refl f; window = refl; left = λ k. left; cut = λ k. cut; left_now = left; cut_now = cut }

none_given : (old new : Incoming) (count : ℕ) (into : List ℕ) → count ≡ 0 → Gave old new count into → Gave old new 0 into
none_given old new count into e gave = subst (λ (n : ℕ). Gave old new n into) e gave

-- what the end of the source means for the bytes to come, before and after
pub ends_so : (i j : Incoming) (count : ℕ) (into : List ℕ) → count ≡ 0 → Gave i j count into → 0 < length into → (known_bytes j.to_come ≡ []) × (IsSome i.to_come → known_bytes i.to_come ≡ [])
ends_so i j count into zero_given given room =
    let gave = none_given i j count into zero_given given in
    let none : known_bytes j.to_come ≡ [] = at_end j.to_come (gave.end refl room) in
    (none, λ k. (consumed i.to_come j.to_come [] gave.bytes k).1 ∙ none)

-- the source returns now that it is at its end
pub ends_here : (f : Flow) (i : Incoming) (count : ℕ) (into : List ℕ) → f.ended ≡ false → f.loaded ≤ f.limit → count ≡ 0 → Gave f.incoming i count into → 0 < length into → NoMore f (record f { incoming = i; ended = true }) false
ends_here f i count into going le zero_given given room =
    let so = ends_so f.incoming i count into zero_given given room in
    let none : known_bytes i.to_come ≡ [] = so.0 in
    let before : IsKnown f → known_bytes f.incoming.to_come ≡ [] = so.1 in
    let after : Flow = record f { incoming = i; ended = true } in
    let left_before : IsKnown f → flow_bits f ≡ f.window = λ k. ap (λ (s : List Bool). f.window ++ s) (none_there (stop_of f - f.loaded) (known_bytes f.incoming.to_come) (before k)) ∙ append-nil f.window in
    let left_after : flow_bits after ≡ f.window = ap (λ (s : List Bool). f.window ++ s) (none_there (stop_of f - f.loaded) (known_bytes i.to_come) none) ∙ append-nil f.window in
    record {
      keeps = record {
        end = refl;
        limit = refl;
        place = record { loaded = omega arith; exact = omega arith };
        spends = rw going (gave_spends f.incoming i count into (f.limit + 1 - f.loaded) 0 given (omega arith) (omega arith));
        left = λ k. left_after ∙ sym (left_before k);
        total = λ k. omega (arith, ap length none, ap length (before k));
      };
      window = refl;
      left = left_before;
      cut = λ k. and_left (ltb f.limit (total_of f)) (ltb f.limit f.end) (le-ltb f.limit (total_of f) (omega (arith, le, ap length (before k))));
      left_now = left_after;
      cut_now = and_left (ltb f.limit (total_of after)) (ltb f.limit f.end) (le-ltb f.limit (total_of after) (omega (arith, le, ap length none)));
    }

-- the bytes given were the next ones
pub came : (i j : Incoming) (count : ℕ) (into : List ℕ) → Gave i j count into → IsSome i.to_come → (known_bytes i.to_come ≡ take count into ++ known_bytes j.to_come) × (length (known_bytes i.to_come) ≡ count + length (known_bytes j.to_come))
came i j count into gave k =
    let all = (consumed i.to_come j.to_come (take count into) gave.bytes k).1 in
    (all, omega (arith, ap length all, length-append (take count into) (known_bytes j.to_come), length-take-le count into gave.fits))

-- a byte past the limit shows that the input is longer
pub goes_past : (f : Flow) (i : Incoming) (count : ℕ) (into : List ℕ) → f.ended ≡ false → stop_of f ≤ f.loaded → f.loaded ≤ f.limit → f.limit < f.end → (count ≡ 0 → ⊥) → length into ≡ 1 → Gave f.incoming i count into → NoMore f (record f { incoming = i; loaded = f.loaded + 1 }) true
goes_past f i count into going at le lt some len gave =
    let one : count ≡ 1 = omega (arith, gave.fits) in
    let after : Flow = record f { incoming = i; loaded = f.loaded + 1 } in
    let fewer : IsKnown f → length (known_bytes f.incoming.to_come) ≡ 1 + length (known_bytes i.to_come) = λ k. omega (arith, (came f.incoming i count into gave k).1) in
    record {
      keeps = record {
        end = refl;
        limit = refl;
        place = record { loaded = omega arith; exact = omega arith };
        spends = rw going (gave_spends f.incoming i count into (f.limit + 1 - f.loaded) (f.limit + 1 - (f.loaded + 1)) gave (omega arith) (omega arith));
        left = λ k. nothing_left after (omega arith) ∙ sym (nothing_left f at);
        total = λ k. omega (arith, fewer k);
      };
      window = refl;
      left = λ k. nothing_left f at;
      cut = λ k. and_from (ltb f.limit (total_of f)) (ltb f.limit f.end) (lt-ltb f.limit (total_of f) (omega (arith, fewer k))) (lt-ltb f.limit f.end lt);
      left_now = nothing_left after (omega arith);
      cut_now = and_from (ltb f.limit (total_of after)) (ltb f.limit f.end) (lt-ltb f.limit (total_of after) (omega arith)) (lt-ltb f.limit f.end lt);
    }

-- the first of the bytes to come, and those left
pub front_came : (i j : Incoming) (count : ℕ) (into : List ℕ) (room : ℕ) → Gave i j count into → IsSome i.to_come → bits_of_bytes (take (count + room) (known_bytes i.to_come)) ≡ bits_of_bytes (take count into) ++ bits_of_bytes (take room (known_bytes j.to_come))
front_came i j count into room gave k =
    let taken : length (take count into) ≡ count = length-take-le count into gave.fits in
    let split : take (count + room) (known_bytes i.to_come) ≡ take count into ++ take room (known_bytes j.to_come) = ap (λ (n : ℕ). take (n + room) (known_bytes i.to_come)) (sym taken) ∙ ap (λ (b : List ℕ). take (length (take count into) + room) b) (came i j count into gave k).0 ∙ take-append-add (take count into) (known_bytes j.to_come) room in
    ap bits_of_bytes split ∙ bits_of_bytes-append (take count into) (take room (known_bytes j.to_come))

-- bytes were loaded into the window
pub bytes_came : (f : Flow) (i : Incoming) (count : ℕ) (into : List ℕ) → f.ended ≡ false → f.loaded + count ≤ stop_of f → 0 < count → Gave f.incoming i count into
    → KeepsFlow f (record f { window = f.window ++ bits_of_bytes (take count into); incoming = i; loaded = f.loaded + count })
bytes_came f i count into going le some gave =
    let taken : length (take count into) ≡ count = length-take-le count into gave.fits in
    let len : length (f.window ++ bits_of_bytes (take count into)) ≡ length f.window + 8 * count = omega (arith, length-append f.window (bits_of_bytes (take count into)), length-bits_of_bytes (take count into), taken) in
    let room : stop_of f - f.loaded ≡ count + (stop_of f - (f.loaded + count)) = omega arith in
    record {
      end = refl;
      limit = refl;
      place = record { loaded = omega (arith, len); exact = omega (arith, len) };
      spends = rw going (gave_spends f.incoming i count into (f.limit + 1 - f.loaded) (f.limit + 1 - (f.loaded + count)) gave (omega arith) (omega arith));
      left = λ k. append_assoc f.window (bits_of_bytes (take count into)) (bits_of_bytes (take (stop_of f - (f.loaded + count)) (known_bytes i.to_come)))
          ∙ ap (λ (s : List Bool). f.window ++ s) (sym (ap (λ (n : ℕ). bits_of_bytes (take n (known_bytes f.incoming.to_come))) room ∙ front_came f.incoming i count into (stop_of f - (f.loaded + count)) gave k));
      total = λ k. omega (arith, (came f.incoming i count into gave k).1);
    }

-- the same, as a word
pub word_came : (f : Flow) (i : Incoming) (room word count : ℕ) (window : List Bool) → f.ended ≡ false → room ≤ stop_of f - f.loaded → f.loaded ≤ stop_of f → (count ≡ 0 → ⊥) → GaveWord f.incoming i room word count
    → window ≡ f.window ++ bits_of (8 * count) word → KeepsFlow f (record f { window = window; incoming = i; loaded = f.loaded + count }) × (length f.window < length window)
word_came f i room word count window going le fits some taken is =
    let gave = taken.gave in
    let w : window ≡ f.window ++ bits_of_bytes (take count taken.into) = is ∙ ap (λ (s : List Bool). f.window ++ s) taken.bits in
    let positive : 0 < count = omega arith in
    (rw w (bytes_came f i count taken.into going (omega (arith, gave.fits, taken.wide)) positive gave), omega (arith, ap length w, length-append f.window (bits_of_bytes (take count taken.into)), length-bits_of_bytes (take count taken.into), length-take-le count taken.into gave.fits))

pub flow_after : (f : Flow) (i : Incoming) (room word count : ℕ) (window : List Bool) → IsFlow f → f.ended ≡ false → room ≤ stop_of f - f.loaded → f.loaded ≤ stop_of f → 8 * room + length f.window ≤ 64 → GaveWord f.incoming i room word count
    → window ≡ f.window ++ bits_of (8 * count) word → IsFlow (record f { window = window; incoming = i; loaded = f.loaded + count })
flow_after f i room word count window was going le fits free taken is =
    let len : length window ≡ length f.window + 8 * count = omega (arith, ap length is, length-append f.window (bits_of (8 * count) word), length-bits_of (8 * count) word) in
    record {
      held = omega (arith, taken.gave.fits, taken.wide);
      loaded = omega (arith, taken.gave.fits, taken.wide);
      limit = was.limit;
      place = omega (arith, was.place);
      ended = λ e. absurd (false≢true (sym going ∙ e));
    }
