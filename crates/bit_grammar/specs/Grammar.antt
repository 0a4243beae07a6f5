-- Grammars of bit streams: what a rule demands of a stream, and the value that it gives.
--
-- A rule is data, built of few parts. Three functions define its meaning, each by cases on the parts: Spells, Stops and reading.
-- proofs/Readings/Deciding shows for every rule that they agree: what is spelled is read, what stops is refused, one of the two
-- always happens, and never both. Source: this project's own.
use Rattle.std.specs.Prelude.{◌≡◌, ℕ, zero, suc, ◌+◌, ◌<◌, ◌⊎◌, Bool, true, false, List, [], ◌∷◌, ◌++◌, length, take, drop, Result, Ok, Err, nat_lt, if◌then◌else◌}
use Rattle.bit_grammar.specs.declared.reason.Reason.{Reason}

-- why a stream is refused, and at which bit, counted from the first bit of the input
pub record Fault : Type 0 where
  pub reason : Reason
  pub bit : ℕ

-- a reason at a bit
abbrev pub at : Reason → ℕ → Fault
at reason bit = record { reason = reason; bit = bit }

-- what a round gives: one more thing, and the state that it leaves; or the end
pub data Round (S A E : Type 0) : Type 0 where
  one_more : A → S → Round S A E
  last : E → Round S A E

infixl 10 ◌>>=◌
infixl 10 ◌>>◌
infixl 10 ◌and_then◌
-- A rule, by the type of the value that it gives.
pub data Grammar : Type 0 → Type 1 where
  -- this value, and no bits
  gives : {A : Type 0} → A → Grammar A
  -- this fault, whatever follows
  refuses : {A : Type 0} → Fault → Grammar A
  -- the present position
  position : Grammar ℕ
  -- the next n bits; the fault if fewer are left
  next_bits : ℕ → Fault → Grammar (List Bool)
  -- nothing if the test holds, else the fault
  test : Bool → Fault → Grammar (Unit {0})
  -- the first rule if the test holds, else the second
  choose : {A : Type 0} → Bool → Grammar A → Grammar A → Grammar A
  -- one rule, and then another that may depend on what the first gave
  ◌>>=◌ : {A B : Type 0} → Grammar A → (A → Grammar B) → Grammar B
  -- rounds, each in the state that the one before left, up to the last one: what the rounds gave, and what the last one gave; the
  -- fault for a round that goes on and took no bits
  rounds : {S A E : Type 0} → Fault → (S → Grammar (Round S A E)) → S → Grammar (List A × E)

-- one rule, and then another
abbrev pub ◌>>◌ : {A B : Type 0} → Grammar A → Grammar B → Grammar B
first >> second = first >>= λ v. second

-- a judgement: no bits if the test holds, else its fault
abbrev pub judge : Bool → Reason → ℕ → Grammar (Unit {0})
judge holds reason bit = test holds (at reason bit)

-- `count` values, one after another
abbrev pub repeat : {A : Type 0} → ℕ → Grammar A → Grammar (List A)
repeat zero rule = gives []
repeat (suc count) rule = rule >>= λ first. repeat count rule >>= λ others. gives (first ∷ others)

-- the bits s spell rounds that give these things, each round of some bits, and a last one that gives e
abbrev pub Rounds : {S A E : Type 0} → (S → ℕ → List Bool → Round S A E → Type 0) → List A → S → ℕ
    → List Bool → E → Type 0
Rounds spells [] state p s e = spells state p s (last e)
Rounds {S = S} spells (x ∷ xs) state p s e = (first others : List Bool) × (new : S)
    × (s ≡ first ++ others) × (0 < length first) × spells state p first (one_more x new)
    × Rounds spells xs new (p + length first) others e

-- after rounds that give these things, one breaks with this fault, or goes on with no bits
abbrev pub Halts : {S A E : Type 0} → Fault → (S → ℕ → List Bool → Round S A E → Type 0)
    → (S → ℕ → List Bool → Fault → Type 0) → List A → S → ℕ → List Bool → Fault → Type 0
Halts {S = S} {A = A} idle spells stops [] state p r fault = stops state p r fault
    ⊎ ((x : A) × (new : S) × spells state p [] (one_more x new) × (fault ≡ idle))
Halts {S = S} idle spells stops (x ∷ xs) state p r fault = (first others : List Bool) × (new : S)
    × (r ≡ first ++ others) × (0 < length first) × spells state p first (one_more x new)
    × Halts idle spells stops xs new (p + length first) others fault

-- the bits s, beginning at position p, spell the value v
abbrev pub Spells : {A : Type 0} → Grammar A → ℕ → List Bool → A → Type 0
Spells (gives w) p s v = (s ≡ []) × (v ≡ w)
Spells (refuses fault) p s v = ⊥
Spells position p s v = (s ≡ []) × (v ≡ p)
Spells (next_bits n few) p s v = (s ≡ v) × (length v ≡ n)
Spells (test holds fault) p s v = (s ≡ []) × (holds ≡ true)
Spells (choose b yes_rule no_rule) p s v = ((b ≡ true) × Spells yes_rule p s v)
    ⊎ ((b ≡ false) × Spells no_rule p s v)
Spells (rule >>= after) p s v = (first others : List Bool) × (x : _) × (s ≡ first ++ others)
    × Spells rule p first x × Spells (after x) (p + length first) others v
Spells (rounds idle rule state) p s v = Rounds (λ state p s x. Spells (rule state) p s x) v.0 state
    p s v.1

-- in r, which is the rest of the stream from position p on, the rule breaks with this fault
abbrev pub Stops : {A : Type 0} → Grammar A → ℕ → List Bool → Fault → Type 0
Stops (gives w) p r fault = ⊥
Stops (refuses reason) p r fault = fault ≡ reason
Stops position p r fault = ⊥
Stops (next_bits n few) p r fault = (length r < n) × (fault ≡ few)
Stops (test holds reason) p r fault = (holds ≡ false) × (fault ≡ reason)
Stops (choose b yes_rule no_rule) p r fault = ((b ≡ true) × Stops yes_rule p r fault)
    ⊎ ((b ≡ false) × Stops no_rule p r fault)
Stops (rule >>= after) p r fault = Stops rule p r fault
    ⊎ ((first others : List Bool) × (x : _) × (r ≡ first ++ others) × Spells rule p first x
    × Stops (after x) (p + length first) others fault)
Stops (rounds {A = A} idle rule state) p r fault = (xs : List A)
    × Halts idle (λ state p s x. Spells (rule state) p s x)
    (λ state p r fault. Stops (rule state) p r fault) xs state p r fault

-- a reading, and then another
abbrev pub ◌and_then◌ : {A B : Type 0} → Result A Fault → (A → Result B Fault) → Result B Fault
(Ok x) and_then after = after x
(Err fault) and_then after = Err fault

-- the next bits, the position after them and the bits after them
abbrev pub split : ℕ → Fault → ℕ → List Bool → Result (List Bool × ℕ × List Bool) Fault
split n fault p r = if nat_lt (length r) n then Err fault else Ok (take n r, p + n, drop n r)

-- one thing before the others
abbrev pub one_in_front : {A E : Type 0} → A → Result ((List A × E) × ℕ × List Bool) Fault
    → Result ((List A × E) × ℕ × List Bool) Fault
one_in_front x (Ok v) = Ok ((x ∷ v.0.0, v.0.1), v.1, v.2)
one_in_front x (Err fault) = Err fault

-- what a round gave, and the rounds after it, if it took bits
abbrev pub after_round : {S A E : Type 0} → Fault → ℕ
    → (S → ℕ → List Bool → Result ((List A × E) × ℕ × List Bool) Fault) → Round S A E → ℕ
    → List Bool → Result ((List A × E) × ℕ × List Bool) Fault
after_round idle p others (one_more x new) q rest = if nat_lt p q
    then one_in_front x (others new q rest) else Err idle
after_round idle p others (last e) q rest = Ok (([], e), q, rest)

-- the rounds, each by its reading, with an upper bound on their number
abbrev pub go_round : {S A E : Type 0} → Fault
    → (S → ℕ → List Bool → Result (Round S A E × ℕ × List Bool) Fault) → ℕ → S → ℕ → List Bool
    → Result ((List A × E) × ℕ × List Bool) Fault
go_round idle read zero state p r = Err idle
go_round idle read (suc n) state p r = read state p r and_then λ x. after_round idle p
    (go_round idle read n) x.0 x.1 x.2

-- what a rule reads at a position from the rest of a stream: a value, the position after it and the bits after it
abbrev pub reading : {A : Type 0} → Grammar A → ℕ → List Bool → Result (A × ℕ × List Bool) Fault
reading (gives v) p r = Ok (v, p, r)
reading (refuses fault) p r = Err fault
reading position p r = Ok (p, p, r)
reading (next_bits n fault) p r = split n fault p r
reading (test holds fault) p r = if holds then Ok (tt, p, r) else Err fault
reading (choose b yes_rule no_rule) p r = if b then reading yes_rule p r else reading no_rule p r
reading (rule >>= after) p r = reading rule p r and_then λ x. reading (after x.0) x.1 x.2
reading (rounds idle rule state) p r = go_round idle (λ state p r. reading (rule state) p r)
    (suc (length r)) state p r
