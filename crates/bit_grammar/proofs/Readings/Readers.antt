-- The readings of a rule for the rest of an input, and of a whole input: from left to right.
use Rattle.std.specs.Prelude.{ℕ, zero, suc, Bool, List, [], ◌∷◌, length, take, Result, Ok, Err, nat_lt, nat_le, if◌then◌else◌}
use Rattle.bit_grammar.specs.Grammar.{Fault, reading}
use Rattle.bit_grammar.specs.Bits.{bits_of_bytes}
use Rattle.bit_grammar.specs.Blocks.{Limits}
use Rattle.bit_grammar.specs.Whole.{Whole, ◌then_all◌, until_end, within, either, making, and_all}
use Rattle.bit_grammar.specs.Terms.{Marked}
use Rattle.bit_grammar.specs.Input.{input, front_of, is_closed, too_long, cut_fault}

-- one thing before the others
abbrev pub before_all : {A : Type 0} → A → Result (List A × ℕ) Fault → Result (List A × ℕ) Fault
before_all x (Ok v) = Ok (x ∷ v.0, v.1)
before_all x (Err fault) = Err fault

-- the things after one that took bits
abbrev pub after_thing : {S A : Type 0} → Fault → ℕ
    → (S → ℕ → List Bool → Result (List A × ℕ) Fault) → A × S → ℕ → List Bool
    → Result (List A × ℕ) Fault
after_thing idle p others x q rest = if nat_lt p q then before_all x.0 (others x.1 q rest)
    else Err idle

-- the things, each by its reading, with an upper bound on their number
abbrev pub go_things : {S A : Type 0} → Fault
    → (S → ℕ → List Bool → Result ((A × S) × ℕ × List Bool) Fault) → ℕ → S → ℕ → List Bool
    → Result (List A × ℕ) Fault
go_things idle read n state p [] = Ok ([], p)
go_things idle read zero state p (b ∷ bits) = Err idle
go_things idle read (suc n) state p (b ∷ bits) = and_all (read state p (b ∷ bits))
    (after_thing idle p (go_things idle read n))

-- if there were too few bits, a value is a fault
abbrev pub long_enough : {A : Type 0} → Bool → Fault → Result A Fault → Result A Fault
long_enough enough few (Ok v) = if enough then Ok v else Err few
long_enough enough few (Err fault) = Err fault

-- a function of the value that was read
abbrev pub made_by : {A B : Type 0} → (A → B) → Result A Fault → Result B Fault
made_by f (Ok v) = Ok (f v)
made_by f (Err fault) = Err fault

-- what a rule reads in the rest of an input
abbrev pub reading_all : {A : Type 0} → Whole A → ℕ → List Bool → Result A Fault
reading_all (first then_all after) p r = and_all (reading first p r)
    (λ x q rest. reading_all (after x) q rest)
reading_all (until_end idle thing state) p r = go_things idle
    (λ state p r. reading (thing state) p r) (length r) state p r
reading_all (within n few whole) p r = long_enough (nat_le n (length r)) few
    (reading_all whole p (take n r))
reading_all (either b one_rule other_rule) p r = if b then reading_all one_rule p r
    else reading_all other_rule p r
reading_all (making f whole) p r = made_by f (reading_all whole p r)

abbrev pub cut_at_limit : Limits → (closed : Bool) → Result Marked Fault → Result Marked Fault
cut_at_limit limits closed (Ok m) = Err (too_long limits)
cut_at_limit limits closed (Err fault) = Err (cut_fault limits closed fault)

-- a tree, or a fault
unfoldable pub reading_input : Limits → List ℕ → Result Marked Fault
reading_input limits bytes =
    if nat_le (length bytes) limits.bytes then reading_all (input limits) 0 (bits_of_bytes bytes)
    else cut_at_limit limits (is_closed limits bytes)
    (reading_all (input limits) 0 (front_of limits bytes))
