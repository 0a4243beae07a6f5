-- Calls in sequence, described by a rule: one step of the rule for each call. The effect of a call is a record here, so that the
-- goal determines each step.
use Rattle.std.proofs.Common.{◌≡◌, ℕ, Bool, true, false, Result, Ok, Err, sym, subst}
use Rattle.bit_grammar.specs.Grammar.{Grammar, gives, position, choose, ◌>>=◌}
use Rattle.bit_fields.specs.declared.fault.Fault.{Fault}
use Rattle.bit_fields.specs.declared.fault.Fault.TheVariants.{Memory}
use Rattle.bit_fields.specs.Reader.{Reader, Took, Why, Takes, failed_reader}
use Rattle.bit_fields.proofs.Composing.{took_then, fault_then, took_nothing, from_here, first_chosen, second_chosen, stops_here}

-- a call takes what a rule reads, or returns its refusal
pub record Tells {A : Type 0} (rule : Grammar A) (a : Reader) (result : Result A Fault) (b : Reader) : Type 0 where
  pub takes : Takes rule a result b

-- the goal in the end
pub told : {A : Type 0} (rule : Grammar A) (a : Reader) (result : Result A Fault) (b : Reader) → Tells rule a result b → Takes rule a result b
told rule a result b t = t.takes

pub why : {A : Type 0} (rule : Grammar A) (a : Reader) (fault : Fault) (b : Reader) → Tells rule a (Err fault) b → Why rule a fault b
why rule a fault b t = t.takes

pub answers : {A : Type 0} {rule : Grammar A} {a : Reader} {result : Result A Fault} {b : Reader} → Takes rule a result b → Tells rule a result b
answers t = record { takes = t }

-- a call that succeeded, and what follows it
pub andThen : {A B : Type 0} {rule : Grammar A} {after : A → Grammar B} {a : Reader} {value : A} {b : Reader} {result : Result B Fault} {c : Reader} → Took rule a value b → Tells (after value) b result c → Tells (rule >>= after) a result c
andThen {rule = rule} {after = after} {a = a} {value = value} {b = b} {result = result} {c = c} t u = record { takes = took_then rule after a value b result c t u.takes }

-- a call that did not succeed
pub breaks : {A B : Type 0} {rule : Grammar A} {after : A → Grammar B} {a : Reader} {fault : Fault} {b : Reader} → Why rule a fault b → Tells (rule >>= after) a (Err fault) b
breaks {rule = rule} {after = after} {a = a} {fault = fault} {b = b} h = record { takes = fault_then rule after a fault b h }

-- a value, and no call
pub ends : {A : Type 0} {value : A} {a : Reader} → a.live ≡ true → Tells (gives value) a (Ok value) a
ends {value = value} {a = a} live = record { takes = took_nothing value a live }

-- its position
pub here : {A : Type 0} {after : ℕ → Grammar A} {a : Reader} {result : Result A Fault} {b : Reader} (first : ℕ) → first ≡ a.position → Tells (after first) a result b → Tells (position >>= after) a result b
here {after = after} {a = a} {result = result} {b = b} first is t = record { takes = from_here after a result b (subst (λ (p : ℕ). Takes (after p) a result b) is t.takes) }

-- which of two rules it is
pub first_rule : {A : Type 0} {b : Bool} {yes_rule no_rule : Grammar A} {a : Reader} {result : Result A Fault} {c : Reader} → b ≡ true → Tells yes_rule a result c → Tells (choose b yes_rule no_rule) a result c
first_rule {b = b} {yes_rule = yes_rule} {no_rule = no_rule} {a = a} {result = result} {c = c} is t = record { takes = first_chosen b yes_rule no_rule a result c is t.takes }

pub second_rule : {A : Type 0} {b : Bool} {yes_rule no_rule : Grammar A} {a : Reader} {result : Result A Fault} {c : Reader} → b ≡ false → Tells no_rule a result c → Tells (choose b yes_rule no_rule) a result c
second_rule {b = b} {yes_rule = yes_rule} {no_rule = no_rule} {a = a} {result = result} {c = c} is t = record { takes = second_chosen b yes_rule no_rule a result c is t.takes }

-- an allocation failed
pub without_memory : {A : Type 0} {rule : Grammar A} {a b : Reader} → a.live ≡ true → b ≡ failed_reader a → Tells rule a (Err Memory) b
without_memory {rule = rule} {a = a} {b = b} live is = record { takes = subst (λ (r : Reader). Why rule a Memory r) (sym is) (stops_here a live) }
