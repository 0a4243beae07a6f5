-- Reading into a list, one part after another.
use Rattle.std.proofs.Common.{◌≡◌, ℕ, zero, suc, ◌+◌, ◌-◌, ◌<◌, ◌≤◌, Bool, true, false, ltb, List, [], ◌∷◌, ◌++◌, length, Result, Ok, Err, refl, sym, ap, ◌∙◌, subst, arith, add-zero, append_assoc}
use Rattle.std.proofs.lemmas.List.{append-nil}
use Rattle.std.proofs.lemmas.Bool.{le-ltb}
use Rattle.bit_grammar.specs.Grammar as grammar
use Rattle.bit_grammar.specs.Grammar.{Grammar, gives, ◌>>=◌, ◌>>◌, ◌and_then◌, repeat, reading}
use Rattle.bit_grammar.specs.Fields.{fixed, align32}
use Rattle.bit_fields.specs.declared.fault.Fault.{Fault}
use Rattle.bit_fields.specs.declared.fault.Fault.TheVariants.{Memory}
use Rattle.bit_fields.specs.Reader.{Reader, Took, Why, Takes, told_by, failed_reader}
use Rattle.bit_fields.proofs.Composing.{fault_then, spells_nothing, spells_then, took_then, took_nothing, stops_here, stops_later, same_reading}
use Rattle.bit_abbrev.specs.Values.{Adds, Completes}

-- a rule, and then a function of its value
pub and_gives : {A B : Type 0} (rule : Grammar A) (f : A → B) (a : Reader) (result : Result A Fault) (c : Reader) → Takes rule a result c → Takes (rule >>= λ x. gives (f x)) a (told_by f result) c
and_gives rule f a (Ok x) c t = record { was_live = t.was_live; live = t.live; goes_on = t.goes_on; forward = t.forward; end = t.end; limit = t.limit; extent = t.extent; reads = λ k. rw (t.reads k) refl; spells = spells_then rule (λ x. gives (f x)) a.position c.position c.position x (f x) t.spells (spells_nothing (f x) c.position) }
and_gives rule f a (Err fault) c t = fault_then rule (λ x. gives (f x)) a fault c t

-- out of memory, after what was taken
pub memory_after : {A B : Type 0} (rule : Grammar A) (after : Grammar B) (a : Reader) (value : A) (b : Reader) → Took rule a value b → Why after a Memory (failed_reader b)
memory_after rule after a value b t = stops_later a b (failed_reader b) t.was_live t.goes_on (stops_here b t.live)

-- ---- values at the end of a list

-- a part that adds nothing, and what follows it
pub part_then : {A : Type 0} (rule : Grammar A) (after : A → Grammar (List ℕ)) (a : Reader) (value : A) (b : Reader) (result : Result (Unit {0}) Fault) (now new : List ℕ) (c : Reader) → Took rule a value b → Adds (after value) b result now new c → Adds (rule >>= after) a result now new c
part_then rule after a value b (Ok x) now new c t h = (h.0, h.1, took_then rule after a value b (Ok h.0) c t h.2)
part_then rule after a value b (Err fault) now new c t h = (h.0, h.1, took_then rule after a value b (Err fault) c t h.2)

pub part_fails : {A : Type 0} (rule : Grammar A) (after : A → Grammar (List ℕ)) (a : Reader) (fault : Fault) (now : List ℕ) (c : Reader) → Why rule a fault c → Adds (rule >>= after) a (Err fault) now now c
part_fails rule after a fault now c why = ([], sym (append-nil now), fault_then rule after a fault c why)

-- one value, and those after it
pub value_then : (rule : Grammar ℕ) (after : Grammar (List ℕ)) (a : Reader) (value : ℕ) (b : Reader) (result : Result (Unit {0}) Fault) (now new : List ℕ) (c : Reader) → Took rule a value b → Adds after b result (now ++ value ∷ []) new c
    → Adds (rule >>= λ v. after >>= λ vs. gives (v ∷ vs)) a result now new c
value_then rule after a value b (Ok x) now new c t h = (
  value ∷ h.0,
  h.1 ∙ append_assoc now (value ∷ []) h.0,
  took_then rule (λ v. after >>= λ vs. gives (v ∷ vs)) a value b (Ok (value ∷ h.0)) c t (and_gives after (λ vs. value ∷ vs) b (Ok h.0) c h.2),
)
value_then rule after a value b (Err fault) now new c t h = (
  value ∷ h.0,
  h.1 ∙ append_assoc now (value ∷ []) h.0,
  took_then rule (λ v. after >>= λ vs. gives (v ∷ vs)) a value b (Err fault) c t (fault_then after (λ vs. gives (value ∷ vs)) b fault c h.2),
)

pub value_fails : (rule : Grammar ℕ) (after : Grammar (List ℕ)) (a : Reader) (fault : Fault) (now : List ℕ) (c : Reader) → Why rule a fault c → Adds (rule >>= λ v. after >>= λ vs. gives (v ∷ vs)) a (Err fault) now now c
value_fails rule after a fault now c why = part_fails rule (λ v. after >>= λ vs. gives (v ∷ vs)) a fault now c why

-- an allocation fails for a value that was read
pub no_room : {A : Type 0} (rule : Grammar A) (all : Grammar (List ℕ)) (a : Reader) (value : A) (b : Reader) (now : List ℕ) → Took rule a value b → Adds all a (Err Memory) now now (failed_reader b)
no_room rule all a value b now t = ([], sym (append-nil now), memory_after rule all a value b t)

-- a rule that adds nothing
pub adds_none : (a : Reader) (now : List ℕ) → a.live ≡ true → Adds (gives []) a (Ok tt) now now a
adds_none a now live = ([], sym (append-nil now), took_nothing [] a live)

-- values, and padding after them
pub padding_then : (rule : Grammar (List ℕ)) (a b : Reader) (result : Result (Unit {0}) Fault) (now new : List ℕ) (c : Reader) → Adds rule a (Ok tt) now new b → Takes align32 b result c → Adds (rule >>= λ vs. align32 >> gives vs) a result now new c
padding_then rule a b (Ok x) now new c h t = (h.0, h.1, took_then rule (λ vs. align32 >> gives vs) a h.0 b (Ok h.0) c h.2 (and_gives align32 (λ x. h.0) b (Ok tt) c t))
padding_then rule a b (Err fault) now new c h t = (h.0, h.1, took_then rule (λ vs. align32 >> gives vs) a h.0 b (Err fault) c h.2 (fault_then align32 (λ x. gives h.0) b fault c t))

pub values_fail : (rule : Grammar (List ℕ)) (after : List ℕ → Grammar (List ℕ)) (a : Reader) (fault : Fault) (now new : List ℕ) (c : Reader) → Adds rule a (Err fault) now new c → Adds (rule >>= after) a (Err fault) now new c
values_fail rule after a fault now new c h = (h.0, h.1, fault_then rule after a fault c h.2)

-- rules that read the same
pub adds_same : (f h : Grammar (List ℕ)) (a : Reader) (result : Result (Unit {0}) Fault) (now new : List ℕ) (c : Reader) → ((p : ℕ) (r : List Bool) → reading f p r ≡ reading h p r) → Adds f a result now new c → Adds h a result now new c
adds_same f h a (Ok x) now new c same k = (k.0, k.1, same_reading f h a (Ok k.0) c same k.2)
adds_same f h a (Err fault) now new c same k = (k.0, k.1, same_reading f h a (Err fault) c same k.2)

-- ---- fields of width 0

zero_reads : (p : ℕ) (r : List Bool) → reading (fixed 0) p r ≡ Ok (0, p, r)
unfolding fixed
zero_reads p r =
    let enough : ltb (length r) 0 ≡ false = le-ltb _ _ (omega arith) in
    rw (enough, add-zero p) refl

pub took_zero : (a : Reader) → a.live ≡ true → Took (fixed 0) a 0 a
took_zero a live = same_reading (gives 0) (fixed 0) a (Ok 0) a (λ p r. sym (zero_reads p r)) (took_nothing 0 a live)

both_repeat : (f h : Grammar ℕ) → ((p : ℕ) (r : List Bool) → reading f p r ≡ reading h p r) → (count p : ℕ) (r : List Bool) → reading (repeat count f) p r ≡ reading (repeat count h) p r
both_repeat f h same zero p r = refl
both_repeat f h same (suc count) p r = ap (λ x. x and_then rest f) (same p r) ∙ by (reading h p r) (λ q t. both_repeat f h same count q t)
  where
    rest : Grammar ℕ → ℕ × ℕ × List Bool → Result (List ℕ × ℕ × List Bool) grammar.Fault
    rest k x = reading (repeat count k >>= λ others. gives (x.0 ∷ others)) x.1 x.2

    by : (first : Result (ℕ × ℕ × List Bool) grammar.Fault) → ((q : ℕ) (t : List Bool) → reading (repeat count f) q t ≡ reading (repeat count h) q t) → (first and_then rest f) ≡ (first and_then rest h)
    by (Ok x) others = rw (others x.1 x.2) refl
    by (Err fault) others = refl

pub zeros_took_by : (count : ℕ) (a : Reader) (values : List ℕ) → Took (repeat count (gives 0)) a values a → Took (repeat count (fixed 0)) a values a
zeros_took_by count a values t = same_reading (repeat count (gives 0)) (repeat count (fixed 0)) a (Ok values) a (both_repeat (gives 0) (fixed 0) (λ p r. sym (zero_reads p r)) count) t

pub zeros_are : (count : ℕ) (a : Reader) (result : Result (Unit {0}) Fault) (now new : List ℕ) (c : Reader) → Adds (repeat count (gives 0)) a result now new c → Adds (repeat count (fixed 0)) a result now new c
zeros_are count a result now new c h = adds_same (repeat count (gives 0)) (repeat count (fixed 0)) a result now new c (both_repeat (gives 0) (fixed 0) (λ p r. sym (zero_reads p r)) count) h

-- ---- loops

-- at the beginning
pub whole : (rule : Grammar (List ℕ)) (a : Reader) (now : List ℕ) → a.live ≡ true → Completes rule a now rule a now
whole rule a now live = record { live = live; so = λ result after c h. h }

-- with `count` values still to read
abbrev pub CompletesAll : (rule : Grammar ℕ) (count : ℕ) (a : Reader) (before : List ℕ) (done : ℕ) (b : Reader) (now : List ℕ) → Type 0
CompletesAll rule count a before done b now = Completes (repeat count rule) a before (repeat (count - done) rule) b now

pub all_begin : (rule : Grammar ℕ) (count : ℕ) (a : Reader) (now : List ℕ) → a.live ≡ true → CompletesAll rule count a now 0 a now
all_begin rule count a now live =
    let same : count - 0 ≡ count = omega arith in
    rw same (whole (repeat count rule) a now live)

pub all_go_on : (rule : Grammar ℕ) (count : ℕ) (a : Reader) (before : List ℕ) (done : ℕ) (b : Reader) (now : List ℕ) (value : ℕ) (c : Reader) → done < count → CompletesAll rule count a before done b now → Took rule b value c → CompletesAll rule count a before (done + 1) c (now ++ value ∷ [])
all_go_on rule count a before done b now value c less h t =
    let left : count - done ≡ suc (count - (done + 1)) = omega (arith, less) in
    let so = subst (λ (n : ℕ). (result : Result (Unit {0}) Fault) (after : List ℕ) (c : Reader) → Adds (repeat n rule) b result now after c → Adds (repeat count rule) a result before after c) left h.so in
    record { live = t.live; so = λ result after d k. so result after d (value_then rule (repeat (count - (done + 1)) rule) b value c result now after d t k) }

pub all_fail : (rule : Grammar ℕ) (count : ℕ) (a : Reader) (before : List ℕ) (done : ℕ) (b : Reader) (now : List ℕ) (fault : Fault) (c : Reader) → done < count → CompletesAll rule count a before done b now → Why rule b fault c → Adds (repeat count rule) a (Err fault) before now c
all_fail rule count a before done b now fault c less h why =
    let left : count - done ≡ suc (count - (done + 1)) = omega (arith, less) in
    let so = subst (λ (n : ℕ). (result : Result (Unit {0}) Fault) (after : List ℕ) (c : Reader) → Adds (repeat n rule) b result now after c → Adds (repeat count rule) a result before after c) left h.so in
    so (Err fault) now c (value_fails rule (repeat (count - (done + 1)) rule) b fault now c why)

pub all_refused : (rule : Grammar ℕ) (count : ℕ) (a : Reader) (before : List ℕ) (done : ℕ) (b : Reader) (now : List ℕ) (value : ℕ) (c : Reader) → CompletesAll rule count a before done b now → Took rule b value c → Adds (repeat count rule) a (Err Memory) before now (failed_reader c)
all_refused rule count a before done b now value c h t = h.so (Err Memory) now (failed_reader c) (no_room rule (repeat (count - done) rule) b value c now t)

pub all_done : (rule : Grammar ℕ) (count : ℕ) (a : Reader) (before : List ℕ) (done : ℕ) (b : Reader) (now : List ℕ) → count ≤ done → CompletesAll rule count a before done b now → Adds (repeat count rule) a (Ok tt) before now b
all_done rule count a before done b now most h =
    let left : count - done ≡ 0 = omega (arith, most) in
    let so = subst (λ (n : ℕ). (result : Result (Unit {0}) Fault) (after : List ℕ) (c : Reader) → Adds (repeat n rule) b result now after c → Adds (repeat count rule) a result before after c) left h.so in
    so (Ok tt) now b (adds_none b now h.live)
