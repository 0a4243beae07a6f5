-- The faults with which a rule breaks. Only the judgement of a whole input says that a wrapper's stream is too short.
use Rattle.std.proofs.Common.{◌≡◌, ℕ, zero, suc, ◌-◌, Bool, true, false, List, [], ◌∷◌, length, Option, Some, None, Ok, Err, refl, sym, subst, inl, inr}
use Rattle.bit_grammar.specs.declared.shapes.Shapes.{Shapes}
use Rattle.bit_grammar.specs.declared.op.Op.{Op}
use Rattle.bit_grammar.specs.declared.op.Op.TheVariants.{Literal, Fixed, Vbr, Array, Char6, Blob}
use Rattle.bit_grammar.specs.declared.op.Kind.{Kind}
use Rattle.bit_grammar.specs.declared.op.Kind.TheVariants.{Literal as literal, Fixed as fixed_width, Vbr as vbr_width, Array as array, Char6 as char6_kind, Blob as blob}
use Rattle.bit_grammar.specs.declared.op.Place.{Place}
use Rattle.bit_grammar.specs.declared.op.Place.TheVariants.{First as first_place}
use Rattle.bit_grammar.specs.declared.reason.Reason.{Reason}
use Rattle.bit_grammar.specs.declared.reason.Reason.TheVariants.{WrapperSize}
use Rattle.bit_grammar.specs.Grammar.{Fault, Round, Grammar, gives, refuses, position, next_bits, test, choose, ◌>>=◌, rounds, repeat, Halts, Spells, Stops, reading}
use Rattle.bit_grammar.specs.Fields.{fixed, chunks, vbr, char6, zeros, padding_length, align32, byte}
use Rattle.bit_grammar.specs.Terms.{chunk_limit, CodeAndValues, BlockInfo}
use Rattle.bit_grammar.specs.Definition.{kind, valued, operand, place_after, operands, definition}
use Rattle.bit_grammar.specs.Record.{value_count, unabbreviated, scalar, singles, values_of, abbreviated}
use Rattle.bit_grammar.specs.Blocks.{Limits, Handed, Scope, BlockHead, block_id, new_width, block_head, end_of_block, define, by_definition, entry, describe, record_after}
use Rattle.bit_grammar.specs.Input.{version, offset, wrapper, any_bits, wrapper_and_gap, inner_magic}
use Rattle.bit_grammar.specs.Machine.{Frame, Machine, frame_of, scope_of, open_block, open_nested, step_after, step_in, step_top, step_of, step, Ending, accepted, broke, Told, is_done, unless_done, told_of_step, told_at, to_come}
use Rattle.bit_grammar.proofs.Readings.Deciding.{is_stopped}
use Rattle.bit_grammar.proofs.Events.Machines.{Step}

-- each fault that a rule names is of this kind
abbrev pub Faults : {A : Type 0} → (Fault → Type 0) → Grammar A → Type 0
Faults Holds (gives v) = Unit {0}
Faults Holds (refuses fault) = Holds fault
Faults Holds position = Unit {0}
Faults Holds (next_bits n few) = Holds few
Faults Holds (test holds fault) = Holds fault
Faults Holds (choose b one_rule other_rule) = Faults Holds one_rule × Faults Holds other_rule
Faults Holds (rule >>= after) = Faults Holds rule × ((x : _) → Faults Holds (after x))
Faults Holds (rounds idle rule state) = Holds idle × ((new : _) → Faults Holds (rule new))

halts_fault : {S A E : Type 0} (Holds : Fault → Type 0) (idle : Fault) (spells : S → ℕ → List Bool → Round S A E → Type 0) (stops : S → ℕ → List Bool → Fault → Type 0) → Holds idle → ((state : S) (p : ℕ) (r : List Bool) (fault : Fault) → stops state p r fault → Holds fault)
    → (xs : List A) (state : S) (p : ℕ) (r : List Bool) (fault : Fault) → Halts idle spells stops xs state p r fault → Holds fault
halts_fault Holds idle spells stops own one [] state p r fault (inl h) = one state p r fault h
halts_fault Holds idle spells stops own one [] state p r fault (inr h) = subst Holds (sym h.3) own
halts_fault Holds idle spells stops own one (x ∷ xs) state p r fault h = halts_fault Holds idle spells stops own one xs h.2 _ h.1 fault h.6

stop_fault : {A : Type 0} (Holds : Fault → Type 0) (rule : Grammar A) (p : ℕ) (r : List Bool) (fault : Fault) → Faults Holds rule → Stops rule p r fault → Holds fault
stop_fault Holds (gives w) p r fault k h = absurd h
stop_fault Holds (refuses reason) p r fault k h = subst Holds (sym h) k
stop_fault Holds position p r fault k h = absurd h
stop_fault Holds (next_bits n few) p r fault k h = subst Holds (sym h.1) k
stop_fault Holds (test holds reason) p r fault k h = subst Holds (sym h.1) k
stop_fault Holds (choose b one_rule other_rule) p r fault k (inl h) = stop_fault Holds one_rule p r fault k.0 h.1
stop_fault Holds (choose b one_rule other_rule) p r fault k (inr h) = stop_fault Holds other_rule p r fault k.1 h.1
stop_fault Holds (rule >>= after) p r fault k (inl h) = stop_fault Holds rule p r fault k.0 h
stop_fault Holds (rule >>= after) p r fault k (inr h) = stop_fault Holds (after h.2) _ h.1 fault (k.1 h.2) h.5
stop_fault Holds (rounds idle rule state) p r fault k h =
    halts_fault Holds idle (λ state p s x. Spells (rule state) p s x) (λ state p r fault. Stops (rule state) p r fault) k.0 (λ new q rest own stopped. stop_fault Holds (rule new) q rest own (k.1 new) stopped) h.0 state p r fault h.1

-- a fault that is read is one that the rule names
pub reading_fault : {A : Type 0} (Holds : Fault → Type 0) (rule : Grammar A) (p : ℕ) (r : List Bool) (fault : Fault) → Faults Holds rule → reading rule p r ≡ Err fault → Holds fault
reading_fault Holds rule p r fault k e = stop_fault Holds rule p r fault k (is_stopped rule p r fault e)

-- ---- no rule says that the stream in a wrapper is too short

abbrev pub IsOther : Reason → Type 0
IsOther WrapperSize = ⊥
IsOther reason = Unit {0}

-- a fault for another reason
abbrev pub Other : Fault → Type 0
Other fault = IsOther fault.reason

pub not_size : (reason : Reason) → IsOther reason → reason ≡ WrapperSize → ⊥
not_size reason k e = subst IsOther e k

abbrev pub Free : {A : Type 0} → Grammar A → Type 0
Free rule = Faults Other rule

-- ---- fields

pub fixed_free : (n : ℕ) → Free (fixed n)
unfolding fixed
fixed_free n = (tt, λ first. (tt, λ s. tt))

chunks_free : (payload first permitted places : ℕ) → Free (chunks payload first permitted places)
chunks_free payload first zero places = tt
chunks_free payload first (suc permitted) places = (tt, λ chunk. (tt, λ held. ((chunks_free payload first permitted (places - payload), λ high. tt), tt)))

vbr_free : (n : ℕ) → Free (vbr n)
unfolding vbr
vbr_free zero = tt
vbr_free (suc payload) = (tt, λ first. chunks_free payload first (chunk_limit payload) 64)

char6_free : Free char6
unfolding char6
char6_free = (fixed_free 6, λ c. tt)

zeros_free : (first count : ℕ) → Free (zeros first count)
zeros_free first zero = tt
zeros_free first (suc count) = (tt, λ place. (tt, λ s. (tt, λ held. zeros_free first count)))

align32_free : Free align32
unfolding align32
align32_free = (tt, λ first. zeros_free first (padding_length first))

byte_free : Free byte
unfolding byte
byte_free = fixed_free 8

repeat_free : {A : Type 0} (count : ℕ) (rule : Grammar A) → Free rule → Free (repeat count rule)
repeat_free zero rule k = tt
repeat_free (suc count) rule k = (k, λ first. (repeat_free count rule k, λ others. tt))

-- ---- definitions

kind_free : Free kind
unfolding kind
kind_free = (fixed_free 1, λ flag. (tt, (tt, λ place. (fixed_free 3, λ n. (tt, (tt, (tt, (tt, (tt, tt)))))))))

valued_free : (k : Kind) → Free (valued k)
unfolding valued
valued_free literal = (vbr_free 8, λ v. tt)
valued_free fixed_width = (tt, λ place. (vbr_free 5, λ width. (tt, λ held. tt)))
valued_free vbr_width = (tt, λ place. (vbr_free 5, λ width. (tt, λ held. tt)))
valued_free array = tt
valued_free char6_kind = tt
valued_free blob = tt

operand_free : (shapes : Shapes) (place : Place) (after : ℕ) → Free (operand shapes place after)
unfolding operand
operand_free shapes place after = (tt, λ first. (kind_free, λ k. (tt, λ held. valued_free k)))

operands_free : (shapes : Shapes) (count : ℕ) (place : Place) → Free (operands shapes count place)
unfolding operands
operands_free shapes zero place = tt
operands_free shapes (suc after) place = (operand_free shapes place after, λ op. (operands_free shapes after (place_after op), λ others. tt))

definition_free : (shapes : Shapes) → Free (definition shapes)
unfolding definition
definition_free shapes = (tt, λ first. (vbr_free 5, λ count. (tt, λ held. operands_free shapes count first_place)))

-- ---- records

count_free : (room : ℕ) → Free (value_count room)
unfolding value_count
count_free room = (tt, λ place. (vbr_free 6, λ count. (tt, λ held. tt)))

unabbreviated_free : (room : ℕ) → Free (unabbreviated room)
unfolding unabbreviated
unabbreviated_free room = (vbr_free 6, λ code. (count_free room, λ count. (repeat_free count (vbr 6) (vbr_free 6), λ values. tt)))

scalar_free : (op : Op) → Free (scalar op)
unfolding scalar
scalar_free (Literal v) = tt
scalar_free (Fixed n) = fixed_free n
scalar_free (Vbr n) = vbr_free n
scalar_free Char6 = char6_free
scalar_free Array = tt
scalar_free Blob = tt

values_free : (room : ℕ) (ops : List Op) → Free (values_of room ops)
unfolding values_of
values_free room [] = tt
values_free room (Array ∷ []) = tt
values_free room (Array ∷ element ∷ others) = (count_free room, λ count. repeat_free count (scalar element) (scalar_free element))
values_free room (Blob ∷ others) = (count_free room, λ count. (align32_free, λ first. (repeat_free count byte byte_free, λ values. (align32_free, λ end. tt))))
values_free room (Literal v ∷ others) = (scalar_free (Literal v), λ value. (values_free room others, λ values. tt))
values_free room (Fixed n ∷ others) = (scalar_free (Fixed n), λ value. (values_free room others, λ values. tt))
values_free room (Vbr n ∷ others) = (scalar_free (Vbr n), λ value. (values_free room others, λ values. tt))
values_free room (Char6 ∷ others) = (scalar_free Char6, λ value. (values_free room others, λ values. tt))

abbreviated_free : (first room : ℕ) (ops : List Op) → Free (abbreviated first room ops)
unfolding abbreviated
abbreviated_free first room [] = tt
abbreviated_free first room (op ∷ others) = (tt, λ held. (scalar_free op, λ code. (values_free (room - singles others) others, λ values. tt)))

-- ---- blocks

block_id_free : Free block_id
unfolding block_id
block_id_free = (tt, λ first. (vbr_free 8, λ id. (tt, λ held. tt)))

new_width_free : Free new_width
unfolding new_width
new_width_free = (tt, λ first. (vbr_free 4, λ width. (tt, λ held. tt)))

head_free : Free block_head
unfolding block_head
head_free = (block_id_free, λ id. (new_width_free, λ width. (align32_free, λ padded. (tt, λ length_at. (fixed_free 32, λ words. (tt, λ body. tt))))))

end_free : (h : BlockHead) → Free (end_of_block h)
unfolding end_of_block
end_free h = (align32_free, λ padded. (tt, λ after. (tt, λ held. tt)))

define_free : (shapes : Shapes) (first : ℕ) (scope : Scope) → Free (define shapes first scope)
unfolding define
define_free shapes first scope = (tt, λ held. (definition_free shapes, λ ops. (tt, λ after. tt)))

entry_free : (room first id : ℕ) (definitions : List (List Op)) → Free (entry room first id definitions)
unfolding entry by_definition
entry_free room first id definitions = (unabbreviated_free _, ((tt, λ held. abbreviated_free first _ _), tt))

describe_free : (info : Option BlockInfo) (first : ℕ) (e : CodeAndValues) → Free (describe info first e)
unfolding describe
describe_free None first e = tt
describe_free (Some info) first e = ((tt, λ held. tt), (tt, λ held. tt))

record_free : (limit first id : ℕ) (scope : Scope) → Free (record_after limit first id scope)
unfolding record_after
record_free limit first id scope = (entry_free (limit - scope.handed.used) first id scope.definitions, λ e. (tt, λ after. (describe_free scope.info first e, λ info. tt)))

-- ---- the machine

open_free : (limits : Limits) (frames : List Frame) (first : ℕ) (handed : Handed) → Free (open_block limits frames first handed)
unfolding open_block
open_free limits frames first handed = (tt, λ held. (head_free, λ h. tt))

after_free : (limits : Limits) (h : BlockHead) (frames : List Frame) (first : ℕ) (scope : Scope) (id : ℕ) → Free (step_after limits h frames first scope id)
unfolding step_after open_nested
after_free limits h frames first scope id = ((end_free h, λ after. tt), ((tt, λ held. open_free limits (frame_of h scope ∷ frames) first scope.handed), ((define_free limits.shapes first scope, λ definition. tt), (record_free limits.values first id scope, λ item. tt))))

step_free : (limits : Limits) (frames : List Frame) (handed : Handed) → Free (step_of limits frames handed)
unfolding step_in step_top
step_free limits [] handed = (tt, λ first. (fixed_free 2, λ id. (tt, λ held. open_free limits [] first handed)))
step_free limits (f ∷ frames) handed = (tt, λ first. (fixed_free f.head.width, λ id. after_free limits f.head frames first (scope_of f handed) id))

-- no step breaks for this reason
pub step_other : (limits : Limits) (m : Machine) (p : ℕ) (r : List Bool) (fault : Fault) → reading (step limits m) p r ≡ Err fault → Other fault
step_other limits m p r fault e = reading_fault Other (step limits m) p r fault (step_free limits m.frames m.handed) e

-- no end has this reason
abbrev pub EndsOther : Ending → Type 0
EndsOther (accepted p) = Unit {0}
EndsOther (broke fault) = Other fault

unless_other : (done : Bool) (p : ℕ) (told : Told) → EndsOther told.1 → EndsOther (unless_done done p told).1
unless_other true p told k = tt
unless_other false p told k = k

told_other : (limits : Limits) (n : ℕ) (m : Machine) (p : ℕ) (r : List Bool) → EndsOther (told_at limits n m p r).1
told_other limits zero m p r = tt
told_other limits (suc n) m p r = unless_other (is_done m.frames r) p (told_of_step (told_at limits n) (reading (step limits m) p r)) (go (reading (step limits m) p r) refl (λ new q rest. told_other limits n new q rest))
  where
    go : (read : Step) → reading (step limits m) p r ≡ read → ((new : Machine) (q : ℕ) (rest : List Bool) → EndsOther (told_at limits n new q rest).1) → EndsOther (told_of_step (told_at limits n) read).1
    go (Ok x) e more = more x.0.1 x.1 x.2
    go (Err fault) e more = step_other limits m p r fault e

-- the remaining events end for another reason
pub to_come_other : (limits : Limits) (m : Machine) (p : ℕ) (r : List Bool) → EndsOther (to_come limits m p r).1
unfolding to_come
to_come_other limits m p r = told_other limits (suc (length r)) m p r

-- ---- what comes before the blocks

version_free : Free version
unfolding version
version_free = (tt, λ first. (fixed_free 32, λ n. tt))

offset_free : Free offset
unfolding offset
offset_free = (tt, λ first. (fixed_free 32, λ n. (tt, λ held. tt)))

wrapper_free : Free wrapper
unfolding wrapper
wrapper_free = (version_free, λ known. (offset_free, λ offset. (fixed_free 32, λ size. (fixed_free 32, λ cpu. tt))))

any_free : (n : ℕ) → Free (any_bits n)
unfolding any_bits
any_free n = (tt, λ first. (tt, λ s. tt))

pub gap_free : Free wrapper_and_gap
unfolding wrapper_and_gap
gap_free = (wrapper_free, λ w. (any_free _, λ passed. tt))

pub inner_free : Free inner_magic
unfolding inner_magic
inner_free = (tt, λ first. (fixed_free 32, λ magic. (tt, λ held. tt)))
