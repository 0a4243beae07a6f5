-- The outlook of a whole input: its head and the events of its tree, or an end with its fault.
use Rattle.std.proofs.Common.{◌≡◌, ℕ, ◌*◌, Bool, true, false, leb, List, [], length, take, Some, None, Result, Ok, Err, refl, ap, subst, inl, inr}
use Rattle.std.specs.Prelude.{if◌then◌else◌}
use Rattle.bit_grammar.specs.declared.reason.Reason.TheVariants.{WrapperSize}
use Rattle.bit_grammar.specs.Bits.{bits_of_bytes}
use Rattle.bit_grammar.specs.Grammar.{Fault, at, reading}
use Rattle.bit_grammar.specs.Fields.{fixed}
use Rattle.bit_grammar.specs.Marks.{Item}
use Rattle.bit_grammar.specs.Blocks.{Limits}
use Rattle.bit_grammar.specs.Whole.{and_all}
use Rattle.bit_grammar.specs.Input.{wrapper_and_gap, inner_magic, is_wrapped, marked_with, top_blocks, stream, wrapped, input, front_of, is_closed, too_long, cut_fault, SpellsInput, BreaksInput}
use Rattle.bit_grammar.specs.Terms.{Head, Marked}
use Rattle.bit_grammar.specs.Machine.{Told, at_start, to_come, flat, accepted, broke}
use Rattle.bit_grammar.specs.Outlook.{Outlook, ending_by, end_of_few, cut_end, same_fault, told_wrapped, told_input, outlook, EndsBy}
use Rattle.bit_grammar.proofs.Events.Follows.{Tells, machine_tells}
use Rattle.bit_grammar.proofs.WholeInputs.Inputs.{spelled_read, breaks_read}
use Rattle.bit_grammar.proofs.Readings.Readers.{long_enough, made_by, reading_all, cut_at_limit, reading_input}

abbrev TellsInput : Outlook → Result Marked Fault → Type 0
TellsInput told (Ok m) = told ≡ Ok (m.head, (flat m.blocks [], accepted m.after))
TellsInput told (Err fault) = EndsBy told fault

tells_and : {X : Type 0} (first : Result (X × ℕ × List Bool) Fault) (f : X → ℕ → List Bool → Outlook) (g : X → ℕ → List Bool → Result Marked Fault) → ((x : X) (q : ℕ) (rest : List Bool) → TellsInput (f x q rest) (g x q rest)) → TellsInput (and_all first f) (and_all first g)
tells_and (Ok x) f g more = more x.0 x.1 x.2
tells_and (Err fault) f g more = inl refl

tells_blocks : (head : Head) (told : Told) (read : Result (List Item × ℕ) Fault) → Tells told read → TellsInput (Ok (head, told)) (made_by (marked_with head) read)
tells_blocks head told (Ok v) h = ap (λ (t : Told). Ok (head, t)) h
tells_blocks head told (Err fault) h = inr ((head, told), refl, h)

tells_stream : (limits : Limits) (head : Head) (p : ℕ) (r : List Bool) → TellsInput (Ok (head, to_come limits at_start p r)) (reading_all (stream limits head) p r)
unfolding stream
tells_stream limits head p r = tells_blocks head (to_come limits at_start p r) (reading_all (top_blocks limits) p r) (machine_tells limits p r)

tells_few : (enough : Bool) (few : Fault) (told : Outlook) (read : Result Marked Fault) → TellsInput told read → TellsInput (ending_by (end_of_few enough few) same_fault told) (long_enough enough few read)
tells_few true few told (Ok m) h = rw h refl
tells_few false few told (Ok m) h = inr ((m.head, (flat m.blocks [], broke few)), ap (ending_by (end_of_few false few) same_fault) h, refl)
tells_few enough few told (Err fault) (inl h) = inl (ap (ending_by (end_of_few enough few) same_fault) h)
tells_few enough few told (Err fault) (inr h) = inr ((h.0.0, (h.0.1.0, end_of_few enough few h.0.1.1)), ap (ending_by (end_of_few enough few) same_fault) h.1, ap (end_of_few enough few) h.2)

tells_wrapped : (limits : Limits) (p : ℕ) (r : List Bool) → TellsInput (told_wrapped limits p r) (reading_all (wrapped limits) p r)
unfolding wrapped
tells_wrapped limits p r = tells_and (reading wrapper_and_gap p r) _ _ (λ w q rest. tells_few (leb (8 * w.size) (length rest)) (at WrapperSize 96) _ _ (tells_and (reading inner_magic q (take (8 * w.size) rest)) _ _ (λ magic q' rest'. tells_stream limits (record { magic = magic; wrapper = Some w }) q' rest')))

either_told : (test : Bool) (a b : Outlook) (x y : Result Marked Fault) → TellsInput a x → TellsInput b y → TellsInput (if test then a else b) (if test then x else y)
either_told true a b x y h k = h
either_told false a b x y h k = k

tells_input : (limits : Limits) (p : ℕ) (r : List Bool) → TellsInput (told_input limits p r) (reading_all (input limits) p r)
unfolding input
tells_input limits p r = tells_and (reading (fixed 32) p r) _ _ (λ magic q rest. either_told (is_wrapped magic) _ _ _ _ (tells_wrapped limits q rest) (tells_stream limits (record { magic = magic; wrapper = None }) q rest))

tells_cut : (limits : Limits) (closed : Bool) (told : Outlook) (read : Result Marked Fault) → TellsInput told read → TellsInput (ending_by (cut_end limits closed) (cut_fault limits closed) told) (cut_at_limit limits closed read)
tells_cut limits closed told (Ok m) h = inr ((m.head, (flat m.blocks [], broke (too_long limits))), ap (ending_by (cut_end limits closed) (cut_fault limits closed)) h, refl)
tells_cut limits closed told (Err fault) (inl h) = inl (ap (ending_by (cut_end limits closed) (cut_fault limits closed)) h)
tells_cut limits closed told (Err fault) (inr h) = inr ((h.0.0, (h.0.1.0, cut_end limits closed h.0.1.1)), ap (ending_by (cut_end limits closed) (cut_fault limits closed)) h.1, ap (cut_end limits closed) h.2)

tells_outlook : (limits : Limits) (bytes : List ℕ) → TellsInput (outlook limits bytes) (reading_input limits bytes)
unfolding outlook reading_input
tells_outlook limits bytes =
    either_told (leb (length bytes) limits.bytes) _ _ _ _ (tells_input limits 0 (bits_of_bytes bytes)) (tells_cut limits (is_closed limits bytes) _ _ (tells_input limits 0 (front_of limits bytes)))

pub outlook_spelled : (limits : Limits) (bytes : List ℕ) (m : Marked) → SpellsInput limits bytes m → outlook limits bytes ≡ Ok (m.head, (flat m.blocks [], accepted m.after))
outlook_spelled limits bytes m h = subst (λ (x : Result Marked Fault). TellsInput (outlook limits bytes) x) (spelled_read limits bytes m h) (tells_outlook limits bytes)

pub outlook_broken : (limits : Limits) (bytes : List ℕ) (fault : Fault) → BreaksInput limits bytes fault → EndsBy (outlook limits bytes) fault
outlook_broken limits bytes fault h = subst (λ (x : Result Marked Fault). TellsInput (outlook limits bytes) x) (breaks_read limits bytes fault h) (tells_outlook limits bytes)
