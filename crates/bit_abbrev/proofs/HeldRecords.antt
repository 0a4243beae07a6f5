-- Reading a record by a definition that is held in few bytes.
use Rattle.std.proofs.Common.{◌≡◌, true, false, ℕ, ◌+◌, ◌≤◌, List, [], ◌∷◌, ◌++◌, length, Bool, Option, None, Some, Result, Ok, Err, refl, sym, ap, ◌∙◌, subst, arith, length-append}
use Rattle.std.specs.Prelude.{is_some, IfNone, IfSome}
use Rattle.std.specs.Result.{OnOk}
use Rattle.std.proofs.lemmas.List.{append-nil}
use Rattle.bit_grammar.specs.declared.op.Op.{Op}
use Rattle.bit_grammar.specs.declared.op.Op.TheVariants.{Literal, Fixed, Vbr, Array, Char6, Blob}
use Rattle.bit_grammar.specs.declared.op.Place.TheVariants.{Later}
use Rattle.bit_grammar.specs.declared.reason.Reason.TheVariants.{AbbrevShape}
use Rattle.bit_grammar.specs.Blocks.{by_definition}
use Rattle.bit_grammar.specs.Grammar.{at, test}
use Rattle.bit_grammar.specs.Definition.{has_shape, in_order}
use Rattle.bit_grammar.specs.Record.{abbreviated, scalar, singles, values_of}
use Rattle.bit_fields.specs.declared.fault.Fault.{Fault}
use Rattle.bit_fields.specs.declared.fault.Fault.TheVariants.{Memory}
use Rattle.bit_fields.specs.Reader.{Reader, Took, Why, failed_reader}
use Rattle.bit_fields.proofs.Composing.{fault_then, holds_then}
use Rattle.bit_abbrev.specs.Bits.{Answers}
use Rattle.bit_abbrev.specs.Values.{Adds, AddsFew, AddsRecord, AddsWithin, Completes, Gains}
use Rattle.bit_abbrev.proofs.Adding.{no_room}
use Rattle.bit_abbrev.proofs.Missing.{answers_so}
use Rattle.bit_abbrev.proofs.Records.{no_values, one_more, single_then, single_fails}

-- ---- the order of operands

-- behind an operand that gives one value
pub single_ordered : (op : Op) (others : List Op) → (op ≡ Array → ⊥) → (op ≡ Blob → ⊥) → in_order Later (op ∷ others) ≡ in_order Later others
single_ordered (Literal v) others m n = refl
single_ordered (Fixed w) others m n = refl
single_ordered (Vbr w) others m n = refl
single_ordered Char6 others m n = refl
single_ordered Array others m n = absurd (m refl)
single_ordered Blob others m n = absurd (n refl)

-- ---- the values

-- the values of what is left complete those of all
pub record FarHeld (room : ℕ) (all left : List Op) (a b : Reader) (before now : List ℕ) : Type 0 where
  pub completes : Completes (values_of room all) a before (values_of room left) b now
  pub many : length now + singles left ≡ length before + singles all

-- a single operand is the first one left
left_is : (room : ℕ) (all left others : List Op) (op : Op) (a b : Reader) (before now : List ℕ) → left ≡ op ∷ others → FarHeld room all left a b before now → Completes (values_of room all) a before (values_of room (op ∷ others)) b now
left_is room all left others op a b before now is h = subst (λ (ops : List Op). Completes (values_of room all) a before (values_of room ops) b now) is h.completes

pub held_goes_on : (room : ℕ) (all left others : List Op) (op : Op) (a b : Reader) (before now : List ℕ) (value : ℕ) (c : Reader) → (op ≡ Array → ⊥) → (op ≡ Blob → ⊥) → left ≡ op ∷ others → FarHeld room all left a b before now → Took (scalar op) b value c → FarHeld room all others a c before (now ++ value ∷ [])
held_goes_on room all left others op a b before now value c m n is h t = record {
  completes = record {
    live = t.live;
    so = λ result after d k. (left_is room all left others op a b before now is h).so result after d (single_then room op others b value c result now after d m n t k);
  };
  many = omega (arith, length-append now (value ∷ []), h.many, ap singles is, one_more op others m n);
}

pub held_fails : (room : ℕ) (all left others : List Op) (op : Op) (a b : Reader) (before now : List ℕ) (fault : Fault) (c : Reader) → (op ≡ Array → ⊥) → (op ≡ Blob → ⊥) → left ≡ op ∷ others → FarHeld room all left a b before now → Why (scalar op) b fault c → Adds (values_of room all) a (Err fault) before now c
held_fails room all left others op a b before now fault c m n is h why = (left_is room all left others op a b before now is h).so (Err fault) now c (single_fails room op others b fault now c m n why)

pub held_refused : (room : ℕ) (all left : List Op) (op : Op) (a b : Reader) (before now : List ℕ) (value : ℕ) (c : Reader) → FarHeld room all left a b before now → Took (scalar op) b value c → Adds (values_of room all) a (Err Memory) before now (failed_reader c)
held_refused room all left op a b before now value c h t = h.completes.so (Err Memory) now (failed_reader c) (no_room (scalar op) (values_of room left) b value c now t)

-- what is left is an array or a blob, or nothing
pub held_then : (room : ℕ) (all left : List Op) (a b : Reader) (before now new : List ℕ) (result : Result (Unit {0}) Fault) (c : Reader) → singles left ≡ 0 → FarHeld room all left a b before now → AddsFew (values_of room left) room b result c now new → AddsFew (values_of room all) (singles all + room) a result c before new
held_then room all left a b before now new result c none h k = (h.completes.so result new c k.0, few result k.1)
  where
    few : (result : Result (Unit {0}) Fault) → OnOk result (length new ≤ length now + room) → OnOk result (length new ≤ length before + (singles all + room))
    few (Ok x) most = omega (arith, most, h.many, none)
    few (Err fault) most = tt

pub held_done : (room : ℕ) (all left : List Op) (a b : Reader) (before now : List ℕ) → left ≡ [] → FarHeld room all left a b before now → AddsFew (values_of room all) (singles all + room) a (Ok tt) b before now
held_done room all left a b before now is h = held_then room all left a b before now now (Ok tt) b (ap singles is) h (subst (λ (ops : List Op). Adds (values_of room ops) b (Ok tt) now now b) (sym is) (no_values room b now h.completes.live), omega arith)

-- the same for each result of reading the array or the blob
pub tail_then : {V M : Type 0} (took : V → List ℕ → Type 0) (u v w : V) (faults : M → Fault → Type 0) (room : ℕ) (all left tail : List Op) (a b c : Reader) (result : Result (Unit {0}) M) → left ≡ tail → singles tail ≡ 0 → Gains took u v (FarHeld room all left a b) → Answers faults (λ r. Gains took v w (AddsFew (values_of room tail) room b r c)) result
    → Answers faults (λ r. Gains took u w (AddsFew (values_of room all) (singles all + room) a r c)) result
tail_then took u v w faults room all left tail a b c result is none far read = answers_so faults (λ r. Gains took v w (AddsFew (values_of room tail) room b r c)) (λ r. Gains took u w (AddsFew (values_of room all) (singles all + room) a r c)) result
    (λ r gains before t.
    let h = far before t in
    let k = gains h.0 h.1 in
    (k.0, k.1, held_then room all left a b before h.0 k.0 r c (ap singles is ∙ none) h.2 (subst (λ (ops : List Op). AddsFew (values_of room ops) room b r c h.0 k.0) (sym is) k.2)))
    read

-- ---- a record

-- whether operands were found to be in a lawful order
pub shape_found : {A : Type 0} (P : A → Type 0) (found : Option A) (shape : Bool) → ((x : A) → P x → shape ≡ true) → IfSome found P → IfNone found (shape ≡ false) → is_some found ≡ shape
shape_found P None shape so some none = sym none
shape_found P (Some x) shape so some none = sym (so x some)

pub shapeless : (first room : ℕ) (ops : List Op) (a : Reader) (fault : Fault) (now : List ℕ) (c : Reader) → Why (test (has_shape ops) (at AbbrevShape first)) a fault c → AddsRecord (by_definition first room ops) a (Err fault) now now c
unfolding by_definition
shapeless first room ops a fault now c why = ([], sym (append-nil now), fault_then (test (has_shape ops) (at AbbrevShape first)) (λ x. abbreviated first room ops) a fault c why)

pub shaped : (first room : ℕ) (ops : List Op) (a : Reader) (result : Result ℕ Fault) (before after : List ℕ) (c : Reader) → has_shape ops ≡ true → AddsWithin (abbreviated first room ops) room a result c before after → AddsWithin (by_definition first room ops) room a result c before after
unfolding by_definition
shaped first room ops a (Ok code) before after c shape h = ((h.0.0, h.0.1, holds_then (has_shape ops) (at AbbrevShape first) (abbreviated first room ops) a (Ok (record { code = code; values = h.0.0 })) c shape h.0.2), h.1)
shaped first room ops a (Err fault) before after c shape h = ((h.0.0, h.0.1, holds_then (has_shape ops) (at AbbrevShape first) (abbreviated first room ops) a (Err fault) c shape h.0.2), tt)
