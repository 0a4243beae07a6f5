-- Reading the values of a record, operand by operand.
use Rattle.std.specs.Prelude.{nat_le}
use Rattle.std.proofs.Common.{◌≡◌, true, ℕ, zero, suc, ◌+◌, ◌-◌, ◌<◌, ◌≤◌, List, [], ◌∷◌, ◌++◌, length, take, drop, Result, Ok, Err, refl, sym, ap, ◌∙◌, subst, arith, add-one, append_assoc, length-append, ◌⊎◌, inl, inr}
use Rattle.std.proofs.Math.ListN.{replicate}
use Rattle.std.proofs.lemmas.List.{append-nil, length-replicate, length-take-le, drop_all, take_all, take-append-drop}
use Rattle.std.proofs.Math.Seq.{drop-cons}
use Rattle.std.specs.Result.{OnOk}
use Rattle.bit_grammar.specs.declared.op.Op.{Op}
use Rattle.bit_grammar.specs.declared.op.Op.TheVariants.{Literal, Fixed, Vbr, Array, Char6, Blob}
use Rattle.bit_grammar.specs.declared.reason.Reason.TheVariants.{TooManyValues}
use Rattle.bit_grammar.specs.Grammar.{Grammar, at, gives, test, ◌>>=◌, ◌>>◌, repeat}
use Rattle.bit_grammar.specs.Fields.{fixed, align32, byte}
use Rattle.bit_grammar.specs.Record.{value_count, scalar, singles, values_of, abbreviated}
use Rattle.bit_grammar.specs.Terms.{CodeAndValues}
use Rattle.bit_grammar.specs.FormatDefinition.{op_at, IsElement, Lawful}
use Rattle.bit_fields.specs.declared.fault.Fault.{Fault}
use Rattle.bit_fields.specs.declared.fault.Fault.TheVariants.{Memory}
use Rattle.bit_fields.specs.Reader.{Reader, Took, Why, Takes, failed_reader}
use Rattle.bit_fields.proofs.Composing.{fault_then, took_then}
use Rattle.bit_abbrev.specs.Operands.{OthersInOrder, HasTail, others_of}
use Rattle.bit_abbrev.specs.declared.tail.Tail.TheVariants as tail
use Rattle.bit_abbrev.specs.Values.{Adds, AddsAll, AddsFew, AddsFirst, AddsRecord, Completes, Gains, PassesFirst}
use Rattle.bit_abbrev.proofs.Adding.{and_gives, part_then, part_fails, values_fail, padding_then, value_then, value_fails, no_room, adds_none, whole}

-- ---- an array

pub array_counted : (room : ℕ) (element : Op) (others : List Op) (a : Reader) (fault : Fault) (now : List ℕ) (c : Reader) → Why (value_count room) a fault c → Adds (values_of room (Array ∷ element ∷ others)) a (Err fault) now now c
unfolding values_of
array_counted room element others a fault now c why = part_fails (value_count room) (λ count. repeat count (scalar element)) a fault now c why

pub array_read : (room : ℕ) (element : Op) (others : List Op) (a : Reader) (count : ℕ) (b : Reader) (result : Result (Unit {0}) Fault) (now new : List ℕ) (c : Reader) → Took (value_count room) a count b → count ≤ room → AddsAll (scalar element) count b result c now new
    → AddsFew (values_of room (Array ∷ element ∷ others)) room a result c now new
unfolding values_of
array_read room element others a count b (Ok x) now new c t few h = (part_then (value_count room) (λ count. repeat count (scalar element)) a count b (Ok x) now new c t h.0, omega (arith, few, h.1))
array_read room element others a count b (Err fault) now new c t few h = (part_then (value_count room) (λ count. repeat count (scalar element)) a count b (Err fault) now new c t h.0, tt)

-- ---- a blob

pub blob_few : (result : Result (Unit {0}) Fault) (count room : ℕ) (now new : List ℕ) → count ≤ room → length new ≡ length now + count → OnOk result (length new ≤ length now + room)
blob_few (Ok x) count room now new few h = omega (arith, few, h)
blob_few (Err fault) count room now new few h = tt

-- the bytes of a blob, and the padding after them
abbrev blob_bytes : ℕ → Grammar (List ℕ)
blob_bytes count = repeat count (fixed 8) >>= λ vs. align32 >> gives vs

abbrev after_count : ℕ → Grammar (List ℕ)
after_count count = align32 >>= λ padded. blob_bytes count

pub blob_counted : (room : ℕ) (others : List Op) (a : Reader) (fault : Fault) (now : List ℕ) (c : Reader) → Why (value_count room) a fault c → Adds (values_of room (Blob ∷ others)) a (Err fault) now now c
unfolding values_of byte
blob_counted room others a fault now c why = part_fails (value_count room) after_count a fault now c why

pub blob_padded : (room : ℕ) (others : List Op) (a : Reader) (count : ℕ) (b : Reader) (fault : Fault) (now : List ℕ) (c : Reader) → Took (value_count room) a count b → Why align32 b fault c → Adds (values_of room (Blob ∷ others)) a (Err fault) now now c
unfolding values_of byte
blob_padded room others a count b fault now c t why = part_then (value_count room) after_count a count b (Err fault) now now c t (part_fails align32 (λ padded. blob_bytes count) b fault now c why)

pub blob_fails : (room : ℕ) (others : List Op) (a : Reader) (count : ℕ) (b d : Reader) (fault : Fault) (now new : List ℕ) (c : Reader) → Took (value_count room) a count b → Took align32 b tt d → Adds (repeat count (fixed 8)) d (Err fault) now new c → Adds (values_of room (Blob ∷ others)) a (Err fault) now new c
unfolding values_of byte
blob_fails room others a count b d fault now new c t u h =
    part_then (value_count room) after_count a count b (Err fault) now new c t (part_then align32 (λ padded. blob_bytes count) b tt d (Err fault) now new c u (values_fail (repeat count (fixed 8)) (λ vs. align32 >> gives vs) d fault now new c h))

pub blob_read : (room : ℕ) (others : List Op) (a : Reader) (count : ℕ) (b d e : Reader) (result : Result (Unit {0}) Fault) (now new : List ℕ) (c : Reader) → Took (value_count room) a count b → Took align32 b tt d → Adds (repeat count (fixed 8)) d (Ok tt) now new e → Takes align32 e result c → Adds (values_of room (Blob ∷ others)) a result now new c
unfolding values_of byte
blob_read room others a count b d e result now new c t u h k =
    part_then (value_count room) after_count a count b result now new c t (part_then align32 (λ padded. blob_bytes count) b tt d result now new c u (padding_then (repeat count (fixed 8)) d e result now new c h k))

-- ---- operands

pub single_then : (room : ℕ) (op : Op) (others : List Op) (a : Reader) (value : ℕ) (b : Reader) (result : Result (Unit {0}) Fault) (now new : List ℕ) (c : Reader) → (op ≡ Array → ⊥) → (op ≡ Blob → ⊥) → Took (scalar op) a value b → Adds (values_of room others) b result (now ++ value ∷ []) new c → Adds (values_of room (op ∷ others)) a result now new c
unfolding values_of
single_then room (Literal v) others a value b result now new c m n t h = value_then (scalar (Literal v)) (values_of room others) a value b result now new c t h
single_then room (Fixed w) others a value b result now new c m n t h = value_then (scalar (Fixed w)) (values_of room others) a value b result now new c t h
single_then room (Vbr w) others a value b result now new c m n t h = value_then (scalar (Vbr w)) (values_of room others) a value b result now new c t h
single_then room Char6 others a value b result now new c m n t h = value_then (scalar Char6) (values_of room others) a value b result now new c t h
single_then room Array others a value b result now new c m n t h = absurd (m refl)
single_then room Blob others a value b result now new c m n t h = absurd (n refl)

pub single_fails : (room : ℕ) (op : Op) (others : List Op) (a : Reader) (fault : Fault) (now : List ℕ) (c : Reader) → (op ≡ Array → ⊥) → (op ≡ Blob → ⊥) → Why (scalar op) a fault c → Adds (values_of room (op ∷ others)) a (Err fault) now now c
unfolding values_of
single_fails room (Literal v) others a fault now c m n why = value_fails (scalar (Literal v)) (values_of room others) a fault now c why
single_fails room (Fixed w) others a fault now c m n why = value_fails (scalar (Fixed w)) (values_of room others) a fault now c why
single_fails room (Vbr w) others a fault now c m n why = value_fails (scalar (Vbr w)) (values_of room others) a fault now c why
single_fails room Char6 others a fault now c m n why = value_fails (scalar Char6) (values_of room others) a fault now c why
single_fails room Array others a fault now c m n why = absurd (m refl)
single_fails room Blob others a fault now c m n why = absurd (n refl)

-- none of these operands is an array or a blob
not_array : (op : Op) (others : List Op) → singles (op ∷ others) ≡ suc (length others) → op ≡ Array → ⊥
not_array op others so is = let none : singles (op ∷ others) ≡ 0 = rw is refl in omega (arith, none, so)

not_blob : (op : Op) (others : List Op) → singles (op ∷ others) ≡ suc (length others) → op ≡ Blob → ⊥
not_blob op others so is = let none : singles (op ∷ others) ≡ 0 = rw is refl in omega (arith, none, so)

pub one_more : (op : Op) (others : List Op) → (op ≡ Array → ⊥) → (op ≡ Blob → ⊥) → singles (op ∷ others) ≡ suc (singles others)
one_more (Literal v) others m n = refl
one_more (Fixed w) others m n = refl
one_more (Vbr w) others m n = refl
one_more Char6 others m n = refl
one_more Array others m n = absurd (m refl)
one_more Blob others m n = absurd (n refl)

others_single : (op : Op) (others : List Op) → singles (op ∷ others) ≡ suc (length others) → singles others ≡ length others
others_single op others so = let one = one_more op others (not_array op others so) (not_blob op others so) in omega (arith, one, so)

single_at : (ops : List Op) (i : ℕ) → singles ops ≡ length ops → i < length ops → (op_at ops i ≡ Array → ⊥) × (op_at ops i ≡ Blob → ⊥)
single_at [] i so less = absurd (omega (arith, less))
single_at (op ∷ ops) zero so less = (not_array op ops so, not_blob op ops so)
single_at (op ∷ ops) (suc i) so less = single_at ops i (others_single op ops so) (omega (arith, less))

-- what is read from one operand on completes the values of all, and how many there are
pub record FarIn (room : ℕ) (ops tail : List Op) (a : Reader) (i : ℕ) (b : Reader) (before now : List ℕ) : Type 0 where
  pub all : Completes (values_of room (ops ++ tail)) a before (values_of room (drop i ops ++ tail)) b now
  pub many : length now ≡ length before + i

pub from_begins : (room : ℕ) (ops tail : List Op) (a : Reader) (before : List ℕ) → a.live ≡ true → FarIn room ops tail a 0 a before before
from_begins room ops tail a before live = record { all = whole (values_of room (ops ++ tail)) a before live; many = omega arith }

from_index : (ops : List Op) (i : ℕ) → i < length ops → drop i ops ≡ op_at ops i ∷ drop (i + 1) ops
from_index ops i less = rw add-one (drop-cons ops i (Literal 0) less)

-- the same for the operand at the index
at_index : (room : ℕ) (ops tail : List Op) (a : Reader) (i : ℕ) (b : Reader) (before now : List ℕ) → i < length ops → FarIn room ops tail a i b before now → Completes (values_of room (ops ++ tail)) a before (values_of room (op_at ops i ∷ (drop (i + 1) ops ++ tail))) b now
at_index room ops tail a i b before now less h = subst (λ (rest : List Op). Completes (values_of room (ops ++ tail)) a before (values_of room (rest ++ tail)) b now) (from_index ops i less) h.all

pub from_goes_on : (room : ℕ) (ops tail : List Op) (a : Reader) (i : ℕ) (b : Reader) (before now : List ℕ) (value : ℕ) (c : Reader) → singles ops ≡ length ops → i < length ops → FarIn room ops tail a i b before now → Took (scalar (op_at ops i)) b value c → FarIn room ops tail a (i + 1) c before (now ++ value ∷ [])
from_goes_on room ops tail a i b before now value c single less h t =
    let is = single_at ops i single less in
    record {
      all = record {
        live = t.live;
        so = λ result after d k. (at_index room ops tail a i b before now less h).so result after d (single_then room (op_at ops i) (drop (i + 1) ops ++ tail) b value c result now after d is.0 is.1 t k);
      };
      many = omega (arith, length-append now (value ∷ []), h.many);
    }

pub from_fails : (room : ℕ) (ops tail : List Op) (a : Reader) (i : ℕ) (b : Reader) (before now : List ℕ) (fault : Fault) (c : Reader) → singles ops ≡ length ops → i < length ops → FarIn room ops tail a i b before now → Why (scalar (op_at ops i)) b fault c → Adds (values_of room (ops ++ tail)) a (Err fault) before now c
from_fails room ops tail a i b before now fault c single less h why =
    let is = single_at ops i single less in
    (at_index room ops tail a i b before now less h).so (Err fault) now c (single_fails room (op_at ops i) (drop (i + 1) ops ++ tail) b fault now c is.0 is.1 why)

pub from_refused : (room : ℕ) (ops tail : List Op) (a : Reader) (i : ℕ) (b : Reader) (before now : List ℕ) (op : Op) (value : ℕ) (c : Reader) → FarIn room ops tail a i b before now → Took (scalar op) b value c → Adds (values_of room (ops ++ tail)) a (Err Memory) before now (failed_reader c)
from_refused room ops tail a i b before now op value c h t = h.all.so (Err Memory) now (failed_reader c) (no_room (scalar op) (values_of room (drop i ops ++ tail)) b value c now t)

none_left : (ops : List Op) (i : ℕ) → length ops ≤ i → drop i ops ≡ []
none_left [] zero most = refl
none_left [] (suc i) most = refl
none_left (op ∷ ops) zero most = absurd (omega (arith, most))
none_left (op ∷ ops) (suc i) most = none_left ops i (omega (arith, most))

pub from_done : (room : ℕ) (ops tail : List Op) (a : Reader) (i : ℕ) (b : Reader) (before now : List ℕ) → length ops ≤ i → i ≤ length ops → FarIn room ops tail a i b before now → AddsFirst room ops tail a (Ok tt) b before now
from_done room ops tail a i b before now most least h = (
  subst (λ (rest : List Op). Completes (values_of room (ops ++ tail)) a before (values_of room (rest ++ tail)) b now) (none_left ops i most) h.all,
  omega (arith, h.many, most, least),
)

-- the same for values that are not used
abbrev pub SkipsTo : (room : ℕ) (ops tail : List Op) (a : Reader) (i : ℕ) (b : Reader) (before : List ℕ) → Type 0
SkipsTo room ops tail a i b before = (values : List ℕ) × FarIn room ops tail a i b before (before ++ values)

pub skips_begin : (room : ℕ) (ops tail : List Op) (a : Reader) (before : List ℕ) → a.live ≡ true → SkipsTo room ops tail a 0 a before
skips_begin room ops tail a before live = ([], rw (append-nil before) (from_begins room ops tail a before live))

pub skips_go_on : (room : ℕ) (ops tail : List Op) (a : Reader) (i : ℕ) (b : Reader) (before : List ℕ) (value : ℕ) (c : Reader) → singles ops ≡ length ops → i < length ops → SkipsTo room ops tail a i b before → Took (scalar (op_at ops i)) b value c → SkipsTo room ops tail a (i + 1) c before
skips_go_on room ops tail a i b before value c single less h t = (h.0 ++ value ∷ [], subst (λ (now : List ℕ). FarIn room ops tail a (i + 1) c before now) (append_assoc before h.0 (value ∷ [])) (from_goes_on room ops tail a i b before (before ++ h.0) value c single less h.1 t))

pub skips_fail : (room : ℕ) (ops tail : List Op) (a : Reader) (i : ℕ) (b : Reader) (before : List ℕ) (fault : Fault) (c : Reader) → singles ops ≡ length ops → i < length ops → SkipsTo room ops tail a i b before → Why (scalar (op_at ops i)) b fault c
    → (values : List ℕ) × (length values ≡ length ops) × AddsFirst room ops tail a (Err fault) c before (before ++ values)
skips_fail room ops tail a i b before fault c single less h why =
    let zeros = replicate (length ops) 0 in
    (zeros, length-replicate (length ops) 0, (zeros, refl, (from_fails room ops tail a i b before (before ++ h.0) fault c single less h.1 why).2))

pub skips_done : (room : ℕ) (ops tail : List Op) (a : Reader) (i : ℕ) (b : Reader) (before : List ℕ) → length ops ≤ i → i ≤ length ops → SkipsTo room ops tail a i b before → (values : List ℕ) × (length values ≡ length ops) × AddsFirst room ops tail a (Ok tt) b before (before ++ values)
skips_done room ops tail a i b before most least h =
    let all = from_done room ops tail a i b before (before ++ h.0) most least h.1 in
    (h.0, omega (arith, length-append before h.0, all.1), all)

-- the skipped values come after those before
pub skipped : {V : Type 0} (took : V → List ℕ → Type 0) (v w : V) (room : ℕ) (ops tail : List Op) (a c : Reader) (result : Result (Unit {0}) Fault) → ((values others : List ℕ) → took v values → length others ≡ length ops → took w (values ++ others)) → PassesFirst room ops tail a c result → Gains took v w (AddsFirst room ops tail a result c)
skipped took v w room ops tail a c result passes h = λ before t. let k = h before in (before ++ k.0, passes before k.0 t k.1, k.2)

-- ---- how many they are, and what follows them

-- no more of them than operands
pub singles_within : (ops : List Op) → singles ops ≤ length ops
singles_within [] = omega arith
singles_within (Literal v ∷ ops) = omega (arith, singles_within ops)
singles_within (Fixed w ∷ ops) = omega (arith, singles_within ops)
singles_within (Vbr w ∷ ops) = omega (arith, singles_within ops)
singles_within (Char6 ∷ ops) = omega (arith, singles_within ops)
singles_within (Array ∷ ops) = omega arith
singles_within (Blob ∷ ops) = omega arith

counted : (ops : List Op) (count : ℕ) → count ≤ length ops → ((i : ℕ) → i < count → (op_at ops i ≡ Array → ⊥) × (op_at ops i ≡ Blob → ⊥)) → (count ≡ length ops) ⊎ (op_at ops count ≡ Blob) ⊎ (op_at ops count ≡ Array) → count ≡ singles ops
counted [] zero few each ends = refl
counted [] (suc count) few each ends = absurd (omega (arith, few))
counted (op ∷ ops) zero few each (inl all) = absurd (omega (arith, all))
counted (op ∷ ops) zero few each (inr (inl blob)) = rw blob refl
counted (op ∷ ops) zero few each (inr (inr array)) = rw array refl
counted (op ∷ ops) (suc count) few each ends =
    let more = counted ops count (omega (arith, few)) (λ i less. each (suc i) (omega (arith, less))) (next ends) in
    let first = each 0 (omega arith) in
    let one = one_more op ops first.0 first.1 in
    omega (arith, one, more)
  where
    next : (suc count ≡ length (op ∷ ops)) ⊎ (op_at ops count ≡ Blob) ⊎ (op_at ops count ≡ Array) → (count ≡ length ops) ⊎ (op_at ops count ≡ Blob) ⊎ (op_at ops count ≡ Array)
    next (inl all) = inl (omega (arith, all))
    next (inr last) = inr last

-- an array is the last but one, a blob the last, and else there is neither
pub counted_array : (ops : List Op) → OthersInOrder ops → 2 ≤ length ops → op_at ops (length ops - 2) ≡ Array → length ops - 2 ≡ singles ops
counted_array ops h some is = counted ops (length ops - 2) (omega arith) (λ i less. (λ e. omega (arith, some, less, h.array i e), λ e. omega (arith, some, less, h.blob i e))) (inr (inr is))

array_last : (ops : List Op) (i : ℕ) → OthersInOrder ops → (2 ≤ length ops → op_at ops (length ops - 2) ≡ Array → ⊥) → op_at ops i ≡ Array → ⊥
array_last ops i h none e =
    let last : i ≡ length ops - 2 = omega (arith, h.array i e) in
    none (omega (arith, h.array i e)) (subst (λ (k : ℕ). op_at ops k ≡ Array) last e)

pub counted_blob : (ops : List Op) → OthersInOrder ops → (2 ≤ length ops → op_at ops (length ops - 2) ≡ Array → ⊥) → 1 ≤ length ops → op_at ops (length ops - 1) ≡ Blob → length ops - 1 ≡ singles ops
counted_blob ops h none some is = counted ops (length ops - 1) (omega arith) (λ i less. (array_last ops i h none, λ e. omega (arith, some, less, h.blob i e))) (inr (inl is))

pub counted_all : (ops : List Op) → OthersInOrder ops → (2 ≤ length ops → op_at ops (length ops - 2) ≡ Array → ⊥) → (1 ≤ length ops → op_at ops (length ops - 1) ≡ Blob → ⊥) → length ops ≡ singles ops
counted_all ops h none no_blob = counted ops (length ops) (omega arith) (λ i less. (array_last ops i h none, blob_last i)) (inl refl)
  where
    blob_last : (i : ℕ) → op_at ops i ≡ Blob → ⊥
    blob_last i e =
        let last : i ≡ length ops - 1 = omega (arith, h.blob i e) in
        no_blob (omega (arith, h.blob i e)) (subst (λ (k : ℕ). op_at ops k ≡ Blob) last e)

pub front_single : (ops : List Op) → singles (take (singles ops) ops) ≡ length (take (singles ops) ops)
front_single [] = refl
front_single (Literal v ∷ ops) = ap suc (front_single ops)
front_single (Fixed w ∷ ops) = ap suc (front_single ops)
front_single (Vbr w ∷ ops) = ap suc (front_single ops)
front_single (Char6 ∷ ops) = ap suc (front_single ops)
front_single (Array ∷ ops) = refl
front_single (Blob ∷ ops) = refl

later : (op : Op) (ops : List Op) → OthersInOrder (op ∷ ops) → OthersInOrder ops
later op ops h = record {
  array = λ i e. omega (arith, h.array (suc i) e);
  element = λ i e. let next : suc i + 1 ≡ suc (i + 1) = omega arith in rw next at (h.element (suc i) e);
  blob = λ i e. omega (arith, h.blob (suc i) e);
}

behind_next : (op : Op) (ops : List Op) → (op ≡ Array → ⊥) → (op ≡ Blob → ⊥) → (singles ops ≡ length ops) ⊎ (op_at ops (singles ops) ≡ Blob) ⊎ (op_at ops (singles ops) ≡ Array) → (singles (op ∷ ops) ≡ suc (length ops)) ⊎ (op_at (op ∷ ops) (singles (op ∷ ops)) ≡ Blob) ⊎ (op_at (op ∷ ops) (singles (op ∷ ops)) ≡ Array)
behind_next op ops m n h = rw (one_more op ops m n) (next h)
  where
    next : (singles ops ≡ length ops) ⊎ (op_at ops (singles ops) ≡ Blob) ⊎ (op_at ops (singles ops) ≡ Array) → (suc (singles ops) ≡ suc (length ops)) ⊎ (op_at ops (singles ops) ≡ Blob) ⊎ (op_at ops (singles ops) ≡ Array)
    next (inl all) = inl (ap suc all)
    next (inr other) = inr other

behind : (ops : List Op) → (singles ops ≡ length ops) ⊎ (op_at ops (singles ops) ≡ Blob) ⊎ (op_at ops (singles ops) ≡ Array)
behind [] = inl refl
behind (Literal v ∷ ops) = behind_next (Literal v) ops (λ e. cc) (λ e. cc) (behind ops)
behind (Fixed w ∷ ops) = behind_next (Fixed w) ops (λ e. cc) (λ e. cc) (behind ops)
behind (Vbr w ∷ ops) = behind_next (Vbr w) ops (λ e. cc) (λ e. cc) (behind ops)
behind (Char6 ∷ ops) = behind_next Char6 ops (λ e. cc) (λ e. cc) (behind ops)
behind (Array ∷ ops) = inr (inr refl)
behind (Blob ∷ ops) = inr (inl refl)

-- a blob follows them, or an array and its element
pub blob_behind : (ops : List Op) → OthersInOrder ops → length ops ≡ singles ops + 1 → drop (singles ops) ops ≡ Blob ∷ drop (singles ops + 1) ops
blob_behind ops h last = is (behind ops)
  where
    is : (singles ops ≡ length ops) ⊎ (op_at ops (singles ops) ≡ Blob) ⊎ (op_at ops (singles ops) ≡ Array) → drop (singles ops) ops ≡ Blob ∷ drop (singles ops + 1) ops
    is (inl all) = absurd (omega (arith, all, last))
    is (inr (inl blob)) = from_index ops (singles ops) (omega (arith, last)) ∙ ap (λ (op : Op). op ∷ drop (singles ops + 1) ops) blob
    is (inr (inr array)) = absurd (omega (arith, last, h.array (singles ops) array))

pub array_behind : (ops : List Op) → OthersInOrder ops → singles ops + 1 < length ops → (drop (singles ops) ops ≡ Array ∷ op_at ops (singles ops + 1) ∷ drop (singles ops + 1 + 1) ops) × IsElement (op_at ops (singles ops + 1))
array_behind ops h less = is (behind ops)
  where
    is : (singles ops ≡ length ops) ⊎ (op_at ops (singles ops) ≡ Blob) ⊎ (op_at ops (singles ops) ≡ Array) → (drop (singles ops) ops ≡ Array ∷ op_at ops (singles ops + 1) ∷ drop (singles ops + 1 + 1) ops) × IsElement (op_at ops (singles ops + 1))
    is (inl all) = absurd (omega (arith, all, less))
    is (inr (inl blob)) = absurd (omega (arith, less, h.blob (singles ops) blob))
    is (inr (inr array)) = (from_index ops (singles ops) (omega (arith, less)) ∙ ap (λ (op : Op). op ∷ drop (singles ops + 1) ops) array ∙ ap (λ (others : List Op). Array ∷ others) (from_index ops (singles ops + 1) less), h.element (singles ops) array)

-- the first values fail, or they are all, or those after them complete all
pub front_fails : (room : ℕ) (ops : List Op) (a : Reader) (fault : Fault) (before after : List ℕ) (c : Reader) → AddsFirst (room - singles ops) (take (singles ops) ops) (drop (singles ops) ops) a (Err fault) c before after → AddsFew (values_of (room - singles ops) ops) room a (Err fault) c before after
front_fails room ops a fault before after c h = (subst (λ (all : List Op). Adds (values_of (room - singles ops) all) a (Err fault) before after c) (take-append-drop (singles ops) ops) h, tt)

pub front_then : (room : ℕ) (ops : List Op) (a b : Reader) (before now new : List ℕ) (result : Result (Unit {0}) Fault) (c : Reader) → singles ops ≤ room → AddsFirst (room - singles ops) (take (singles ops) ops) (drop (singles ops) ops) a (Ok tt) b before now → AddsFew (values_of (room - singles ops) (drop (singles ops) ops)) (room - singles ops) b result c now new → AddsFew (values_of (room - singles ops) ops) room a result c before new
front_then room ops a b before now new result c fits h k = (subst (λ (all : List Op). Adds (values_of (room - singles ops) all) a result before new c) (take-append-drop (singles ops) ops) (h.0.so result new c k.0), few result k.1)
  where
    few : (result : Result (Unit {0}) Fault) → OnOk result (length new ≤ length now + (room - singles ops)) → OnOk result (length new ≤ length before + room)
    few (Ok x) most = omega (arith, most, fits, h.1, length-take-le (singles ops) ops (singles_within ops))
    few (Err fault) most = tt

pub no_values : (room : ℕ) (a : Reader) (now : List ℕ) → a.live ≡ true → Adds (values_of room []) a (Ok tt) now now a
unfolding values_of
no_values room a now live = adds_none a now live

pub front_is_all : (room : ℕ) (ops : List Op) (a c : Reader) (before after : List ℕ) → singles ops ≤ room → length ops ≤ singles ops → AddsFirst (room - singles ops) (take (singles ops) ops) (drop (singles ops) ops) a (Ok tt) c before after → AddsFew (values_of (room - singles ops) ops) room a (Ok tt) c before after
front_is_all room ops a c before after fits all h = front_then room ops a c before after after (Ok tt) c fits h (subst (λ (tail : List Op). Adds (values_of (room - singles ops) tail) c (Ok tt) after after c) (sym (drop_all (singles ops) ops all)) (no_values (room - singles ops) c after h.0.live), omega arith)

-- ---- a record

-- a record's fields, once its single values fit the room
abbrev fields_of : ℕ → Op → List Op → Grammar CodeAndValues
fields_of room op others = scalar op >>= λ code. values_of (room - singles others) others >>= λ values. gives (record { code = code; values = values })

abbrev judged : (first room : ℕ) → List Op → Grammar (Unit {0})
judged first room others = test (nat_le (singles others) room) (at TooManyValues first)

-- what follows a record's code
abbrev values_after : (room : ℕ) → List Op → ℕ → Grammar CodeAndValues
values_after room others code = values_of (room - singles others) others >>= λ values. gives (record { code = code; values = values })

pub record_crowded : (first room : ℕ) (op : Op) (others : List Op) (a : Reader) (fault : Fault) (now : List ℕ) (c : Reader) → Why (judged first room others) a fault c → AddsRecord (abbreviated first room (op ∷ others)) a (Err fault) now now c
unfolding abbreviated
record_crowded first room op others a fault now c why = ([], sym (append-nil now), fault_then (judged first room others) (λ holds. fields_of room op others) a fault c why)

pub record_coded : (first room : ℕ) (op : Op) (others : List Op) (a b : Reader) (fault : Fault) (now : List ℕ) (c : Reader) → Took (judged first room others) a tt b → Why (scalar op) b fault c → AddsRecord (abbreviated first room (op ∷ others)) a (Err fault) now now c
unfolding abbreviated
record_coded first room op others a b fault now c few why = ([], sym (append-nil now), took_then (judged first room others) (λ holds. fields_of room op others) a tt b (Err fault) c few (fault_then (scalar op) (values_after room others) b fault c why))

pub record_fails : (first room : ℕ) (op : Op) (others : List Op) (a b : Reader) (code : ℕ) (d : Reader) (fault : Fault) (now new : List ℕ) (c : Reader) → Took (judged first room others) a tt b → Took (scalar op) b code d → Adds (values_of (room - singles others) others) d (Err fault) now new c → AddsRecord (abbreviated first room (op ∷ others)) a (Err fault) now new c
unfolding abbreviated
record_fails first room op others a b code d fault now new c few t h = (
  h.0,
  h.1,
  took_then (judged first room others) (λ holds. fields_of room op others) a tt b (Err fault) c few (took_then (scalar op) (values_after room others) b code d (Err fault) c t (fault_then (values_of (room - singles others) others) (λ values. gives (record { code = code; values = values })) d fault c h.2)),
)

pub record_read : (first room : ℕ) (op : Op) (others : List Op) (a b : Reader) (code : ℕ) (d : Reader) (now new : List ℕ) (c : Reader) → Took (judged first room others) a tt b → Took (scalar op) b code d → Adds (values_of (room - singles others) others) d (Ok tt) now new c → AddsRecord (abbreviated first room (op ∷ others)) a (Ok code) now new c
unfolding abbreviated
record_read first room op others a b code d now new c few t h = (
  h.0,
  h.1,
  took_then (judged first room others) (λ holds. fields_of room op others) a tt b (Ok (record { code = code; values = h.0 })) c few (took_then (scalar op) (values_after room others) b code d (Ok (record { code = code; values = h.0 })) c t (and_gives (values_of (room - singles others) others) (λ values. record { code = code; values = values }) d (Ok h.0) c h.2)),
)

-- ---- the first operand and those after it

pub in_parts : (ops : List Op) → 1 ≤ length ops → ops ≡ op_at ops 0 ∷ others_of ops
in_parts [] some = absurd (omega (arith, some))
in_parts (op ∷ others) some =
    let same : take (suc (length others) - 1) others ≡ others = take_all (suc (length others) - 1) others (omega arith) in
    ap (λ (rest : List Op). op ∷ rest) (sym same)

pub others_in_order : (ops : List Op) → 1 ≤ length ops → Lawful ops → OthersInOrder (others_of ops)
others_in_order ops some h = later (op_at ops 0) (others_of ops) (subst OthersInOrder (in_parts ops some) (record { array = h.order.array; element = h.order.element; blob = h.order.blob }))

-- ---- what follows those that stand for one value each

pub tail_array : (ops : List Op) → 1 ≤ length ops → Lawful ops → 2 ≤ length (others_of ops) → op_at (others_of ops) (length (others_of ops) - 2) ≡ Array → HasTail ops tail.Array
tail_array ops some h two is = omega (arith, ap length (in_parts ops some), counted_array (others_of ops) (others_in_order ops some h) two is, two)

pub tail_blob : (ops : List Op) → 1 ≤ length ops → Lawful ops → (2 ≤ length (others_of ops) → op_at (others_of ops) (length (others_of ops) - 2) ≡ Array → ⊥) → 1 ≤ length (others_of ops) → op_at (others_of ops) (length (others_of ops) - 1) ≡ Blob → HasTail ops tail.Blob
tail_blob ops some h none one is = omega (arith, ap length (in_parts ops some), counted_blob (others_of ops) (others_in_order ops some h) none one is, one)

pub tail_nothing : (ops : List Op) → 1 ≤ length ops → Lawful ops → (2 ≤ length (others_of ops) → op_at (others_of ops) (length (others_of ops) - 2) ≡ Array → ⊥) → (1 ≤ length (others_of ops) → op_at (others_of ops) (length (others_of ops) - 1) ≡ Blob → ⊥) → HasTail ops tail.Nothing
tail_nothing ops some h none no_blob = omega (arith, ap length (in_parts ops some), counted_all (others_of ops) (others_in_order ops some h) none no_blob)
