-- Rules whose readings have numbers of 64 bits: the values that they read, and the bits of their faults.
use Rattle.std.proofs.Common.{◌≡◌, ℕ, zero, suc, ◌+◌, ◌-◌, ◌^◌, ◌<◌, ◌≤◌, Bool, true, false, ltb, List, [], ◌∷◌, length, take, drop, Result, Ok, Err, refl, subst, arith}
use Rattle.std.specs.Prelude.{if◌then◌else◌}
use Rattle.std.specs.List.{AllByRecursion}
use Rattle.std.proofs.lemmas.Bool.{ltb-true, ltb-false, leb-true, eqb-false, not-true, and_parts}
use Rattle.std.proofs.lemmas.Bool.Decides.{nat_tests}
use Rattle.std.proofs.lemmas.List.{length-take, length-drop}
use Rattle.bit_grammar.specs.declared.op.Op.{Op}
use Rattle.bit_grammar.specs.declared.op.Op.TheVariants.{Literal, Fixed, Vbr, Array, Char6, Blob}
use Rattle.bit_grammar.specs.declared.op.Kind.{Kind}
use Rattle.bit_grammar.specs.declared.op.Kind.TheVariants.{Literal as literal, Fixed as fixed_width, Vbr as vbr_width, Array as array, Char6 as char6_kind, Blob as blob}
use Rattle.bit_grammar.specs.declared.op.Place.{Place}
use Rattle.bit_grammar.specs.declared.op.Place.TheVariants.{First as first_place}
use Rattle.bit_grammar.specs.declared.shapes.Shapes.{Shapes}
use Rattle.bit_grammar.specs.Bits.{number}
use Rattle.bit_grammar.specs.Grammar.{Fault, Grammar, gives, refuses, position, next_bits, test, choose, ◌>>=◌, ◌and_then◌, repeat, reading}
use Rattle.bit_grammar.specs.Fields.{fixed, chunks, vbr, char6, zeros, padding_length, align32, byte}
use Rattle.bit_grammar.specs.Terms.{chunk_limit, character, CodeAndValues}
use Rattle.bit_grammar.specs.Definition.{encoding, kind, valued, operand, place_after, operands, definition}
use Rattle.bit_grammar.specs.FormatDefinition.{HasLawfulValue, Definable}
use Rattle.bit_grammar.specs.Record.{value_count, unabbreviated, scalar, singles, values_of, abbreviated}
use Rattle.bit_grammar.proofs.Bits.Numbers.{number_below, parts_below, pow_mono}

-- ---- rules

-- a value with this property, and less than 2 ^ 64 bits up to the end; or the fault is at such a bit
abbrev pub IsFine : {A : Type 0} → (A → Type 0) → Result (A × ℕ × List Bool) Fault → Type 0
IsFine Good (Ok x) = Good x.0 × (x.1 + length x.2 < 2 ^ 64)
IsFine Good (Err fault) = fault.bit < 2 ^ 64

pub record Reads {A : Type 0} (rule : Grammar A) (Good : A → Type 0) : Type 0 where
  pub fine : (p : ℕ) (r : List Bool) → p + length r < 2 ^ 64 → IsFine Good (reading rule p r)

pub given : {A : Type 0} {Good : A → Type 0} {v : A} → Good v → Reads (gives v) Good
given good = record { fine = λ p r within. (good, within) }

pub refused : {A : Type 0} {Good : A → Type 0} {fault : Fault} → fault.bit < 2 ^ 64 → Reads (refuses fault) Good
refused small = record { fine = λ p r within. small }

pub here : Reads position (λ p. p < 2 ^ 64)
here = record { fine = λ p r within. (omega (arith, within), within) }

pub bits : (n : ℕ) (fault : Fault) → fault.bit < 2 ^ 64 → Reads (next_bits n fault) (λ s. length s ≡ n)
bits n fault small = record { fine = λ p r within. go p r within (ltb (length r) n) refl }
  where
    go : (p : ℕ) (r : List Bool) → p + length r < 2 ^ 64 → (few : Bool) → ltb (length r) n ≡ few → IsFine (λ s. length s ≡ n) (if few then Err fault else Ok (take n r, p + n, drop n r))
    go p r within true e = small
    go p r within false e = (let enough = ltb-false (length r) n e in (omega (arith, enough, length-take n r), omega (arith, enough, within, length-drop n r)))

pub judged : {holds : Bool} {fault : Fault} → fault.bit < 2 ^ 64 → Reads (test holds fault) (λ v. holds ≡ true)
judged {holds} {fault} small = record { fine = λ p r within. go p r within holds }
  where
    go : (p : ℕ) (r : List Bool) → p + length r < 2 ^ 64 → (b : Bool) → IsFine (λ v. b ≡ true) (if b then Ok (tt {0}, p, r) else Err fault)
    go p r within true = (refl, within)
    go p r within false = small

pub either : {A : Type 0} {Good : A → Type 0} {b : Bool} {one other : Grammar A} → (b ≡ true → Reads one Good) → (b ≡ false → Reads other Good) → Reads (choose b one other) Good
either {Good = Good} {b = b} {one = one} {other = other} first second = record { fine = λ p r within. go p r within b refl }
  where
    go : (p : ℕ) (r : List Bool) → p + length r < 2 ^ 64 → (c : Bool) → b ≡ c → IsFine Good (if c then reading one p r else reading other p r)
    go p r within true e = (first e).fine p r within
    go p r within false e = (second e).fine p r within

pub next : {A B : Type 0} {rule : Grammar A} {after : A → Grammar B} {Good : A → Type 0} {Then : B → Type 0} → Reads rule Good → ((x : A) → Good x → Reads (after x) Then) → Reads (rule >>= after) Then
next {rule = rule} {after = after} {Good = Good} {Then = Then} first others = record { fine = λ p r within. go (reading rule p r) (first.fine p r within) }
  where
    go : (read : Result (_ × ℕ × List Bool) Fault) → IsFine Good read → IsFine Then (read and_then λ x. reading (after x.0) x.1 x.2)
    go (Ok x) fine = (others x.0 fine.0).fine x.1 x.2 fine.1
    go (Err fault) fine = fine

pub weaker : {A : Type 0} {rule : Grammar A} {Good Better : A → Type 0} → ((x : A) → Good x → Better x) → Reads rule Good → Reads rule Better
weaker {rule = rule} {Good = Good} {Better = Better} better all = record { fine = λ p r within. go (reading rule p r) (all.fine p r within) }
  where
    go : (read : Result (_ × ℕ × List Bool) Fault) → IsFine Good read → IsFine Better read
    go (Ok x) fine = (better x.0 fine.0, fine.1)
    go (Err fault) fine = fine

-- ---- fields

abbrev pub Is64 : ℕ → Type 0
Is64 v = v < 2 ^ 64

abbrev pub Any : {A : Type 0} → A → Type 0
Any v = Unit {0}

pub fixed_read : (n : ℕ) → Reads (fixed n) (λ v. v < 2 ^ n)
unfolding fixed
fixed_read n = next here λ first small. next (bits n _ small) λ s len. given (subst (λ (k : ℕ). number s < 2 ^ k) len (number_below s))

pub fixed_64 : (n : ℕ) → n ≤ 64 → Reads (fixed n) Is64
fixed_64 n few = weaker (λ v below. omega (arith, below, pow_mono n 64 few)) (fixed_read n)

chunks_read : (payload first permitted places : ℕ) → first < 2 ^ 64 → Reads (chunks payload first permitted places) (λ v. v < 2 ^ places)
chunks_read payload first zero places small = refused small
chunks_read payload first (suc permitted) places small =
    next (bits (suc payload) _ small) λ chunk len. next (judged small) λ _ fits.
    let below = ltb-true (number (take payload chunk)) (2 ^ places) fits in
    either (λ more. next (chunks_read payload first permitted (places - payload) small) λ high rest. given (parts_below _ high payload places (low chunk len) below rest)) (λ last. given below)
  where
    low : (chunk : List Bool) → length chunk ≡ suc payload → number (take payload chunk) < 2 ^ payload
    low chunk len = subst (λ (k : ℕ). number (take payload chunk) < 2 ^ k) (omega (arith, length-take payload chunk, len)) (number_below (take payload chunk))

pub vbr_read : (n : ℕ) → Reads (vbr n) Is64
unfolding vbr
vbr_read zero = given (omega arith)
vbr_read (suc payload) = next here λ first small. chunks_read payload first (chunk_limit payload) 64 small

character_64 : (c : ℕ) → c < 2 ^ 6 → character c < 2 ^ 64
character_64 c small = grind (arith, nat_tests)

char6_read : Reads char6 Is64
unfolding char6
char6_read = next (fixed_read 6) λ c small. given (character_64 c small)

zeros_read : (first count : ℕ) → first < 2 ^ 64 → Reads (zeros first count) Any
zeros_read first zero small = given tt
zeros_read first (suc count) small = next here λ bit at. next (bits 1 _ small) λ s len. next (judged at) λ _ held. zeros_read first count small

pub align_read : Reads align32 Any
unfolding align32
align_read = next here λ first small. zeros_read first (padding_length first) small

byte_read : Reads byte Is64
unfolding byte
byte_read = fixed_64 8 (omega arith)

-- ---- definitions

encoding_read : (first n : ℕ) → first < 2 ^ 64 → Reads (encoding first n) Any
encoding_read first n small = either (λ _. given tt) (λ _. either (λ _. given tt) (λ _. either (λ _. given tt) (λ _. either (λ _. given tt) (λ _. either (λ _. given tt) (λ _. refused small)))))

kind_read : Reads kind Any
unfolding kind
kind_read = next (fixed_read 1) λ flag _. either (λ _. given tt) (λ _. next here λ first small. next (fixed_read 3) λ n _. encoding_read first n small)

valued_read : (k : Kind) → Reads (valued k) HasLawfulValue
unfolding valued
valued_read literal = next (vbr_read 8) λ v small. given small
valued_read fixed_width = next here λ first small. next (vbr_read 5) λ width _. next (judged small) λ _ held. given (leb-true width 32 held)
valued_read vbr_width = next here λ first small. next (vbr_read 5) λ width _. next (judged small) λ _ held. (let both = and_parts _ _ held in given (leb-true width 32 both.0, eqb-false width 1 (not-true _ both.1)))
valued_read array = given tt
valued_read char6_kind = given tt
valued_read blob = given tt

operand_read : (shapes : Shapes) (place : Place) (after : ℕ) → Reads (operand shapes place after) HasLawfulValue
unfolding operand
operand_read shapes place after = next here λ first small. next kind_read λ k _. next (judged small) λ _ held. valued_read k

abbrev AreLawful : (count : ℕ) → List Op → Type 0
AreLawful count ops = (length ops ≡ count) × AllByRecursion HasLawfulValue ops

operands_read : (shapes : Shapes) (count : ℕ) (place : Place) → Reads (operands shapes count place) (AreLawful count)
unfolding operands
operands_read shapes zero place = given (refl, tt)
operands_read shapes (suc after) place = next (operand_read shapes place after) λ op one. next (operands_read shapes after (place_after op)) λ others all. given (omega (arith, all.0), (one, all.1))

pub definition_read : (shapes : Shapes) → Reads (definition shapes) Definable
unfolding definition
definition_read shapes = next here λ first small. next (vbr_read 5) λ count _. next (judged small) λ _ some.
    weaker (λ ops all. record { some = omega (arith, all.0, ltb-true 0 count some); values = all.1 }) (operands_read shapes count first_place)

-- ---- records

-- at most so many values, each of 64 bits
pub record AreFew (most : ℕ) (vs : List ℕ) : Type 0 where
  pub count : length vs ≤ most
  pub all : AllByRecursion Is64 vs

one_more : {most v : ℕ} {vs : List ℕ} → Is64 v → AreFew most vs → AreFew (suc most) (v ∷ vs)
one_more small few = record { count = omega (arith, few.count); all = (small, few.all) }

repeat_read : {rule : Grammar ℕ} (count : ℕ) → Reads rule Is64 → Reads (repeat count rule) (AreFew count)
repeat_read zero one = given (record { count = omega arith; all = tt })
repeat_read (suc count) one = next one λ first small. next (repeat_read count one) λ others few. given (one_more small few)

count_read : (room : ℕ) → Reads (value_count room) (λ count. count ≤ room)
unfolding value_count
count_read room = next here λ place small. next (vbr_read 6) λ count _. next (judged small) λ _ held. given (leb-true count room held)

fewer : {few many : ℕ} → few ≤ many → (vs : List ℕ) → AreFew few vs → AreFew many vs
fewer less vs values = record { count = omega (arith, less, values.count); all = values.all }

-- a code of 64 bits, and such values
pub record IsEntry (room : ℕ) (e : CodeAndValues) : Type 0 where
  pub code : Is64 e.code
  pub values : AreFew room e.values

pub unabbreviated_read : (room : ℕ) → Reads (unabbreviated room) (IsEntry room)
unfolding unabbreviated
unabbreviated_read room = next (vbr_read 6) λ code small. next (count_read room) λ count fits. next (repeat_read count (vbr_read 6)) λ values few. given (record { code = small; values = fewer fits values few })

scalar_read : (op : Op) → HasLawfulValue op → Reads (scalar op) Is64
unfolding scalar
scalar_read (Literal v) lawful = given lawful
scalar_read (Fixed width) lawful = fixed_64 width (omega (arith, lawful))
scalar_read (Vbr width) lawful = vbr_read width
scalar_read Char6 lawful = char6_read
scalar_read Array lawful = given (omega arith)
scalar_read Blob lawful = given (omega arith)

one_then : (room : ℕ) (op : Op) (others : List Op) → HasLawfulValue op → Reads (values_of room others) (AreFew (singles others + room))
    → Reads (scalar op >>= λ value. values_of room others >>= λ values. gives (value ∷ values)) (AreFew (suc (singles others) + room))
one_then room op others lawful rest = next (scalar_read op lawful) λ value small. next rest λ values few. given (fewer (omega arith) _ (one_more small few))

values_read : (room : ℕ) (ops : List Op) → AllByRecursion HasLawfulValue ops → Reads (values_of room ops) (AreFew (singles ops + room))
unfolding values_of
values_read room [] lawful = given (record { count = omega arith; all = tt })
values_read room (Array ∷ []) lawful = given (record { count = omega arith; all = tt })
values_read room (Array ∷ element ∷ others) lawful = next (count_read room) λ count fits. weaker (fewer (omega (arith, fits))) (repeat_read count (scalar_read element lawful.1.0))
values_read room (Blob ∷ others) lawful = next (count_read room) λ count fits. next align_read λ _ _. next (repeat_read count byte_read) λ values few. next align_read λ _ _. given (fewer (omega (arith, fits)) values few)
values_read room (Literal v ∷ others) lawful = one_then room (Literal v) others lawful.0 (values_read room others lawful.1)
values_read room (Fixed width ∷ others) lawful = one_then room (Fixed width) others lawful.0 (values_read room others lawful.1)
values_read room (Vbr width ∷ others) lawful = one_then room (Vbr width) others lawful.0 (values_read room others lawful.1)
values_read room (Char6 ∷ others) lawful = one_then room Char6 others lawful.0 (values_read room others lawful.1)

pub abbreviated_read : (first room : ℕ) (ops : List Op) → first < 2 ^ 64 → AllByRecursion HasLawfulValue ops → Reads (abbreviated first room ops) (IsEntry room)
unfolding abbreviated
abbreviated_read first room [] small lawful = given (record { code = omega arith; values = record { count = omega arith; all = tt } })
abbreviated_read first room (op ∷ others) small lawful =
    next (judged small) λ _ held. next (scalar_read op lawful.0) λ code one. next (values_read (room - singles others) others lawful.1) λ values few.
    given (record { code = one; values = fewer (omega (arith, leb-true (singles others) room held)) values few })
