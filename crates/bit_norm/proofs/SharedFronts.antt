-- Two inputs that begin with the same bytes have the same first events.
use Rattle.std.proofs.Common.{◌≡◌, ℕ, ◌+◌, ◌-◌, ◌*◌, ◌^◌, ◌<◌, ◌≤◌, Bool, true, List, [], ◌∷◌, ◌++◌, length, take, drop, Option, Some, None, Ok, refl, sym, ap, subst, ◌∙◌, append_assoc, arith, inl, inr}
use Rattle.std.specs.Io.{StartsWith}
use Rattle.std.proofs.Math.Seq.{take-append_seam, take-append-add}
use Rattle.std.proofs.lemmas.Grind.{flat_map-append}
use Rattle.std.proofs.lemmas.List.{length-append, length-take, length-take-le, take_all, take-append-le, take-append-drop, append_cancel_left, append-nil}
use Rattle.bit_grammar.specs.Bits.{bits_of, bits_of_bytes}
use Rattle.bit_grammar.specs.Grammar.{Grammar, gives, position, choose, ◌>>=◌, Spells}
use Rattle.bit_grammar.specs.Marks.{RecordMark, DefinitionMark}
use Rattle.bit_grammar.specs.Blocks.{Limits, Handed, Scope, BlockHead, block_head, end_of_block, define, describe, record_after}
use Rattle.bit_grammar.specs.declared.shapes.Shapes.{Shapes}
use Rattle.bit_grammar.specs.Terms.{CodeAndValues, BlockInfo, Head, Marked}
use Rattle.bit_grammar.specs.Input.{front_of, SpellsInput}
use Rattle.bit_grammar.specs.Machine.{Event, flat, Frame, Ending, Machine, at_start, open_block, open_nested, step_after, step_in, step_top, step_of, accepted, Told, to_come}
use Rattle.bit_grammar.specs.Normal.{Capped}
use Rattle.bit_grammar.specs.Steps.{Steps, Leads}
use Rattle.bit_grammar.specs.Outlook.{Outlook}
use Rattle.bit_grammar.specs.Happening.{Heads, bare, in_wrapper, EventsIn, HasEvents}
use Rattle.bit_norm.specs.Fronts.{ends_at, EndWithin, SharesFront}
use Rattle.bit_grammar.proofs.Bits.Bytes.{bytes_length}
use Rattle.bit_grammar.proofs.Readings.Deciding.{position-first}
use Rattle.bit_grammar.proofs.Readings.Sequences.{made}
use Rattle.bit_grammar.proofs.Events.Steps.{told_steps, steps_after, steps_parted, leads_on}
use Rattle.bit_grammar.proofs.Events.Telling.{told_if_spelled}
use Rattle.bit_grammar.proofs.Events.Happenings.{events_if_told}

-- ---- the bit after what a rule spells

-- this bit of the value is the one after what the rule takes
record Ends {A : Type 0} (bit : A → ℕ) (rule : Grammar A) : Type 0 where
  is : (p : ℕ) (s : List Bool) (v : A) → Spells rule p s v → bit v ≡ p + length s

-- by the last part
then_ends : {A B : Type 0} {bit : B → ℕ} {rule : Grammar A} {after : A → Grammar B} → ((x : A) → Ends bit (after x)) → Ends bit (rule >>= after)
then_ends more = record { is = λ p s v h. (let last = (more h.2).is (p + length h.0) h.1 v h.5 in omega (arith, last, ap length h.3, length-append h.0 h.1)) }

-- by a function of the value
made_ends : {A B : Type 0} {bit : A → ℕ} {other : B → ℕ} {rule : Grammar A} {make : A → B} → Ends bit rule → ((x : A) → other (make x) ≡ bit x) → Ends other (rule >>= λ x. gives (make x))
made_ends {other = other} {rule = rule} {make = make} ends same = record { is = λ p s v h. (let k = made rule make p s v h in ap other k.2 ∙ same k.0 ∙ ends.is p s k.0 k.1) }

-- whichever is chosen
either_ends : {A : Type 0} {bit : A → ℕ} {b : Bool} {one_rule other_rule : Grammar A} → Ends bit one_rule → Ends bit other_rule → Ends bit (choose b one_rule other_rule)
either_ends {bit = bit} {b = b} {one_rule = one_rule} {other_rule = other_rule} one other = record { is = by_choice }
  where
    by_choice : (p : ℕ) (s : List Bool) (v : _) → Spells (choose b one_rule other_rule) p s v → bit v ≡ p + length s
    by_choice p s v (inl h) = one.is p s v h.1
    by_choice p s v (inr h) = other.is p s v h.1

-- by the position, if nothing is taken after it
here_ends : {A : Type 0} {bit : A → ℕ} {after : ℕ → Grammar A} → ((q : ℕ) (s : List Bool) (v : A) → Spells (after q) q s v → (s ≡ []) × (bit v ≡ q)) → Ends bit (position >>= after)
here_ends {after = after} none = record { is = λ p s v h. (let k = none p s v (position-first after p s v h) in omega (arith, k.1, ap length k.0)) }

-- two parts of no bits
no_parts : (s a b : List Bool) → s ≡ a ++ b → a ≡ [] → b ≡ [] → s ≡ []
no_parts s a b parts one two = parts ∙ ap (λ (t : List Bool). t ++ b) one ∙ two

-- ---- the bit after a step

head_ends : Ends (λ (h : BlockHead). h.body) block_head
unfolding block_head
head_ends = then_ends (λ id. then_ends (λ width. then_ends (λ u. then_ends (λ at. then_ends (λ words. here_ends (λ q s v h. (h.0, ap (λ (x : BlockHead). x.body) h.1)))))))

end_ends : (h : BlockHead) → Ends (λ (after : ℕ). after) (end_of_block h)
unfolding end_of_block
end_ends h = then_ends (λ u. here_ends (λ q s v k. (no_parts s k.0 k.1 k.3 k.4.0 k.5.0, k.5.1)))

definition_ends : (shapes : Shapes) (first : ℕ) (scope : Scope) → Ends (λ (v : DefinitionMark × Scope). v.0.after) (define shapes first scope)
unfolding define
definition_ends shapes first scope = then_ends (λ u. then_ends (λ ops. here_ends (λ q s v h. (h.0, ap (λ (x : DefinitionMark × Scope). x.0.after) h.1))))

-- the described block is told by no bits
no_bits : (info : Option BlockInfo) (first : ℕ) (e : CodeAndValues) (p : ℕ) (s : List Bool) (v : Option BlockInfo) → Spells (describe info first e) p s v → s ≡ []
unfolding describe
no_bits None first e p s v h = h.0
no_bits (Some info) first e p s v (inl h) = (let k = h.1 in no_parts s k.0 k.1 k.3 k.4.0 k.5.0)
no_bits (Some info) first e p s v (inr h) = (let k = h.1 in no_parts s k.0 k.1 k.3 k.4.0 k.5.0)

record_ends : (limit first id : ℕ) (scope : Scope) → Ends (λ (v : RecordMark × Scope). v.0.after) (record_after limit first id scope)
unfolding record_after
record_ends limit first id scope = then_ends (λ e. here_ends (λ q s v h. (no_parts s h.0 h.1 h.3 (no_bits scope.info first e q h.0 h.2 h.4) h.5.0, ap (λ (x : RecordMark × Scope). x.0.after) h.5.1)))

-- the bit after the event
abbrev event_end : Event × Machine → ℕ
event_end v = ends_at v.0

open_ends : (limits : Limits) (frames : List Frame) (first : ℕ) (handed : Handed) → Ends event_end (open_block limits frames first handed)
unfolding open_block
open_ends limits frames first handed = then_ends (λ u. made_ends head_ends (λ h. refl))

after_ends : (limits : Limits) (h : BlockHead) (frames : List Frame) (first : ℕ) (scope : Scope) (id : ℕ) → Ends event_end (step_after limits h frames first scope id)
unfolding step_after open_nested
after_ends limits h frames first scope id =
    either_ends (made_ends (end_ends h) (λ x. refl))
    (either_ends (then_ends (λ u. open_ends limits _ first scope.handed))
    (either_ends (made_ends (definition_ends limits.shapes first scope) (λ x. refl)) (made_ends (record_ends limits.values first id scope) (λ x. refl))))

step_ends : (limits : Limits) (frames : List Frame) (handed : Handed) → Ends event_end (step_of limits frames handed)
unfolding step_in step_top
step_ends limits [] handed = then_ends (λ first. then_ends (λ id. then_ends (λ u. open_ends limits [] first handed)))
step_ends limits (f ∷ frames) handed = then_ends (λ first. then_ends (λ id. after_ends limits f.head frames first _ id))

-- the steps of events that end within a bit take no bit after it
leads_within : (bit : ℕ) (limits : Limits) (m new : Machine) (p : ℕ) (s : List Bool) (event : Event) (events : List Event) → Leads limits m p s (event ∷ events) new → EndWithin bit (event ∷ events) → p + length s ≤ bit
leads_within bit limits m new p s event [] h within =
    let at = (step_ends limits m.frames m.handed).is p h.0 (event, h.2) h.5 in
    omega (arith, at, within.0, ap length h.3, length-append h.0 h.1, ap length h.6.0)
leads_within bit limits m new p s event (next ∷ events) h within =
    let more = leads_within bit limits h.2 new (p + length h.0) h.1 next events h.6 within.1 in
    omega (arith, more, ap length h.3, length-append h.0 h.1)

-- all events end within the bits of their steps
steps_within : (bit : ℕ) (limits : Limits) (m : Machine) (p : ℕ) (r : List Bool) (events : List Event) (ending : Ending) → Steps limits m p r events ending → p + length r ≤ bit → EndWithin bit events
steps_within bit limits m p r [] ending h le = tt
steps_within bit limits m p r (event ∷ events) ending h le =
    let at = (step_ends limits m.frames m.handed).is p h.0 (event, h.2) h.5 in
    let parts : length r ≡ length h.0 + length h.1 = ap length h.3 ∙ length-append h.0 h.1 in
    (omega (arith, at, parts, le), steps_within bit limits h.2 (p + length h.0) h.1 events ending h.6 (omega (arith, parts, le)))

-- ---- streams that begin with the same bits

-- what stands within the shared bits stands in the other list too
shared_first : (a rest c x y bits other : List Bool) → bits ≡ a ++ rest → bits ≡ c ++ x → other ≡ c ++ y → length a ≤ length c → (more : List Bool) × (other ≡ a ++ more)
shared_first a rest c x y bits other parts one two le =
    let front : take (length a) c ≡ a = sym (take-append-le (length a) c x le) ∙ ap (take (length a)) (sym one ∙ parts) ∙ take-append_seam a rest in
    let all : c ≡ a ++ drop (length a) c = sym (take-append-drop (length a) c) ∙ ap (λ (t : List Bool). t ++ drop (length a) c) front in
    (drop (length a) c ++ y, two ∙ ap (λ (t : List Bool). t ++ y) all ∙ append_assoc a (drop (length a) c) y)

-- the first n bits, if they are more than those of a first part
take_past : (n : ℕ) (a b : List Bool) → length a ≤ n → take n (a ++ b) ≡ a ++ take (n - length a) b
take_past n a b le = ap (λ (k : ℕ). take k (a ++ b)) (let e : n ≡ length a + (n - length a) = omega (arith, le) in e) ∙ take-append-add a b (n - length a)

in_front : (a b c d : List Bool) → a ++ (b ++ (c ++ d)) ≡ (a ++ (b ++ c)) ++ d
in_front a b c d = simp append_assoc refl

-- a head before shared bits is the other's head too
shared_head : (bits other c x y : List Bool) (head : Head) (p : ℕ) (first rest : List Bool) → bits ≡ c ++ x → other ≡ c ++ y → p + length first ≤ length c → Heads bits head p (first ++ rest) → (more : List Bool) × Heads other head p (first ++ more)
shared_head bits other c x y head p first rest one two le (bare magic parts spelled is none place) =
    let same = shared_first (magic ++ first) rest c x y bits other (parts ∙ sym (append_assoc magic first rest)) one two (omega (arith, le, place, length-append magic first)) in
    (same.0, bare magic (same.1 ∙ append_assoc magic first same.0) spelled is none place)
shared_head bits other c x y head p first rest one two le (in_wrapper w front header after magic parts spelled gap within inner has place) =
    let size = 8 * w.size in
    let all : after ≡ (magic ++ first) ++ (rest ++ drop size after) = sym (take-append-drop size after) ∙ ap (λ (t : List Bool). t ++ drop size after) (within ∙ sym (append_assoc magic first rest)) ∙ append_assoc (magic ++ first) rest (drop size after) in
    let fits : length magic + length first ≤ size = omega (arith, ap length within, length-take size after, length-append magic (first ++ rest), length-append first rest) in
    let same = shared_first (front ++ (header ++ (magic ++ first))) (rest ++ drop size after) c x y bits other (parts ∙ ap (λ (t : List Bool). front ++ (header ++ t)) all ∙ in_front front header (magic ++ first) _) one two
    (omega (arith, le, place, length-append front (header ++ (magic ++ first)), length-append header (magic ++ first), length-append magic first)) in
    let stream = take_past size (magic ++ first) same.0 (omega (arith, fits, length-append magic first)) ∙ append_assoc magic first _ in
    (take (size - length (magic ++ first)) same.0, in_wrapper w front header ((magic ++ first) ++ same.0) magic (same.1 ∙ sym (in_front front header (magic ++ first) same.0)) spelled gap stream inner has place)

-- the first events of a stream, if they end within the shared bits, are the first events of the other one
shared_events : (limits : Limits) (bits other c x y : List Bool) (head : Head) (event : Event) (events rest : List Event) → bits ≡ c ++ x → other ≡ c ++ y → EndWithin (length c) (event ∷ events) → EventsIn limits bits head (event ∷ (events ++ rest))
    → (others : List Event) × EventsIn limits other head (event ∷ (events ++ others))
shared_events limits bits other c x y head event events rest one two within (p, r, ending, heads, h) =
    let part = steps_parted limits at_start p r (event ∷ events) rest ending h in
    let first = part.0 in
    let new = part.2 in
    let le = leads_within (length c) limits at_start new p first event events part.4 within in
    let same = shared_head bits other c x y head p first part.1 one two le (subst (Heads bits head p) part.3 heads) in
    let told = to_come limits new (p + length first) same.0 in
    let more = told_steps limits new (p + length first) same.0 told.0 told.1 (leads_on limits at_start new p first (event ∷ events) tt part.4) refl in
    (told.0, (p, first ++ same.0, told.1, same.1, steps_after limits at_start new p first same.0 (event ∷ events) told.0 told.1 part.4 more))

-- ---- inputs

told_is : (a b : Head × Told) → ◌≡◌ {A = Outlook} (Ok a) (Ok b) → a ≡ b
told_is a b e = cc

-- the bits of an input within the limit, in two parts
two_parts : (limits : Limits) (bytes : List ℕ) (n : ℕ) → length bytes ≤ limits.bytes → front_of limits bytes ≡ bits_of_bytes (take n bytes) ++ bits_of_bytes (drop n bytes)
two_parts limits bytes n fits = ap bits_of_bytes (take_all limits.bytes bytes fits ∙ sym (take-append-drop n bytes)) ∙ flat_map-append (bits_of 8) (take n bytes) (drop n bytes)

pub shared_front : (limits : Limits) (bytes other : List ℕ) (n : ℕ) → n ≤ length bytes → take n bytes ≡ take n other → (m k : Marked) → SpellsInput limits bytes m → SpellsInput limits other k
    → (front rest : List Event) → flat m.blocks [] ≡ front ++ rest → EndWithin (8 * n) front → (others : List Event) × (flat k.blocks [] ≡ front ++ others)
shared_front limits bytes other n le same m k h h' [] rest parts within = (flat k.blocks [], refl)
shared_front limits bytes other n le same m k h h' (event ∷ events) rest parts within =
    let common = bits_of_bytes (take n bytes) in
    let size : 8 * n ≡ length common = omega (arith, bytes_length (take n bytes), length-take-le n bytes le) in
    let seen = (events_if_told limits bytes m.head (flat m.blocks [])).1 (accepted m.after, (told_if_spelled limits bytes m).0 h) in
    let shared = two_parts limits other n h'.fits ∙ ap (λ (t : List ℕ). bits_of_bytes t ++ bits_of_bytes (drop n other)) (sym same) in
    let there = shared_events limits (front_of limits bytes) (front_of limits other) common (bits_of_bytes (drop n bytes)) (bits_of_bytes (drop n other)) m.head event events rest (two_parts limits bytes n h.fits) shared (subst (λ (b : ℕ). EndWithin b (event ∷ events)) size within) (subst (HasEvents limits bytes m.head) parts seen) in
    let told = (events_if_told limits other m.head (event ∷ (events ++ there.0))).0 there.1 in
    (there.0, ap (λ (x : Head × Told). x.1.0) (told_is _ _ (sym ((told_if_spelled limits other k).0 h') ∙ told.1)))

-- the stream of an input ends within its bits
stream_within : (bits : List Bool) (head : Head) (p : ℕ) (r : List Bool) → Heads bits head p r → p + length r ≤ length bits
stream_within bits head p r (bare magic parts spelled is none place) = omega (arith, ap length parts, length-append magic r, place)
stream_within bits head p r (in_wrapper w front header after magic parts spelled gap within inner has place) =
    omega (arith, place, ap length parts, length-append front (header ++ after), length-append header after, ap length within, length-take (8 * w.size) after, length-append magic r)

-- all events of an input end within its bytes
all_within : (limits : Limits) (bytes : List ℕ) (m : Marked) → SpellsInput limits bytes m → EndWithin (8 * length bytes) (flat m.blocks [])
all_within limits bytes m h =
    let e = (events_if_told limits bytes m.head (flat m.blocks [])).1 (accepted m.after, (told_if_spelled limits bytes m).0 h) in
    let size : length (front_of limits bytes) ≡ 8 * length bytes = ap (λ (b : List ℕ). length (bits_of_bytes b)) (take_all limits.bytes bytes h.fits) ∙ bytes_length bytes in
    steps_within (8 * length bytes) limits at_start e.0 e.1 (flat m.blocks []) e.2 e.4 (omega (arith, size, stream_within (front_of limits bytes) m.head e.0 e.1 e.3))

-- ---- what they share

-- also at a later bit
within_more : (low high : ℕ) (events : List Event) → low ≤ high → EndWithin low events → EndWithin high events
within_more low high [] le within = tt
within_more low high (event ∷ events) le within = (omega (arith, le, within.0), within_more low high events le within.1)

-- also the last ones
within_last : (bit : ℕ) (front rest : List Event) → EndWithin bit (front ++ rest) → EndWithin bit rest
within_last bit [] rest within = within
within_last bit (event ∷ front) rest within = within_last bit front rest within.1

-- where the first of the other events ends behind the bit, none of these are left
none_left : (bit : ℕ) (others more rest : List Event) (event : Event) → EndWithin bit others → bit < ends_at event → others ++ more ≡ event ∷ rest → others ≡ []
none_left bit [] more rest event within late same = refl
none_left bit (other ∷ others) more rest event within late same = (let is : other ≡ event = cc in absurd (omega (arith, within.0, late, ap ends_at is)))

-- the first input shares its events up to the bit with the other one, and has no others if that is all of it
pub shares_front : (limits : Limits) → Capped limits → (first known : List ℕ) (equal bit : ℕ) (whole : Bool)
    → equal ≤ length first → StartsWith known (take equal first)
    → bit ≤ 8 * equal → (8 * equal < 2 ^ 64 → bit ≡ 8 * equal) → (whole ≡ true → equal ≡ length first)
    → (k m : Marked) → SpellsInput limits first k → SpellsInput limits known m
    → SharesFront whole bit (flat k.blocks []) (flat m.blocks [])
shares_front limits capped first known equal bit whole le begins low exact all_of k m h h' = record { same = same; all = all }
  where
    size : length (take equal first) ≡ equal
    size = length-take-le equal first le

    shared : take equal known ≡ take equal first
    shared = ap (λ (n : ℕ). take n known) (sym size) ∙ begins

    known_le : equal ≤ length known
    known_le = omega (arith, size, ap length shared, length-take equal known)

    same : (front rest : List Event) → flat m.blocks [] ≡ front ++ rest → EndWithin bit front → (others : List Event) × (flat k.blocks [] ≡ front ++ others)
    same front rest parts within = shared_front limits known first equal known_le shared m k h' h front rest parts (within_more bit (8 * equal) front low within)

    all : whole ≡ true → (front : List Event) (event : Event) (rest : List Event) → flat m.blocks [] ≡ front ++ event ∷ rest → EndWithin bit front → bit < ends_at event → flat k.blocks [] ≡ front
    all is front event rest parts within late =
        let bits : 8 * length first ≡ bit = (let n = all_of is in omega (arith, n, exact (omega (arith, n, h.fits, capped.bytes)))) in
        let ends = within_more (8 * length first) bit (flat k.blocks []) (omega (arith, bits)) (all_within limits first k h) in
        let before = same front (event ∷ rest) parts within in
        let after = shared_front limits first known equal le (sym shared) k m h h' (flat k.blocks []) [] (sym (append-nil _)) (within_more bit (8 * equal) _ low ends) in
        let behind : before.0 ++ after.0 ≡ event ∷ rest = append_cancel_left front _ _ (sym (append_assoc front before.0 after.0) ∙ ap (λ (t : List Event). t ++ after.0) (sym before.1) ∙ sym after.1 ∙ parts) in
        let others_within = within_last bit front before.0 (subst (EndWithin bit) before.1 ends) in
        before.1 ∙ ap (λ (t : List Event). front ++ t) (none_left bit before.0 after.0 rest event others_within late behind) ∙ append-nil front
