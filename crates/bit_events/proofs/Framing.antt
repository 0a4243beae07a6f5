-- Records and definitions in a block, as its frame holds them.
use Rattle.std.proofs.Common.{Bor, ◌≡◌, ◌≢◌, ◌⊎◌, ℕ, ◌+◌, ◌-◌, ◌^◌, ◌<◌, Bool, true, false, cond, eqb, ltb, List, [], ◌∷◌, length, get_or, Option, Some, None, Result, Ok, Err, is_some, refl, sym, ap, ◌∙◌, subst, slice_get, eq-eqb, inl, inr}
use Rattle.std.proofs.lemmas.Bool.{ne_eqb, lt-ltb}
use Rattle.std.proofs.lemmas.List.{append-nil}
use borrow.Author.Tests.{ltb-true}
use Rattle.std.proofs.lemmas.Option.{slice_get_within, get_or_from_slice_get, slice_get-get_or}
use Rattle.std.specs.Option.{option_copied}
use Rattle.std.specs.Prelude.{IfSome}
use Rattle.std.specs.Result.{OnOk}
use Rattle.std.specs.declared.alloc.AllocError.{AllocError}
use Rattle.bit_grammar.specs.declared.shapes.Shapes.{Shapes}
use Rattle.bit_grammar.specs.declared.op.Op.{Op}
use Rattle.bit_grammar.specs.declared.reason.Reason.TheVariants.{UndefinedAbbrev, AbbrevShape, NoBlockSet, BadSetBid}
use Rattle.bit_grammar.specs.Grammar.{Grammar, at, gives, refuses, test, choose, ◌>>=◌, ◌>>◌}
use Rattle.bit_grammar.specs.Record.{unabbreviated, abbreviated}
use Rattle.bit_grammar.specs.Terms.{CodeAndValues, BlockInfo, defined_at}
use Rattle.bit_grammar.specs.Forest.{set_bid, names_block}
use Rattle.bit_grammar.specs.Blocks.{Handed, Scope, defined, may_define, define, by_definition, entry, describe, record_after}
use Rattle.bit_grammar.specs.Machine.{scope_of}
use Rattle.bit_fields.specs.declared.fault.Fault.{Fault}
use Rattle.bit_fields.specs.Reader.{Reader, Took, Why, Takes, told_by}
use Rattle.bit_fields.proofs.Composing.{took_then, fault_then, took_nothing, first_chosen, second_chosen, holds_then, same_reading}
use Rattle.bit_grammar.specs.Definition.{definition, has_shape}
use Rattle.bit_abbrev.specs.Bits.{Answers}
use Rattle.bit_abbrev.specs.Ready.{InfoMade, table_of}
use Rattle.bit_abbrev.specs.declared.abbrev.Abbrev.{Abbrev}
use Rattle.bit_abbrev.specs.Values.{AddsWithin, Gains}
use Rattle.bit_events.proofs.Telling.{told, why, andThen, breaks, ends, here}
use Rattle.bit_events.specs.declared.frame.Describing.{Describing}
use Rattle.bit_events.specs.declared.frame.Frame.{Frame}
use Rattle.bit_events.specs.Runs.{IsDefinition}
use Rattle.bit_events.specs.FrameView.{info_shown, described_value, described_id, frame_shown}

-- ---- definitions

-- one more definition for the described block
pub put_described : (f : Frame) (d : Describing) (id : ℕ) (ops : List Op) (made : InfoMade) (result : Result (Unit {0}) AllocError) → f.info ≡ Some d → d.described ≡ Some id → OnOk result (table_of made.made ≡ defined_at id ops (table_of d.made.made))
    → OnOk result ((handed : Handed) → scope_of (frame_shown (record f { info = Some (record d { made = made }) })) handed ≡ defined (info_shown f.info) ops (scope_of (frame_shown f) handed))
put_described f d id ops made (Ok x) is described puts = λ handed. rw (is, described, puts) refl
put_described f d id ops made (Err e) is described puts = tt

-- ---- records

pub plain_entry : (room first id : ℕ) (definitions : List (List Op)) (a : Reader) (result : Result CodeAndValues Fault) (b : Reader) → id ≡ 3 → Takes (unabbreviated room) a result b → Takes (entry room first id definitions) a result b
unfolding entry
plain_entry room first id definitions a result b plain t =
    first_chosen (eqb id 3) (unabbreviated room) (choose (ltb (id - 4) (length definitions)) (by_definition first room (get_or definitions (id - 4) [])) (refuses (at UndefinedAbbrev first))) a result b (eq-eqb id 3 plain) t

-- by a definition in force
pub found_entry : (room first id : ℕ) (definitions : List (List Op)) (ops : List Op) (a : Reader) (result : Result CodeAndValues Fault) (b : Reader) → id ≢ 3 → slice_get definitions (id - 4) ≡ Some ops → Takes (by_definition first room ops) a result b → Takes (entry room first id definitions) a result b
unfolding entry
found_entry room first id definitions ops a result b other found t =
    let within : id - 4 < length definitions = slice_get_within definitions (id - 4) ops found in
    let there : get_or definitions (id - 4) [] ≡ ops = get_or_from_slice_get definitions (id - 4) ops [] found in
    second_chosen (eqb id 3) (unabbreviated room) (choose (ltb (id - 4) (length definitions)) (by_definition first room (get_or definitions (id - 4) [])) (refuses (at UndefinedAbbrev first))) a result b (ne_eqb id 3 other)
    (first_chosen (ltb (id - 4) (length definitions)) (by_definition first room (get_or definitions (id - 4) [])) (refuses (at UndefinedAbbrev first)) a result b (lt-ltb (id - 4) (length definitions) within)
    (rw there t))

pub short_entry : (room first id : ℕ) (definitions : List (List Op)) (ops : List Op) (a : Reader) (result : Result CodeAndValues Fault) (b : Reader) → id ≢ 3 → slice_get definitions (id - 4) ≡ Some ops → has_shape ops ≡ true → Takes (abbreviated first room ops) a result b → Takes (entry room first id definitions) a result b
unfolding by_definition
short_entry room first id definitions ops a result b other found shape t = found_entry room first id definitions ops a result b other found (holds_then (has_shape ops) (at AbbrevShape first) (abbreviated first room ops) a result b shape t)

-- a definition without a shape
pub shapeless_entry : (room first id : ℕ) (definitions : List (List Op)) (ops : List Op) (a : Reader) (fault : Fault) (b : Reader) → id ≢ 3 → slice_get definitions (id - 4) ≡ Some ops → Why (test (has_shape ops) (at AbbrevShape first)) a fault b → Why (entry room first id definitions) a fault b
unfolding by_definition
shapeless_entry room first id definitions ops a fault b other found why =
    found_entry room first id definitions ops a (Err fault) b other found (fault_then (test (has_shape ops) (at AbbrevShape first)) (λ x. abbreviated first room ops) a fault b why)

pub no_entry : (room first id : ℕ) (definitions : List (List Op)) (a : Reader) (fault : Fault) (b : Reader) → id ≢ 3 → slice_get definitions (id - 4) ≡ None → Why (test false (at UndefinedAbbrev first)) a fault b → Why (entry room first id definitions) a fault b
unfolding entry
no_entry room first id definitions a fault b other none why =
    let past : ltb (id - 4) (length definitions) ≡ false = elim (by (ltb (id - 4) (length definitions)) refl) [
      | inl past ↦ past
      | inr contradiction ↦ absurd contradiction
    ] in
    let refused : Why (refuses {A = CodeAndValues} (at UndefinedAbbrev first)) a fault b = same_reading {A = CodeAndValues} (test false (at UndefinedAbbrev first) >>= λ x. refuses (at UndefinedAbbrev first)) (refuses (at UndefinedAbbrev first)) a (Err fault) b (λ p r. refl) (fault_then {B = CodeAndValues} (test false (at UndefinedAbbrev first)) (λ x. refuses (at UndefinedAbbrev first)) a fault b why) in
    second_chosen (eqb id 3) (unabbreviated room) (choose (ltb (id - 4) (length definitions)) (by_definition first room (get_or definitions (id - 4) [])) (refuses (at UndefinedAbbrev first))) a (Err fault) b (ne_eqb id 3 other)
    (second_chosen (ltb (id - 4) (length definitions)) (by_definition first room (get_or definitions (id - 4) [])) (refuses (at UndefinedAbbrev first)) a (Err fault) b past refused)
  where
    by : (b : Bool) → ltb (id - 4) (length definitions) ≡ b → (ltb (id - 4) (length definitions) ≡ false) ⊎ ⊥
    by false is = inl is
    by true is =
        let some : None ≡ Some (get_or definitions (id - 4) []) = sym none ∙ slice_get-get_or definitions (id - 4) [] (ltb-true (id - 4) (length definitions) is) in
        absurd cc

-- where a miss gives no reason, nothing is said if none is ready
pub ready_or_missed : (M : Type 0) (definitions : List (List Op)) (id : ℕ) (ready : Option (Bor Abbrev)) → IfSome ready (λ one. slice_get definitions (id - 4) ≡ Some one.now) → IsDefinition {M = M} (λ miss fault. ⊥) definitions id (option_copied ready)
ready_or_missed M definitions id None is = λ miss fault means. absurd means
ready_or_missed M definitions id (Some one) is = is

-- what was found if each is found
pub found_is : {M : Type 0} (faults : M → Fault → Type 0) (definitions : List (List Op)) (id : ℕ) (found : Option (List Op)) → found ≡ slice_get definitions (id - 4) → IsDefinition faults definitions id found
found_is faults definitions id None is = λ miss fault means. sym is
found_is faults definitions id (Some ops) is = sym is

-- what is said of a result for each fault that it means
pub by_fault : {A : Type 0} (P : Result A Fault → Type 0) (result : Result A Fault) → Answers (λ (miss fault : Fault). fault ≡ miss) P result → P result
by_fault P (Ok x) h = h
by_fault P (Err fault) h = h fault refl

-- adding a record by one rule is adding it by another
pub added_as : {V : Type 0} (took : V → List ℕ → Type 0) (v w : V) (rule other : Grammar CodeAndValues) (room : ℕ) (a b : Reader) → ((r : Result CodeAndValues Fault) → Takes rule a r b → Takes other a r b) → (result : Result ℕ Fault) → Gains took v w (AddsWithin rule room a result b) → Gains took v w (AddsWithin other room a result b)
added_as took v w rule other room a b so (Ok code) gains = λ before t. let h = gains before t in (h.0, h.1, ((h.2.0.0, h.2.0.1, so (Ok (record { code = code; values = h.2.0.0 })) h.2.0.2), h.2.1))
added_as took v w rule other room a b so (Err fault) gains = λ before t. let h = gains before t in (h.0, h.1, ((h.2.0.0, h.2.0.1, so (Err fault) h.2.0.2), tt))

-- a failure before a value is read
pub fails_so : (rule : Grammar CodeAndValues) (room : ℕ) (a : Reader) (fault : Fault) (b : Reader) (before : List ℕ) → Why rule a fault b → AddsWithin rule room a (Err fault) b before before
fails_so rule room a fault b before why = (([], sym (append-nil before), why), tt)

-- ---- what a BLOCKINFO block describes

is_some-described_id : (values : List ℕ) → is_some (described_id values) ≡ names_block values
is_some-described_id [] = refl
is_some-described_id (id ∷ values) = by (ltb id (2 ^ 32))
  where
    by : (b : Bool) → is_some (cond b (Some id) None) ≡ b
    by true = refl
    by false = refl

described_id-first : (values : List ℕ) → is_some (described_id values) ≡ true → described_id values ≡ Some (get_or values 0 0)
described_id-first [] h = absurd cc
described_id-first (id ∷ values) h = by (ltb id (2 ^ 32)) h
  where
    by : (b : Bool) → is_some (cond b (Some id) None) ≡ true → cond b (Some id) None ≡ Some id
    by true h = refl
    by false h = absurd cc

abbrev set_rule : (info : BlockInfo) (first : ℕ) (e : CodeAndValues) → Grammar (Option BlockInfo)
set_rule info first e = test (names_block e.values) (at BadSetBid first) >> gives (Some (record info { described = Some (get_or e.values 0 0) }))

abbrev other_rule : (info : BlockInfo) (first : ℕ) → Grammar (Option BlockInfo)
other_rule info first = test (is_some info.described) (at NoBlockSet first) >> gives (Some info)

pub other_took : (info : BlockInfo) (first code : ℕ) (values : List ℕ) (a b : Reader) → code ≢ 1 → Took (test (is_some info.described) (at NoBlockSet first)) a tt b → Took (describe (Some info) first (record { code = code; values = values })) a (Some info) b
unfolding describe
other_took info first code values a b other t =
    second_chosen (eqb code set_bid) (set_rule info first (record { code = code; values = values })) (other_rule info first) a (Ok (Some info)) b (ne_eqb code 1 other) (took_then (test (is_some info.described) (at NoBlockSet first)) (λ v. gives (Some info)) a tt b (Ok (Some info)) b t (took_nothing (Some info) b t.live))

pub other_wrong : (info : BlockInfo) (first code : ℕ) (values : List ℕ) (a : Reader) (fault : Fault) (b : Reader) → code ≢ 1 → Why (test (is_some info.described) (at NoBlockSet first)) a fault b → Why (describe (Some info) first (record { code = code; values = values })) a fault b
unfolding describe
other_wrong info first code values a fault b other h =
    second_chosen (eqb code set_bid) (set_rule info first (record { code = code; values = values })) (other_rule info first) a (Err fault) b (ne_eqb code 1 other) (fault_then (test (is_some info.described) (at NoBlockSet first)) (λ v. gives (Some info)) a fault b h)

pub set_took : (info : BlockInfo) (first code : ℕ) (values : List ℕ) (a b : Reader) → code ≡ 1 → is_some (described_id values) ≡ true → Took (test (is_some (described_id values)) (at BadSetBid first)) a tt b → Took (describe (Some info) first (record { code = code; values = values })) a (Some (record info { described = described_id values })) b
unfolding describe
set_took info first code values a b set holds t =
    let made : BlockInfo = record info { described = Some (get_or values 0 0) } in
    let judged : Took (test (names_block values) (at BadSetBid first)) a tt b = subst (λ (h : Bool). Took (test h (at BadSetBid first)) a tt b) (is_some-described_id values) t in
    rw (described_id-first values holds) (first_chosen (eqb code set_bid) (set_rule info first (record { code = code; values = values })) (other_rule info first) a (Ok (Some made)) b (eq-eqb code 1 set) (took_then (test (names_block values) (at BadSetBid first)) (λ v. gives (Some made)) a tt b (Ok (Some made)) b judged (took_nothing (Some made) b t.live)))

pub set_wrong : (info : BlockInfo) (first code : ℕ) (values : List ℕ) (a : Reader) (fault : Fault) (b : Reader) → code ≡ 1 → Why (test (is_some (described_id values)) (at BadSetBid first)) a fault b → Why (describe (Some info) first (record { code = code; values = values })) a fault b
unfolding describe
set_wrong info first code values a fault b set h =
    let judged : Why (test (names_block values) (at BadSetBid first)) a fault b = subst (λ (t : Bool). Why (test t (at BadSetBid first)) a fault b) (is_some-described_id values) h in
    first_chosen (eqb code set_bid) (set_rule info first (record { code = code; values = values })) (other_rule info first) a (Err fault) b (eq-eqb code 1 set) (fault_then (test (names_block values) (at BadSetBid first)) (λ v. gives (Some (record info { described = Some (get_or values 0 0) }))) a fault b judged)

-- a block that is no BLOCKINFO block
pub none_described : (first : ℕ) (e : CodeAndValues) (a : Reader) → a.live ≡ true → Took (describe None first e) a None a
unfolding describe
none_described first e a live = took_nothing None a live

-- ---- a definition

pub define_judged : (shapes : Shapes) (first : ℕ) (scope : Scope) (a : Reader) (fault : Fault) (b : Reader) → Why (test (may_define scope.info) (at NoBlockSet first)) a fault b → Why (define shapes first scope) a fault b
unfolding define
define_judged shapes first scope a fault b h = why (define shapes first scope) a fault b (breaks h)

pub define_missed : (shapes : Shapes) (first : ℕ) (scope : Scope) (a b : Reader) (fault : Fault) (c : Reader) → Took (test (may_define scope.info) (at NoBlockSet first)) a tt b → Why (definition shapes) b fault c → Why (define shapes first scope) a fault c
unfolding define
define_missed shapes first scope a b fault c t h = why (define shapes first scope) a fault c (andThen t (breaks h))

pub define_took : (shapes : Shapes) (first : ℕ) (scope : Scope) (a b : Reader) (ops : List Op) (c d : Reader) (after : ℕ) (copy : List Op) (new : Scope) → Took (test (may_define scope.info) (at NoBlockSet first)) a tt b → Took (definition shapes) b ops c → d ≡ c → after ≡ c.position → copy ≡ ops → new ≡ defined scope.info ops scope
    → Took (define shapes first scope) a (record { ops = copy; first = first; after = after }, new) d
unfolding define
define_took shapes first scope a b ops c d after copy new t u same here_is copied made =
    rw (same, here_is, copied, made) (told (define shapes first scope) a (Ok (record { ops = ops; first = first; after = c.position }, defined scope.info ops scope)) c (andThen t (andThen u (here c.position refl (ends u.live)))))

-- ---- a record

pub record_missed : (limit first id : ℕ) (scope : Scope) (a : Reader) (fault : Fault) (b : Reader) → Why (entry (limit - scope.handed.used) first id scope.definitions) a fault b → Why (record_after limit first id scope) a fault b
unfolding record_after
record_missed limit first id scope a fault b h = why (record_after limit first id scope) a fault b (breaks h)

pub record_wrong : (limit first id : ℕ) (scope : Scope) (a : Reader) (e : CodeAndValues) (b : Reader) (fault : Fault) (c : Reader) → Took (entry (limit - scope.handed.used) first id scope.definitions) a e b → Why (describe scope.info first e) b fault c → Why (record_after limit first id scope) a fault c
unfolding record_after
record_wrong limit first id scope a e b fault c t h = why (record_after limit first id scope) a fault c (andThen t (here b.position refl (breaks h)))

pub record_took : (limit first id : ℕ) (scope : Scope) (a : Reader) (e : CodeAndValues) (b : Reader) (after : ℕ) (info : Option BlockInfo) (c : Reader) → Took (entry (limit - scope.handed.used) first id scope.definitions) a e b → after ≡ b.position → Took (describe scope.info first e) b info c
    → Took (record_after limit first id scope) a (record { abbreviation = id; code = e.code; values = e.values; first = first; after = after }, record scope { info = info; handed = record { table = scope.handed.table; used = scope.handed.used + length e.values } }) c
unfolding record_after
record_took limit first id scope a e b after info c t is u =
    told (record_after limit first id scope) a (Ok (record { abbreviation = id; code = e.code; values = e.values; first = first; after = after }, record scope { info = info; handed = record { table = scope.handed.table; used = scope.handed.used + length e.values } })) c
    (andThen t (here after is (andThen u (ends u.live))))

-- what is read into an empty value sink
pub added : (rule : Grammar CodeAndValues) (room : ℕ) (a : Reader) (result : Result ℕ Fault) (b : Reader) (now : List ℕ) → AddsWithin rule room a result b [] now → Takes rule a (told_by (λ code. record { code = code; values = now }) result) b
added rule room a (Ok code) b now h = rw h.0.1 h.0.2
added rule room a (Err fault) b now h = h.0.2

-- the first value sets the described block
pub described_first : (value : Option ℕ) (values : List ℕ) → value ≡ slice_get values 0 → described_value value ≡ described_id values
described_first value [] is = ap described_value is
described_first value (id ∷ values) is = ap described_value is
