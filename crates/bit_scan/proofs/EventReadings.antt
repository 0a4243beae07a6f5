-- The events of an input have numbers of 64 bits, whatever ends them, and so has its outlook.
use Rattle.std.proofs.Common.{◌≡◌, ℕ, zero, suc, ◌+◌, ◌-◌, ◌*◌, ◌^◌, ◌<◌, ◌≤◌, Bool, true, false, leb, List, [], ◌∷◌, length, take, get_or, Option, Some, None, Result, Ok, Err, refl, sym, subst, arith}
use Rattle.std.specs.Prelude.{if◌then◌else◌}
use Rattle.std.specs.List.{AllByRecursion}
use Rattle.std.proofs.lemmas.Bool.{ltb-true, leb-true, and_parts}
use Rattle.std.proofs.lemmas.List.{length-take}
use Rattle.std.proofs.lemmas.Option.{slice_get-get_or}
use Rattle.bit_grammar.specs.declared.op.Op.{Op}
use Rattle.bit_grammar.specs.declared.op.Op.TheVariants.{Literal, Fixed, Vbr, Array, Char6, Blob}
use Rattle.bit_grammar.specs.declared.reason.Reason.TheVariants.{WrapperSize}
use Rattle.bit_grammar.specs.declared.shapes.Shapes.{Shapes}
use Rattle.bit_grammar.specs.Bits.{bits_of_bytes}
use Rattle.bit_grammar.specs.Grammar.{Fault, at, reading}
use Rattle.bit_grammar.specs.Fields.{fixed}
use Rattle.bit_grammar.specs.Terms.{CodeAndValues, BlockInfo}
use Rattle.bit_grammar.specs.FormatDefinition.{HasLawfulValue, Definable}
use Rattle.bit_grammar.specs.FormatBlocks.{Context, HoldsDefinable}
use Rattle.bit_grammar.specs.Blocks.{Limits, Handed, Scope, enter, leave, defined, BlockHead, block_id, new_width, block_head, end_of_block, define, by_definition, entry, describe, record_after}
use Rattle.bit_grammar.specs.Machine.{Event, defines, notes, Frame, Machine, frame_of, scope_of, inside, at_start, open_block, open_nested, step_after, step_in, step_top, step_of, step, Ending, accepted, broke, Told, told_of_step, unless_done, is_done, told_at, to_come}
use Rattle.bit_grammar.specs.Normal.{Capped}
use Rattle.bit_grammar.specs.Steps.{open_after}
use Rattle.bit_grammar.specs.Input.{version, offset, wrapper, any_bits, wrapper_and_gap, is_wrapped, inner_magic, front_of, is_closed, too_long, by_cut, cut_fault}
use Rattle.bit_grammar.specs.Outlook.{Outlook, ending_by, end_of_few, cut_end, same_fault, told_wrapped, told_input, outlook}
use Rattle.bit_grammar.specs.Whole.{and_all}
use Rattle.bit_grammar.proofs.Bits.Bytes.{bytes_length}
use Rattle.bit_grammar.proofs.Words.BlockWords.{leave_table}
use Rattle.bit_grammar.proofs.Words.Contexts.{context_of, LawfulContext, one_lawful, defined_is, entered_lawful, table_lawful, defined_lawful}
use Rattle.bit_scan.specs.EventLines.{OpFits, EventFits, EndFits, EventsFit, OutlookFits}
use Rattle.bit_scan.proofs.Readings.{IsFine, Reads, given, refused, here, judged, either, next, weaker, bits, Is64, Any, fixed_read, fixed_64, vbr_read, align_read, definition_read, IsEntry, unabbreviated_read, abbreviated_read}

-- ---- heads and ends of blocks

record HeadFits (h : BlockHead) : Type 0 where
  id : Is64 h.id
  width : h.width ≤ 32
  length_at : Is64 h.length_at
  body : Is64 h.body

id_read : Reads block_id Is64
unfolding block_id
id_read = next here λ first at. next (vbr_read 8) λ id small. next (judged at) λ _ _. given small

width_read : Reads new_width (λ width. width ≤ 32)
unfolding new_width
width_read = next here λ first at. next (vbr_read 4) λ width _. next (judged at) λ _ held. given (leb-true width 32 (and_parts _ _ held).1)

head_read : Reads block_head HeadFits
unfolding block_head
head_read = next id_read λ id small. next width_read λ width narrow. next align_read λ _ _. next here λ length_at before. next (fixed_64 32 (omega arith)) λ words _. next here λ body behind.
    given (record { id = small; width = narrow; length_at = before; body = behind })

end_read : (h : BlockHead) → HeadFits h → Reads (end_of_block h) Is64
unfolding end_of_block
end_read h fits = next align_read λ _ _. next here λ after small. next (judged fits.length_at) λ _ _. given small

-- ---- definitions

abbrev ScopeFits : (width : ℕ) → Scope → Type 0
ScopeFits width scope = LawfulContext (context_of width scope)

op_fits : (op : Op) → HasLawfulValue op → OpFits (2 ^ 64) op
op_fits (Literal v) lawful = lawful
op_fits (Fixed width) lawful = omega (arith, lawful)
op_fits (Vbr width) lawful = omega (arith, lawful.0)
op_fits Array lawful = tt
op_fits Char6 lawful = tt
op_fits Blob lawful = tt

ops_fit : (ops : List Op) → AllByRecursion HasLawfulValue ops → AllByRecursion (OpFits (2 ^ 64)) ops
ops_fit [] lawful = tt
ops_fit (op ∷ ops) lawful = (op_fits op lawful.0, ops_fit ops lawful.1)

-- an item of a block, and the scope after it
record ItemFits {Mark : Type 0} (event : Mark → Event) (width : ℕ) (v : Mark × Scope) : Type 0 where
  item : EventFits (2 ^ 64) (event v.0)
  scope : ScopeFits width v.1

define_read : (shapes : Shapes) (first width : ℕ) (scope : Scope) → Is64 first → ScopeFits width scope → Reads (define shapes first scope) (ItemFits defines width)
unfolding define
define_read shapes first width scope small ok = next (judged small) λ _ held. next (definition_read shapes) λ ops lawful. next here λ after _.
    given (record { item = (small, ops_fit ops lawful.values); scope = defined_lawful scope.info ops (context_of width scope) (context_of width (defined scope.info ops scope)) refl (defined_is scope.info ops width scope held) lawful ok })

-- ---- records

entry_read : (room first id width : ℕ) (scope : Scope) → Is64 first → ScopeFits width scope → Reads (entry room first id scope.definitions) (IsEntry room)
unfolding entry by_definition
entry_read room first id width scope small ok =
    either (λ _. unabbreviated_read room) (λ _.
    either (λ some. next (judged small) λ _ _. abbreviated_read first room (get_or scope.definitions (id - 4) []) small (lawful (ltb-true _ _ some)).values) (λ _.
    refused small))
  where
    lawful : id - 4 < length scope.definitions → Definable (get_or scope.definitions (id - 4) [])
    lawful within = one_lawful scope.definitions (id - 4) _ ok.definitions (slice_get-get_or scope.definitions (id - 4) [] within)

-- the context with another described block
abbrev Describes : Context → Option BlockInfo → Type 0
Describes c info = LawfulContext (record c { info = info })

describe_read : (info : Option BlockInfo) (first : ℕ) (e : CodeAndValues) (c : Context) → Is64 first → Describes c info → Reads (describe info first e) (Describes c)
unfolding describe
describe_read None first e c small ok = given ok
describe_read (Some info) first e c small ok =
    either (λ _. next (judged small) λ _ _. given (record { definitions = ok.definitions; table = ok.table; info = ok.info })) (λ _. next (judged small) λ _ _. given ok)

record_read : (limit first id width : ℕ) (scope : Scope) → limit < 2 ^ 64 → Is64 first → Is64 id → ScopeFits width scope → Reads (record_after limit first id scope) (ItemFits notes width)
unfolding record_after
record_read limit first id width scope capped small named ok =
    next (entry_read (limit - scope.handed.used) first id width scope small ok) λ e is. next here λ after _.
    next (describe_read scope.info first e (context_of width scope) small ok) λ info lawful.
    given (record { item = (small, is.code, named, omega (arith, capped, is.values.count), is.values.all); scope = lawful })

-- ---- steps

-- an open block, whatever table is passed on in it
record FrameFits (f : Frame) : Type 0 where
  head : HeadFits f.head
  scope : (handed : Handed) → HoldsDefinable handed.table → ScopeFits f.head.width (scope_of f handed)

frame_fits : (h : BlockHead) (scope : Scope) → HeadFits h → ScopeFits h.width scope → FrameFits (frame_of h scope)
frame_fits h scope fits ok = record { head = fits; scope = λ handed table. record { definitions = ok.definitions; table = table; info = ok.info } }

record MachineFits (limits : Limits) (m : Machine) : Type 0 where
  frames : AllByRecursion FrameFits m.frames
  deep : length m.frames ≤ limits.depth
  table : HoldsDefinable m.handed.table

-- an event with this many open blocks before it, and the machine after it
record StepFits (limits : Limits) (around : ℕ) (v : Event × Machine) : Type 0 where
  event : EventFits (2 ^ 64) v.0
  open_blocks : length v.1.frames ≡ open_after v.0 around
  machine : MachineFits limits v.1

open_read : (limits : Limits) (frames : List Frame) (first : ℕ) (handed : Handed) → AllByRecursion FrameFits frames → Is64 first → HoldsDefinable handed.table → Reads (open_block limits frames first handed) (StepFits limits (length frames))
unfolding open_block
open_read limits frames first handed all small table = next (judged small) λ _ held. next head_read λ h fits.
    let scope : ScopeFits h.width (enter h.id handed) = entered_lawful (context_of 0 (enter h.id handed)) h.id h.width table in
    given (record {
      event = (small, fits.id, omega (arith, fits.width), fits.body);
      open_blocks = refl;
      machine = record { frames = (frame_fits h (enter h.id handed) fits scope, all); deep = omega (arith, ltb-true _ _ held); table = table };
    })

after_read : (limits : Limits) (h : BlockHead) (frames : List Frame) (first : ℕ) (scope : Scope) (id : ℕ) → limits.values < 2 ^ 64 → HeadFits h → AllByRecursion FrameFits frames → suc (length frames) ≤ limits.depth → Is64 first → Is64 id → ScopeFits h.width scope
    → Reads (step_after limits h frames first scope id) (StepFits limits (suc (length frames)))
unfolding step_after open_nested
after_read limits h frames first scope id capped fits all deep small named ok =
    either (λ _. next (end_read h fits) λ after behind. given (record { event = behind; open_blocks = omega arith; machine = record { frames = all; deep = omega (arith, deep); table = left } })) (λ _.
    either (λ _. next (judged small) λ _ _. open_read limits (frame_of h scope ∷ frames) first scope.handed (frame_fits h scope fits ok, all) small ok.table) (λ _.
    either (λ _. next (define_read limits.shapes first h.width scope small ok) λ v item. given (record { event = item.item; open_blocks = refl; machine = stays v.1 item.scope })) (λ _.
    next (record_read limits.values first id h.width scope capped small named ok) λ v item. given (record { event = item.item; open_blocks = refl; machine = stays v.1 item.scope }))))
  where
    stays : (new : Scope) → ScopeFits h.width new → MachineFits limits (inside h frames new)
    stays new lawful = record { frames = (frame_fits h new fits lawful, all); deep = deep; table = lawful.table }

    left : HoldsDefinable (leave scope.info scope.handed).table
    left = subst HoldsDefinable (sym (leave_table scope.info scope.handed)) (table_lawful (context_of h.width scope) ok)

step_read : (limits : Limits) (frames : List Frame) (handed : Handed) → limits.values < 2 ^ 64 → MachineFits limits (record { frames = frames; handed = handed }) → Reads (step_of limits frames handed) (StepFits limits (length frames))
unfolding step_in step_top
step_read limits [] handed capped ok = next here λ first small. next (fixed_64 2 (omega arith)) λ id _. next (judged small) λ _ _. open_read limits [] first handed tt small ok.table
step_read limits (f ∷ frames) handed capped ok =
    let one = ok.frames.0 in
    next here λ first small. next (fixed_64 f.head.width (omega (arith, one.head.width))) λ id named.
    after_read limits f.head frames first (scope_of f handed) id capped one.head ok.frames.1 ok.deep small named (one.scope handed ok.table)

-- ---- events

abbrev ToldFits : (around : ℕ) → Told → Type 0
ToldFits around told = EventsFit (2 ^ 64) around told.0 told.1

told_fits : (limits : Limits) → limits.depth < 2 ^ 64 → limits.values < 2 ^ 64 → (n : ℕ) (m : Machine) (p : ℕ) (r : List Bool) → MachineFits limits m → p + length r < 2 ^ 64 → ToldFits (length m.frames) (told_at limits n m p r)
told_fits limits deep capped zero m p r ok within = omega (arith, within)
told_fits limits deep capped (suc n) m p r ok within = unless (is_done m.frames r) _ (read (reading (step limits m) p r) ((step_read limits m.frames m.handed capped ok).fine p r within) (told_fits limits deep capped n))
  where
    unless : (done : Bool) (told : Told) → ToldFits (length m.frames) told → ToldFits (length m.frames) (unless_done done p told)
    unless true told fits = tt
    unless false told fits = fits

    read : (x : Result ((Event × Machine) × ℕ × List Bool) Fault) → IsFine (StepFits limits (length m.frames)) x
        → ((m : Machine) (p : ℕ) (r : List Bool) → MachineFits limits m → p + length r < 2 ^ 64 → ToldFits (length m.frames) (told_at limits n m p r)) → ToldFits (length m.frames) (told_of_step (told_at limits n) x)
    read (Ok x) fine others = (omega (arith, deep, ok.deep), fine.0.event, subst (λ (k : ℕ). ToldFits k (told_at limits n x.0.1 x.1 x.2)) fine.0.open_blocks (others x.0.1 x.1 x.2 fine.0.machine fine.1))
    read (Err fault) small others = small

come_fits : (limits : Limits) → Capped limits → (p : ℕ) (r : List Bool) → p + length r < 2 ^ 64 → ToldFits 0 (to_come limits at_start p r)
unfolding to_come
come_fits limits capped p r within = told_fits limits (omega (arith, capped.depth)) (omega (arith, capped.values)) (suc (length r)) at_start p r (record { frames = tt; deep = omega arith; table = λ id. tt }) within

-- ---- inputs

version_read : Reads version Any
unfolding version
version_read = next here λ first small. next (fixed_64 32 (omega arith)) λ n _. weaker (λ _ _. tt) (judged small)

offset_read : Reads offset (λ n. n < 2 ^ 32)
unfolding offset
offset_read = next here λ first small. next (fixed_read 32) λ n below. next (judged small) λ _ _. given below

wrapper_read : Reads wrapper_and_gap (λ w. w.offset < 2 ^ 32)
unfolding wrapper_and_gap wrapper any_bits
wrapper_read =
    next (next version_read λ _ _. next offset_read λ n below. next (fixed_64 32 (omega arith)) λ size _. next (fixed_64 32 (omega arith)) λ cpu _. given {Good = λ w. w.offset < 2 ^ 32} below) λ w below.
    next (next here λ first small. next (bits (8 * (w.offset - 20)) _ small) λ s _. given {Good = Any} tt) λ _ _. given below

magic_read : Reads inner_magic Any
unfolding inner_magic
magic_read = next here λ first small. next (fixed_64 32 (omega arith)) λ magic _. next (judged small) λ _ _. given tt

after : {A : Type 0} {Good : A → Type 0} (first : Result (A × ℕ × List Bool) Fault) (others : A → ℕ → List Bool → Outlook) → IsFine Good first
    → ((x : A) (q : ℕ) (rest : List Bool) → Good x → q + length rest < 2 ^ 64 → OutlookFits (2 ^ 64) (others x q rest)) → OutlookFits (2 ^ 64) (and_all first others)
after (Ok x) others fine fits = fits x.0 x.1 x.2 fine.0 fine.1
after (Err fault) others small fits = small

-- an end, and a fault, that another one stands for
record EndsFit (end : Ending → Ending) (fault_by : Fault → Fault) : Type 0 where
  ending : (e : Ending) → EndFits (2 ^ 64) e → EndFits (2 ^ 64) (end e)
  fault : (f : Fault) → f.bit < 2 ^ 64 → (fault_by f).bit < 2 ^ 64

ended : (end : Ending → Ending) (fault_by : Fault → Fault) → EndsFit end fault_by → (told : Outlook) → OutlookFits (2 ^ 64) told → OutlookFits (2 ^ 64) (ending_by end fault_by told)
ended end fault_by keeps (Ok x) fits = (fits.0, go 0 x.1.0 fits.1)
  where
    go : (around : ℕ) (events : List Event) → EventsFit (2 ^ 64) around events x.1.1 → EventsFit (2 ^ 64) around events (end x.1.1)
    go around [] told = keeps.ending x.1.1 told
    go around (event ∷ events) told = (told.0, told.1, go (open_after event around) events told.2)
ended end fault_by keeps (Err fault) small = keeps.fault fault small

few_fits : (enough : Bool) → EndsFit (end_of_few enough (at WrapperSize 96)) same_fault
few_fits enough = record { ending = go enough; fault = λ f small. small }
  where
    go : (b : Bool) (end : Ending) → EndFits (2 ^ 64) end → EndFits (2 ^ 64) (end_of_few b (at WrapperSize 96) end)
    go true (accepted p) fits = tt
    go false (accepted p) fits = omega arith
    go b (broke fault) small = small

cut_fits : (limits : Limits) (closed : Bool) → Capped limits → EndsFit (cut_end limits closed) (cut_fault limits closed)
cut_fits limits closed capped = record { ending = go; fault = by_reason }
  where
    by_test : (cut : Bool) (f : Fault) → f.bit < 2 ^ 64 → (if cut then too_long limits else f).bit < 2 ^ 64
    by_test true f small = omega (arith, capped.bytes)
    by_test false f small = small

    by_reason : (f : Fault) → f.bit < 2 ^ 64 → (cut_fault limits closed f).bit < 2 ^ 64
    by_reason f small = by_test (by_cut closed f.reason) f small

    go : (end : Ending) → EndFits (2 ^ 64) end → EndFits (2 ^ 64) (cut_end limits closed end)
    go (accepted p) fits = omega (arith, capped.bytes)
    go (broke fault) small = by_reason fault small

input_fits : (limits : Limits) → Capped limits → (r : List Bool) → length r < 2 ^ 64 → OutlookFits (2 ^ 64) (told_input limits 0 r)
input_fits limits capped r within = after (reading (fixed 32) 0 r) _ ((fixed_64 32 (omega arith)).fine 0 r (omega (arith, within))) λ magic q rest _ left. by_magic (is_wrapped magic) magic q rest left
  where
    wrapped : (q : ℕ) (rest : List Bool) → q + length rest < 2 ^ 64 → OutlookFits (2 ^ 64) (told_wrapped limits q rest)
    wrapped q rest left =
        after (reading wrapper_and_gap q rest) _ (wrapper_read.fine q rest left) λ w q' rest' below left'.
        ended _ _ (few_fits _) _ (after (reading inner_magic q' (take (8 * w.size) rest')) _ (magic_read.fine q' (take (8 * w.size) rest') (omega (arith, left', length-take (8 * w.size) rest'))) λ magic q'' rest'' _ left''.
        (omega (arith, below), come_fits limits capped q'' rest'' left''))

    by_magic : (b : Bool) (magic q : ℕ) (rest : List Bool) → q + length rest < 2 ^ 64 → OutlookFits (2 ^ 64) (if b then told_wrapped limits q rest else Ok (record { magic = magic; wrapper = None }, to_come limits at_start q rest))
    by_magic true magic q rest left = wrapped q rest left
    by_magic false magic q rest left = (omega arith, come_fits limits capped q rest left)

pub outlook_fits : (limits : Limits) (bytes : List ℕ) → Capped limits → OutlookFits (2 ^ 64) (outlook limits bytes)
unfolding outlook
outlook_fits limits bytes capped = go (leb (length bytes) limits.bytes) refl
  where
    go : (b : Bool) → leb (length bytes) limits.bytes ≡ b
        → OutlookFits (2 ^ 64) (if b then told_input limits 0 (bits_of_bytes bytes) else ending_by (cut_end limits (is_closed limits bytes)) (cut_fault limits (is_closed limits bytes)) (told_input limits 0 (front_of limits bytes)))
    go true e = input_fits limits capped (bits_of_bytes bytes) (omega (arith, bytes_length bytes, leb-true _ _ e, capped.bytes))
    go false e = ended _ _ (cut_fits limits (is_closed limits bytes) capped) _ (input_fits limits capped (front_of limits bytes) (omega (arith, bytes_length (take limits.bytes bytes), length-take limits.bytes bytes, capped.bytes)))
