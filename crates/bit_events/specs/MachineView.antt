-- The model of the program's machine.
use Rattle.std.specs.Prelude.{◌≡◌, ℕ, ◌≤◌, ◌%◌, List, [], ◌∷◌, Option, Some, None, unwrap_or, vec_len}
use Rattle.std.specs.Option.{option_map}
use Rattle.bit_grammar.specs.declared.shapes.Shapes.{Shapes}
use Rattle.bit_grammar.specs.declared.op.Op.{Op}
use Rattle.bit_grammar.specs.Grammar.{Grammar, gives, ◌>>=◌}
use Rattle.bit_grammar.specs.Blocks.{Handed, BlockHead, end_of_block, define, record_after, leave}
use Rattle.bit_grammar.specs.Machine as machine
use Rattle.bit_grammar.specs.Machine.{Event, enters, defines, notes, leaves, Frame, scope_of, inside}
use Rattle.bit_grammar.specs.Steps.{MayStand, open_after}
use Rattle.bit_fields.specs.Reader.{Reader}
use Rattle.bit_abbrev.specs.Ready.{either, table_of}
use Rattle.bit_events.specs.FrameView.{newest_in, ready_in, frames_shown}
use Rattle.bit_events.specs.declared.frame.Frame as held
use Rattle.bit_events.specs.declared.machine.Machine.{Machine}
use Rattle.bit_events.specs.declared.machine.Step.{Step}
use Rattle.bit_events.specs.declared.machine.Step.TheVariants as found

abbrev pub handed_shown : Machine → Handed
handed_shown m = record { table = table_of m.table; used = m.used }

abbrev pub machine_shown : Machine → machine.Machine
machine_shown m = record { frames = frames_shown m.frames.items; handed = handed_shown m }

-- the last definition that the innermost block made, which is the last of these
abbrev pub newest : List held.Frame → Option (List Op)
newest [] = None
newest (f ∷ []) = newest_in f
newest (f ∷ g ∷ frames) = newest (g ∷ frames)

-- the same, from one that was made anew and one that is ready
abbrev pub lent : (made : Option (List Op)) → List held.Frame → Option (List Op)
lent made [] = made
lent made (f ∷ []) = either made (ready_in f)
lent made (f ∷ g ∷ frames) = lent made (g ∷ frames)

-- ---- events

abbrev pub definition_of : (first after : ℕ) → List Op → Event
definition_of first after ops = defines (record { ops = ops; first = first; after = after })

-- the record with this id, whose code and the bit after it were read
abbrev pub record_of : (id : ℕ) → List ℕ → (first : ℕ) → (read : ℕ × ℕ) → Event
record_of id values first read = notes (record
    { abbreviation = id; code = read.0; values = values; first = first; after = read.1 })

-- the event of a step, with these values for a record; a definition is the machine's newest one
abbrev pub step_shown : Machine → List ℕ → Step → Event
step_shown m values (found.Enter body first id width) = enters
    (record { id = id; width = width; first = first; body = body })
step_shown m values (found.Define first after) = definition_of first after
    (unwrap_or (newest m.frames.items) [])
step_shown m values (found.Record head) = record_of head.«abbrev» values head.first
    (head.code, head.after)
step_shown m values (found.Leave after) = leaves after

-- the bit after a step
abbrev pub bit_after : Step → ℕ
bit_after (found.Enter body first id width) = body
bit_after (found.Define first after) = after
bit_after (found.Record head) = head.after
bit_after (found.Leave after) = after

-- the same event as it is lent, if the machine has its definition
abbrev pub step_lent : Machine → List ℕ → Step → Option Event
step_lent m values (found.Define first after) = option_map (definition_of first after)
    (lent m.made m.frames.items)
step_lent m values step = Some (step_shown m values step)

abbrev pub IsDefine : Step → Type 0
IsDefine (found.Define first after) = Unit {0}
IsDefine step = ⊥

-- the machine can lend the definition of a step
abbrev pub Lendable : Machine → Step → Type 0
Lendable m (found.Define first after) = lent m.made m.frames.items ≡ newest m.frames.items
Lendable m step = Unit {0}

-- an event, and the machine after it
abbrev pub after_step : Machine → List ℕ → Step → Event × machine.Machine
after_step m values step = (step_shown m values step, machine_shown m)

-- ---- values

-- it took some values
abbrev pub TookSome : {V : Type 0} → (took : V → List ℕ → Type 0) → V → Type 0
TookSome took taker = (values : List ℕ) × took taker values

-- a step that found no record leaves the value sink as it was
abbrev pub KeepsValues : {V : Type 0} → Step → (old new : V) → Type 0
KeepsValues (found.Record head) old new = Unit {0}
KeepsValues step old new = new ≡ old

-- ---- the effect of an event

-- a definition that was read is the newest one
abbrev pub HoldsDefinition : Machine → Event → Type 0
HoldsDefinition m (defines mark) = newest m.frames.items ≡ Some mark.ops
HoldsDefinition m (enters opened) = Unit {0}
HoldsDefinition m (notes mark) = Unit {0}
HoldsDefinition m (leaves after) = Unit {0}

-- this is true of the innermost block and of those around it, if one is open
abbrev pub InBlock : Machine → (Frame → List Frame → Type 0) → Type 0
InBlock m Holds = (f : Frame) (outer : List Frame) → frames_shown m.frames.items ≡ f ∷ outer
    → Holds f outer

-- the head of the innermost block, which is first
abbrev pub innermost_head : List machine.Frame → Option BlockHead
innermost_head [] = None
innermost_head (f ∷ outer) = Some f.head

-- The effect of a call that found an event: the event is allowed at this depth, and its effect on the depth; the reader did not go
-- back, and outside of all blocks it is at a word; and the machine holds a definition that was read.
pub record LeavesMachine (deepest : ℕ) (old : Machine) (a : Reader) (event : Event) (new : Machine)
    (b : Reader) : Type 0 where
  pub stands : MayStand deepest event (vec_len old.frames)
  pub opens : vec_len new.frames ≡ open_after event (vec_len old.frames)
  pub forward : a.position ≤ b.position
  pub aligned : vec_len new.frames ≡ 0 → b.position % 32 ≡ 0
  pub holds : HoldsDefinition new event

-- ---- the rules of the innermost block f, within others

-- its end
abbrev pub end_rule : Frame → List Frame → Handed → Grammar (Event × machine.Machine)
end_rule f outer handed = end_of_block f.head >>= λ after. gives
    (leaves after, record { frames = outer; handed = leave f.info handed })

-- a definition, whose id began at `first`
abbrev pub define_rule : Shapes → Frame → List Frame → (first : ℕ) → Handed
    → Grammar (Event × machine.Machine)
define_rule shapes f outer first handed = define shapes first (scope_of f handed) >>= λ definition.
    gives (defines definition.0, inside f.head outer definition.1)

-- a record with this id, which began at `first`
abbrev pub record_rule : (limit : ℕ) → Frame → List Frame → (first id : ℕ) → Handed
    → Grammar (Event × machine.Machine)
record_rule limit f outer first id handed = record_after limit first id (scope_of f handed) >>=
    λ item. gives (notes item.0, inside f.head outer item.1)
