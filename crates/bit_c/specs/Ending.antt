-- The outcome of a call, and the status and fault that C gets.
use Rattle.std.specs.Prelude.{◌≡◌, ℕ}
use Rattle.bit_grammar.specs.Reasons as reasons
use Rattle.bit_fields.specs.declared.fault.Fault.{Fault}
use Rattle.bit_fields.specs.declared.fault.Fault.TheVariants as fault
use Rattle.bit_text.specs.declared.fault.AssembleFault.{AssembleFault}
use Rattle.bit_text.specs.declared.fault.AssembleFault.TheVariants as assembling
use Rattle.bit_text.specs.declared.reason.TextReason.{TextReason}
use Rattle.bit_text.specs.declared.reason.TextReason.TheVariants as text
use Rattle.bit_c.specs.declared.outcome.BsFault.{BsFault}
use Rattle.bit_c.specs.declared.outcome.Outcome.{Outcome}
use Rattle.bit_c.specs.declared.outcome.Outcome.TheVariants.{Done, Different, Refused, RefusedLine, Memory, TooLong, Limits, Room, Closed, Names, Unfit}

-- the status
abbrev pub status_number : Outcome → ℕ
status_number Done = 0
status_number Different = 1
status_number (Refused input reason bit) = 2
status_number (RefusedLine reason line) = 2
status_number Memory = 3
status_number TooLong = 4
status_number Limits = 5
status_number Room = 6
status_number Closed = 7
status_number Names = 8
status_number Unfit = 9

-- the number of a reason why a listing is refused
abbrev pub text_number : TextReason → ℕ
text_number text.NoMagic = 101
text_number text.WrapperMagic = 102
text_number text.BadLine = 103
text_number text.NumberTooLarge = 104
text_number text.BadIndentation = 105
text_number text.TooDeep = 106
text_number text.TooManyValues = 107
text_number text.Misplaced = 108

abbrev pub no_fault : BsFault
no_fault = record { reason = 0; input = 0; bit = 0 }

-- the number of the reason, the input and the bit of a refusal; of a listing the line in place of the bit
abbrev pub fault_told : Outcome → BsFault
fault_told Done = no_fault
fault_told Different = no_fault
fault_told (Refused input reason bit) = record {
  reason = reasons.number_of reason;
  input = input;
  bit = bit;
}
fault_told (RefusedLine reason line) = record {
  reason = text_number reason;
  input = 0;
  bit = line;
}
fault_told Memory = no_fault
fault_told TooLong = no_fault
fault_told Limits = no_fault
fault_told Room = no_fault
fault_told Closed = no_fault
fault_told Names = no_fault
fault_told Unfit = no_fault

-- the outcome of a call by a fault of an input
abbrev pub ended_by : ℕ → Fault → Outcome
ended_by input (fault.Refused reason bit) = Refused input reason bit
ended_by input fault.OutputTooLong = TooLong
ended_by input fault.Memory = Memory
ended_by input fault.Write = Memory
ended_by input fault.Read = Memory
ended_by input fault.Failed = Memory

-- the outcome of a call by a fault of a listing
abbrev pub ended_by_listing : AssembleFault → Outcome
ended_by_listing (assembling.Refused reason line) = RefusedLine reason line
ended_by_listing (assembling.Fault fault) = ended_by 0 fault

-- The status and the fault are those of an outcome with this property.
abbrev pub EndsCall : ℕ → BsFault → (Outcome → Type 0) → Type 0
EndsCall status f Says = (outcome : Outcome) × (status ≡ status_number outcome)
    × (f ≡ fault_told outcome) × Says outcome
