-- The result of a call that may miss what it should read.
use Rattle.std.specs.Prelude.{◌≡◌, Option, Some, None, Result, Ok, Err, IsErr}
use Rattle.bit_fields.specs.declared.fault.Fault.{Fault}

-- This is true of the result; after a miss, of each fault that the miss means.
abbrev pub Answers : {A M : Type 0} → (faults : M → Fault → Type 0) → (Result A Fault → Type 0)
    → Result A M → Type 0
Answers faults P (Ok x) = P (Ok x)
Answers faults P (Err miss) = (fault : Fault) → faults miss fault → P (Err fault)

-- the result for what was found, or was not
abbrev pub IsHere : {A M : Type 0} → Option A → Result A M → Type 0
IsHere (Some x) result = result ≡ Ok x
IsHere None result = IsErr result
