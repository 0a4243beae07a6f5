-- The effect of comparing the bytes of an input with those of another one before it is read.
use Rattle.std.specs.Prelude.{◌≡◌, ◌<◌, ◌≤◌, ◌+◌, min, ◌-◌, ◌^◌, ℕ, zero, suc, Bool, true, false, List, [], ◌∷◌, ◌++◌, length, take, drop, Option, Some, None, Result, Ok, Err}
use Rattle.std.specs.Io.KnownBytes.{Consumes, IsAtEnd, prepend_known}
use Rattle.bit_grammar.specs.Setting.{Setting}
use Rattle.bit_grammar.specs.Blocks.{Limits}
use Rattle.bit_grammar.specs.Input.{SpellsInput}
use Rattle.bit_grammar.specs.Terms.{Marked}
use Rattle.bit_fields.specs.declared.fault.Fault.TheVariants.{Memory}
use Rattle.bit_fields.specs.declared.source.SourceFailed.{SourceFailed}
use Rattle.bit_fields.specs.Devices.{Incoming, Calls, keeping, calling, SaysOf, GaveNone, Begins}
use Rattle.bit_events.specs.Reading.{Spent, LostInput}
use Rattle.bit_norm.specs.InStep.{ComparesWith}
use Rattle.bit_norm.specs.declared.differences.Difference.{Difference}
use Rattle.bit_norm.specs.declared.comparing.Which.TheVariants.{Second}
use Rattle.bit_norm.specs.declared.comparing.SameFault.{SameFault}
use Rattle.bit_norm.specs.declared.again.Again.{Again}
use Rattle.bit_norm.specs.declared.again.Slices.{Slices}
use Rattle.bit_norm.specs.declared.alike.Beginning.{Beginning}
use Rattle.bit_norm.specs.declared.alike.Stop.{Stop}
use Rattle.bit_norm.specs.declared.alike.Stop.TheVariants.{Silent, Other, End}
use Rattle.bit_norm.specs.declared.alike.Beginning.TheVariants.{Same, Ended, Taken}

-- ---- a source that gives bytes again

-- all bytes that are given again
abbrev pub held_of : Again → List ℕ
held_of a = a.slice.now ++ (a.rest.now ++ a.next.now)

-- in how many slices, and so in how many calls at least, all these bytes are given
abbrev pub owed_of : Again → ℕ
owed_of a = min 1 (length a.slice.now) + (a.more + min 1 (length a.next.now))

-- the list has an element
abbrev pub has_some : List ℕ → Bool
has_some [] = false
has_some (x ∷ xs) = true

-- the number is not 0
abbrev pub is_more : ℕ → Bool
is_more zero = false
is_more (suc n) = true

-- these counts of a source and of the one that it calls
abbrev pub calls_with : (owed pulls failures : ℕ) → Incoming → Calls
calls_with owed pulls failures i = record {
  pulls = i.pulls;
  failures = i.failures;
  asked = pulls + owed;
  failed = failures;
  left = 2 ^ 64 - 1 - pulls;
}

-- A source that gives bytes again before it calls another one, in `owed` calls at least, with counts of its own. It accounts for
-- the other source: as long as not all these bytes are given that one still has its bytes, and as long as it owes calls that one
-- has its count of pulls; and for its calls of it.
abbrev pub rejoined_of : (held : List ℕ) → (owed pulls failures : ℕ) → Incoming → Incoming
rejoined_of held owed pulls failures i = record {
  to_come = prepend_known held i.to_come;
  pulls = pulls;
  failures = failures;
  accounts = keeping (has_some held) i.to_come ∷ keeping (is_more owed) (Some (i.pulls ∷ []))
      ∷ calling (calls_with owed pulls failures i) ∷ i.accounts;
}

-- ---- bytes that are taken

-- these bytes were taken in so many calls
pub record Takes (old : Incoming) (calls : ℕ) (gone : List ℕ) (new : Incoming) : Type 0 where
  pub bytes : Consumes old.to_come new.to_come gone
  pub pulls : new.pulls ≡ old.pulls + calls
  pub failures : new.failures ≡ old.failures
  pub accounts : (n : ℕ) (all : List ℕ) → SaysOf old.accounts n all → SaysOf new.accounts n all

-- More slices of an input were taken, which have the next of these bytes, each in a call; and so many calls gave none.
pub record TakesMore (first : List ℕ) (none : ℕ) (s : Slices) (old : Incoming) (t : Slices) (new : Incoming)
    : Type 0 where
  pub width : ℕ
  pub calls : ℕ
  pub bytes : t.bytes ≡ s.bytes + width
  pub count : t.count ≡ s.count + calls
  pub few : t.bytes ≤ length first
  pub takes : Takes old (calls + none) (take width (drop s.bytes first)) new

-- what was to come, if it was known, begins with the bytes that were taken and so many more, all of them the next of these
pub record GoesOnAs (first : List ℕ) (equal : ℕ) (s : Slices) (old : Incoming) (t : Slices) : Type 0 where
  pub few : t.bytes + equal ≤ length first
  pub same : Begins old.to_come (drop s.bytes (take (t.bytes + equal) first))

-- how many bytes behind those that were taken are known to be the same
abbrev pub equal_behind : Stop → ℕ
equal_behind Silent = 0
equal_behind (Other equal) = equal
equal_behind End = 0

-- more slices were taken, and then no more
abbrev pub StopsAt : Stop → (first : List ℕ) → Slices → Incoming → Slices → Incoming → Type 0
StopsAt Silent first s old t new = TakesMore first 0 s old t new
StopsAt (Other equal) first s old t new = TakesMore first 0 s old t new × GoesOnAs first equal s old t
StopsAt End first s old t new = TakesMore first 1 s old t new × IsAtEnd new.to_come

-- more slices were taken, and then the source failed
pub record Breaks (first : List ℕ) (s : Slices) (old : Incoming) (t : Slices) (new : Incoming) : Type 0 where
  pub mid : Incoming
  pub takes : TakesMore first 0 s old t mid
  pub none : GaveNone mid new

-- the next slice was taken, if it has the next of these bytes
abbrev pub TakesSlice : (first : List ℕ) → Slices → Incoming → Result (Option Stop) SourceFailed → Slices → Incoming → Type 0
TakesSlice first s old (Ok None) t new = TakesMore first 0 s old t new × (s.bytes < t.bytes)
TakesSlice first s old (Ok (Some stop)) t new = StopsAt stop first s old t new
TakesSlice first s old (Err e) t new = Breaks first s old t new

-- slices were taken as long as they have the next of these bytes
abbrev pub TakesSlices : (first : List ℕ) → Slices → Incoming → Result Stop SourceFailed → Slices → Incoming → Type 0
TakesSlices first s old (Ok stop) t new = StopsAt stop first s old t new
TakesSlices first s old (Err e) t new = Breaks first s old t new

-- the next bytes were taken, or the source was looked at
abbrev pub TakesNext : (next : List ℕ) → Incoming → Result (Option ℕ) SourceFailed → Incoming → Type 0
TakesNext next old (Ok None) new = Takes old 0 [] new
TakesNext next old (Ok (Some count)) new = (count ≤ length next) × (count ≡ 0 → IsAtEnd new.to_come)
    × Takes old 1 (take count next) new
TakesNext next old (Err e) new = GaveNone old new

-- These slices of an input were taken, which have the first bytes of another one, and others after them. Behind the slices so many
-- bytes are the same too, if the input is known.
pub record TakesFront (limits : Limits) (first next : List ℕ) (old : Incoming) (s : Slices) (more equal : ℕ)
    (new : Incoming) : Type 0 where
  pub few : s.bytes + equal ≤ length first
  pub within : s.bytes ≤ limits.bytes
  pub there : more ≤ length next
  pub one : more ≤ 1
  pub takes : Takes old (s.count + min 1 more) (take s.bytes first ++ take more next) new
  pub same : Begins old.to_come (take (s.bytes + equal) first)

-- all bytes of an input were taken, and are these
pub record TakesSame (limits : Limits) (first : List ℕ) (old new : Incoming) : Type 0 where
  pub spent : Spent limits old new
  pub bytes : Consumes old.to_come new.to_come first
  pub end : IsAtEnd new.to_come

-- all bytes of an input were taken, and are the first ones of these
pub record TakesEnd (limits : Limits) (first : List ℕ) (old : Incoming) (s : Slices) (new : Incoming)
    : Type 0 where
  pub few : s.bytes ≤ length first
  pub within : s.bytes ≤ limits.bytes
  pub takes : Takes old (s.count + 1) (take s.bytes first) new
  pub end : IsAtEnd new.to_come

-- the effect of taking the bytes of an input that begin as these
abbrev pub TakesBeginning : Limits → (first : List ℕ) → Slices → (next : List ℕ) → Incoming → Result Beginning SourceFailed → Incoming → Type 0
TakesBeginning limits first s next old (Ok Same) new = TakesSame limits first old new
TakesBeginning limits first s next old (Ok Ended) new = TakesEnd limits first old s new
TakesBeginning limits first s next old (Ok (Taken more silent equal)) new = TakesFront limits first next old s more equal new
TakesBeginning limits first s next old (Err e) new = LostInput limits old new

-- ---- the comparison

-- the same answer, in which a fault is one of the second input
abbrev pub OfSecond : Result (Option Difference) SameFault → Result (Option Difference) SameFault → Type 0
OfSecond (Ok found) answer = answer ≡ Ok found
OfSecond (Err e) answer = answer ≡ Err (record { which = Second; fault = e.fault })

-- the same source, if its bytes are not known
abbrev pub unknown : Incoming → Incoming
unknown i = record i { to_come = None }

-- the bytes are the same, and accepted if that was not said; or an allocation failed
abbrev pub Confirms : (judged : Bool) → Limits → (bytes : List ℕ) → Result (Option Difference) SameFault → Type 0
Confirms judged limits bytes (Ok None) = judged ≡ false → (m : Marked) × SpellsInput limits bytes m
Confirms judged limits bytes (Ok (Some difference)) = ⊥
Confirms judged limits bytes (Err e) = e ≡ record { which = Second; fault = Memory }

-- The effect of comparing an input with bytes: as said if these are known to be accepted, and else as for a source whose bytes are
-- not known.
pub record ComparesChecked (judged : Bool) (setting : Setting) (limits : Limits) (bytes : List ℕ) (j : Incoming)
    (answer : Result (Option Difference) SameFault) (later : Incoming) : Type 0 where
  pub accepted : (m : Marked) → SpellsInput limits bytes m → ComparesWith setting limits bytes j answer later
  pub unknown : ComparesWith setting limits bytes (unknown j) answer later
  pub plain : judged ≡ false → ComparesWith setting limits bytes j answer later
