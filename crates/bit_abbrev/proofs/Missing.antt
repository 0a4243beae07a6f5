-- Calls that may miss what they should read, one after another.
use Rattle.std.proofs.Common.{◌≡◌, ℕ, List, Result, Ok, Err}
use Rattle.bit_grammar.specs.Grammar.{Grammar}
use Rattle.bit_fields.specs.declared.fault.Fault.{Fault}
use Rattle.bit_fields.specs.declared.fault.Fault.TheVariants.{Memory}
use Rattle.bit_fields.specs.Reader.{Reader, Took, failed_reader}
use Rattle.bit_abbrev.specs.Bits.{Answers}
use Rattle.bit_abbrev.specs.Values.{AddsAll, Has}
use Rattle.bit_abbrev.proofs.Taking.{SoFar, far_refused}

-- a consequence for each result
pub answers_so : {A M : Type 0} (faults : M → Fault → Type 0) (P Q : Result A Fault → Type 0) (result : Result A M) → ((r : Result A Fault) → P r → Q r) → Answers faults P result → Answers faults Q result
answers_so faults P Q (Ok x) so h = so (Ok x) h
answers_so faults P Q (Err miss) so h = λ fault stands. so (Err fault) (h fault stands)

-- an allocation fails for a value that was read
pub far_full : {V : Type 0} (took : V → List ℕ → Type 0) (v w : V) (rule : Grammar ℕ) (count : ℕ) (a : Reader) (before : List ℕ) (done : ℕ) (b : Reader) (value : ℕ) (c : Reader) (fault : Fault) (d : Reader) → Has took v (SoFar rule count a done b before) → Took rule b value c → ((values : List ℕ) → took v values → took w values) → (fault ≡ Memory) × (d ≡ failed_reader c) → Has took w (AddsAll rule count a (Err fault) d before)
far_full took v w rule count a before done b value c fault d h t same full = rw (full.0, full.1) (far_refused took v w rule count a before done b value c h t same)
