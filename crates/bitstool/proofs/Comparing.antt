-- Comparing the first bytes of an input with the rest.
use Rattle.std.proofs.Common.{◌≡◌, ℕ, ◌+◌, ◌-◌, ◌^◌, ◌<◌, min, List, take, drop, Option, Some, None, Ok, Err, refl, sym, subst, inl, arith}
use Rattle.std.specs.Prelude.{IsSome, IfSome, option_map}
use Rattle.bit_grammar.specs.Setting.{Setting}
use Rattle.bit_grammar.specs.Under.{under}
use Rattle.bit_grammar.specs.Bits.{bits_of_bytes}
use Rattle.bit_grammar.specs.Grammar.{at}
use Rattle.bit_grammar.specs.Forest.{Tree}
use Rattle.bit_grammar.specs.Terms.{Marked}
use Rattle.bit_grammar.specs.Blocks.{Limits}
use Rattle.bit_grammar.specs.Input.{Accepts, BreaksInput, tree_of}
use Rattle.bit_grammar.specs.Normal.{HasTree}
use Rattle.bit_fields.specs.declared.fault.Fault as code
use Rattle.bit_fields.specs.declared.fault.Fault.TheVariants as fault
use Rattle.bit_fields.specs.Devices.{Incoming, Spends, Fails, known_bytes}
use Rattle.bit_fields.specs.Front.{front_of}
use Rattle.bit_fields.proofs.Fronts.{fails_behind, spends_behind}
use Rattle.bit_events.specs.Reading.{Spent, LostInput}
use Rattle.bit_norm.specs.declared.comparing.Which.{Which}
use Rattle.bit_norm.specs.declared.comparing.Which.TheVariants.{First, Second}
use Rattle.bit_norm.specs.declared.comparing.SameFault.{SameFault}
use Rattle.bit_norm.specs.declared.differences.Difference.{Difference}
use Rattle.bit_norm.specs.Entries.{difference_shown}
use Rattle.bit_norm.specs.Whole.{FindsDifference, FindsInParts, HasRest, HasRestUnless, Misreads, ReadsMarked, ReadsTree}
use Rattle.bitstool.specs.declared.outcome.Outcome.{Outcome}
use Rattle.bitstool.specs.declared.outcome.Outcome.TheVariants.{Done, Different, Refused, RefusedOf, TooLong, Read, Memory}
use Rattle.bitstool.specs.declared.task.LeftOut.{LeftOut}
use Rattle.bitstool.specs.declared.task.Explain.{Explain}
use Rattle.bitstool.specs.declared.task.Explain.TheVariants.{Word, Lines, Json}
use Rattle.bitstool.specs.declared.task.Task.TheVariants.{Same}
use Rattle.bit_norm.proofs.Apart.{never_same}
use Rattle.bitstool.specs.Differences.{different_text, same_text}
use Rattle.bitstool.specs.LeftOut.{setting_for}
use Rattle.bitstool.specs.Performing.{ComparesParts, FindsForTask, outcome_found, outcome_in}
use Rattle.bitstool.specs.Runs.{Answers, DifferFirst, IsDrained, TakesInput, ToldBytes}
use Rattle.bitstool.proofs.Taking.{drained, fails_more, fails_then, spends_more, spends_then}
use Rattle.bitstool.proofs.Known.{if_told}

-- ---- the result of a comparison

-- the second input is what follows the first
second_is : (P : List ℕ → List ℕ → Type 0) (first : ℕ) (o j : ToldBytes) → (IsSome o → j ≡ option_map (drop first) o) → IfSome (option_map (take first) o) (λ x. IfSome j (λ y. P x y)) → IfSome (option_map (take first) o) (λ x. IfSome (option_map (drop first) o) (λ y. P x y))
second_is P first None j is h = tt
second_is P first (Some bytes) j is h = subst (λ (rest : ToldBytes). IfSome rest (λ y. P (take first bytes) y)) (is refl) h

both_told : (P : List ℕ → List ℕ → Type 0) (a b : ToldBytes) → (IsSome a → IsSome b → P (known_bytes a) (known_bytes b)) → IfSome a (λ x. IfSome b (λ y. P x y))
both_told P a b h = if_told a (λ x. IfSome b (λ y. P x y)) (λ one. if_told b (λ y. P (known_bytes a) y) (λ two. h one two))

module _ (setting : Setting) (limits : Limits) (first left pulls failures : ℕ) (i j later : Incoming) where
  -- for two inputs that were read
  found_parts : (found : Option Difference) → FindsDifference setting limits (front_of first 0 0 i) j (Ok found) (front_of left pulls failures j) later → HasRest first i j → ComparesParts setting limits first i.to_come (Ok found)
  found_parts None h rest =
      let Same : List ℕ → List ℕ → Type 0 = λ x y. (tree : Tree) × HasTree setting limits x tree × HasTree setting limits y tree in
      second_is Same first i.to_come j.to_come rest (both_told Same (front_of first 0 0 i).to_come j.to_come (λ one two. (under setting (tree_of h.0), (h.0, (h.2.1 one).0, refl), (h.1, (h.3.1 two).0, sym (h.4 one two)))))
  found_parts (Some difference) h rest =
      let Apart : List ℕ → List ℕ → Type 0 = λ x y. DifferFirst setting limits x y (difference_shown difference) in
      second_is Apart first i.to_come j.to_come rest (both_told Apart (front_of first 0 0 i).to_come j.to_come (λ one two. (h.0, h.1, (h.2.1 one).0, (h.3.1 two).0, h.4 one two)))

  -- one was not read
  fault_parts : (limit : ℕ) (which : Which) (why : code.Fault) → Misreads setting limits which why (front_of first 0 0 i) j (front_of left pulls failures j) later → HasRestUnless which first i j → ComparesParts setting limits first i.to_come (Err (outcome_in which limit why))
  fault_parts limit First (fault.Refused reason bit) h rest = if_told (front_of first 0 0 i).to_come (λ bytes. BreaksInput limits bytes (at reason bit)) h.0.1
  fault_parts limit Second (fault.Refused reason bit) h rest =
      let Broken : List ℕ → List ℕ → Type 0 = λ x y. Accepts limits x × BreaksInput limits y (at reason bit) in
      second_is Broken first i.to_come j.to_come rest (both_told Broken (front_of first 0 0 i).to_come j.to_come (λ one two. let has = (h.1.1 one).0.0 in ((has.0, has.1), h.2.1 two)))
  fault_parts limit First fault.Read h rest = tt
  fault_parts limit Second fault.Read h rest = tt
  fault_parts limit First fault.Memory h rest = tt
  fault_parts limit Second fault.Memory h rest = tt
  fault_parts limit First fault.Write h rest = h.0
  fault_parts limit Second fault.Write h rest = h.2
  fault_parts limit First fault.OutputTooLong h rest = h.0
  fault_parts limit Second fault.OutputTooLong h rest = h.2
  fault_parts limit First fault.Failed h rest = absurd h.0
  fault_parts limit Second fault.Failed h rest = absurd h.2

  -- ---- the bytes that were taken

  -- of the first input
  front_spent : Spent limits (front_of first 0 0 i) (front_of left pulls failures j) → Spends i (min first (limits.bytes + 1)) j 0
  front_spent h = spends_behind first left pulls failures i j (limits.bytes + 1) 0 h

  front_lost : limits.bytes + 1 < 2 ^ 64 - 1 → LostInput limits (front_of first 0 0 i) (front_of left pulls failures j) → Fails i (min first (limits.bytes + 1)) j 0
  front_lost small h = fails_behind first left pulls failures i j (limits.bytes + 1) 0 small h

  -- of both
  abbrev Most : ℕ
  Most = min first (limits.bytes + 1) + (limits.bytes + 1)

  both_spent : Spent limits (front_of first 0 0 i) (front_of left pulls failures j) → Spent limits j later → Spends i Most later 0
  both_spent h k = spends_then i j later (min first (limits.bytes + 1)) (limits.bytes + 1) (front_spent h) k

  both_lost : Spent limits (front_of first 0 0 i) (front_of left pulls failures j) → LostInput limits j later → Fails i Most later 0
  both_lost h k = fails_then i j later (min first (limits.bytes + 1)) (limits.bytes + 1) (front_spent h) k

  first_spent : Spent limits (front_of first 0 0 i) (front_of left pulls failures j) → Spends i Most j 0
  first_spent h = spends_more i j (min first (limits.bytes + 1)) Most (omega arith) (front_spent h)

  first_lost : limits.bytes + 1 < 2 ^ 64 - 1 → LostInput limits (front_of first 0 0 i) (front_of left pulls failures j) → Fails i Most j 0
  first_lost small h = fails_more i j (min first (limits.bytes + 1)) Most (omega arith) (front_lost small h)

  -- all bytes of an accepted input
  all_taken : (a b : Marked) → ReadsMarked limits (front_of first 0 0 i) a (front_of left pulls failures j) → ReadsMarked limits j b later → IsDrained i later
  all_taken a b h k =
      let known = (front_spent h.0).tells in
      drained i later (λ t. k.0.tells (known t)) (λ t. (k.1 (known t)).1)

  taken_parts : (out : LeftOut) (explain : Explain) (found : Option Difference) → FindsDifference setting limits (front_of first 0 0 i) j (Ok found) (front_of left pulls failures j) later → TakesInput (Same first explain limits out) i later (outcome_found (Ok found))
  taken_parts out explain None h = (both_spent h.2.0 h.3.0, all_taken h.0 h.1 h.2 h.3)
  taken_parts out explain (Some difference) h = (both_spent h.2.0 h.3.0, all_taken h.0 h.1 h.2 h.3)

  taken_first : limits.bytes + 1 < 2 ^ 64 - 1 → (out : LeftOut) (explain : Explain) (why : code.Fault) → ReadsTree setting limits (front_of first 0 0 i) (Err why) (front_of left pulls failures j) → TakesInput (Same first explain limits out) i j (outcome_in First limits.bytes why)
  taken_first small out explain (fault.Refused reason bit) h = (front_spent h.0, tt)
  taken_first small out explain fault.Read h = (first_lost small h, tt)
  taken_first small out explain fault.Memory h = (inl (first_spent h), tt)
  taken_first small out explain fault.Write h = absurd h
  taken_first small out explain fault.OutputTooLong h = absurd h
  taken_first small out explain fault.Failed h = absurd h

  taken_fault : limits.bytes + 1 < 2 ^ 64 - 1 → (out : LeftOut) (explain : Explain) (which : Which) (why : code.Fault) → Misreads setting limits which why (front_of first 0 0 i) j (front_of left pulls failures j) later → TakesInput (Same first explain limits out) i later (outcome_in which limits.bytes why)
  taken_fault small out explain First why h = subst (λ (n : Incoming). TakesInput (Same first explain limits out) i n (outcome_in First limits.bytes why)) (sym h.1) (taken_first small out explain why h.0)
  taken_fault small out explain Second (fault.Refused reason bit) h = (both_spent h.1.0 h.2.0, tt)
  taken_fault small out explain Second fault.Read h = (both_lost h.1.0 h.2, tt)
  taken_fault small out explain Second fault.Memory h = (inl (both_spent h.1.0 h.2), tt)
  taken_fault small out explain Second fault.Write h = absurd h.2
  taken_fault small out explain Second fault.OutputTooLong h = absurd h.2
  taken_fault small out explain Second fault.Failed h = absurd h.2

-- the two inputs were compared
module _ (out : LeftOut) (limits : Limits) (first : ℕ) (i later : Incoming) where
  pub compared : (found : Option Difference) → FindsInParts (setting_for out) limits first i (Ok found) later → ComparesParts (setting_for out) limits first i.to_come (Ok found)
  compared found h = found_parts (setting_for out) limits first h.0 h.1 h.2 i h.3 later found h.4 h.5

  pub compared_taken : (explain : Explain) (found : Option Difference) → FindsInParts (setting_for out) limits first i (Ok found) later → TakesInput (Same first explain limits out) i later (outcome_found (Ok found))
  compared_taken explain found h = taken_parts (setting_for out) limits first h.0 h.1 h.2 i h.3 later out explain found h.4

  -- or not
  pub misread : (limit : ℕ) (e : SameFault) → FindsInParts (setting_for out) limits first i (Err e) later → ComparesParts (setting_for out) limits first i.to_come (Err (outcome_in e.which limit e.fault))
  misread limit e h = fault_parts (setting_for out) limits first h.0 h.1 h.2 i h.3 later limit e.which e.fault h.4 h.5

  pub misread_taken : limits.bytes + 1 < 2 ^ 64 - 1 → (explain : Explain) (e : SameFault) → FindsInParts (setting_for out) limits first i (Err e) later → TakesInput (Same first explain limits out) i later (outcome_in e.which limits.bytes e.fault)
  misread_taken small explain e h = taken_fault (setting_for out) limits first h.0 h.1 h.2 i h.3 later small out explain e.which e.fault h.4

-- ---- the report on that

-- both have one tree
pub same_answers : (out : LeftOut) (limits : Limits) (first : ℕ) (explain : Explain) (input : ToldBytes) → ComparesParts (setting_for out) limits first input (Ok None) → Answers (Same first explain limits out) input Done (bits_of_bytes (same_text explain))
same_answers out limits first explain None h = (refl, tt)
same_answers out limits first explain (Some input) h = (refl, h)

-- they differ
pub apart_answers : (out : LeftOut) (limits : Limits) (first : ℕ) (explain : Explain) (input : ToldBytes) (difference : Difference) → ComparesParts (setting_for out) limits first input (Ok (Some difference))
    → Answers (Same first explain limits out) input Different (bits_of_bytes (different_text explain (difference_shown difference)))
apart_answers out limits first Lines None difference h = (difference_shown difference, refl, tt)
apart_answers out limits first Lines (Some input) difference h = (difference_shown difference, refl, h)
apart_answers out limits first Json None difference h = (difference_shown difference, refl, tt)
apart_answers out limits first Json (Some input) difference h = (difference_shown difference, refl, h)
apart_answers out limits first Word None difference h = (refl, tt)
apart_answers out limits first Word (Some input) difference h =
    let setting = setting_for out in
    (refl, (under setting (tree_of h.0), under setting (tree_of h.1), (h.0, h.2, refl), (h.1, h.3, refl), never_same setting h.0 h.1 (difference_shown difference) h.4))

-- one was not read
pub unread_finds : (out : LeftOut) (limits : Limits) (first : ℕ) (explain : Explain) (input : ToldBytes) (outcome : Outcome) → ComparesParts (setting_for out) limits first input (Err outcome) → FindsForTask (Same first explain limits out) input outcome
unread_finds out limits first explain None (RefusedOf First reason bit) h = tt
unread_finds out limits first explain None (RefusedOf Second reason bit) h = tt
unread_finds out limits first explain (Some input) (RefusedOf First reason bit) h = h
unread_finds out limits first explain (Some input) (RefusedOf Second reason bit) h = h
unread_finds out limits first explain input Read h = tt
unread_finds out limits first explain input Memory h = tt
unread_finds out limits first explain input (Refused reason bit) h = h
unread_finds out limits first explain input (TooLong limit) h = h
unread_finds out limits first explain input outcome h = absurd h
