-- An input that is kept while it is read.
use Rattle.std.proofs.Common.{◌≡◌, Bool, true, false, List, [], ℕ, Option, Some, None, Result, Ok, Err, MatchResult, refl, subst}
use Rattle.std.specs.Prelude.{IsSome}
use Rattle.bit_grammar.specs.Blocks.{Limits}
use Rattle.bit_fields.specs.declared.fault.Fault.{Fault}
use Rattle.bit_fields.specs.declared.fault.Fault.TheVariants.{Refused, Read, Write, Memory, OutputTooLong, Failed}
use Rattle.bit_fields.specs.Devices.{Incoming, known_bytes, keeps_of}
use Rattle.bit_fields.proofs.Keeping.{spends_within, fails_within, all_kept}
use Rattle.bit_events.specs.Reading.{Spent, ReadsWhole}

-- the state of the source at the end
pub record Stands (q now : Incoming) : Type 0 where
  pub is : Bool
  pub bytes : List ℕ
  pub same : q ≡ keeps_of is bytes now

pub stands : {A E : Type 0} (items : A → List ℕ) (kept : Result A E) (q now : Incoming) → MatchResult kept (λ a. q ≡ keeps_of true (items a) now) (λ e. (bytes : List ℕ) × (q ≡ keeps_of false bytes now)) → Stands q now
stands items (Ok a) q now h = record { is = true; bytes = items a; same = h }
stands items (Err e) q now h = record { is = false; bytes = h.0; same = h.1 }

misread : {A B : Type 0} (Holds : List ℕ → A → Type 0) (Others : List ℕ → B → Type 0) (limits : Limits) (is : Bool) (bytes : List ℕ) (i now : Incoming) (fault : Fault)
    → ReadsWhole Holds limits (keeps_of true [] i) (Err fault) (keeps_of is bytes now) → ReadsWhole Others limits i (Err fault) now
misread Holds Others limits is bytes i now (Refused reason bit) read = (spends_within true is [] bytes i now _ _ read.0, read.1)
misread Holds Others limits is bytes i now Read read = fails_within true is [] bytes i now _ _ read
misread Holds Others limits is bytes i now Memory read = spends_within true is [] bytes i now _ _ read
misread Holds Others limits is bytes i now Write read = absurd read
misread Holds Others limits is bytes i now OutputTooLong read = absurd read
misread Holds Others limits is bytes i now Failed read = absurd read

-- it was not accepted
pub kept_misread : {A B : Type 0} (Holds : List ℕ → A → Type 0) (Others : List ℕ → B → Type 0) (limits : Limits) (i p q now : Incoming) (fault : Fault)
    → p ≡ keeps_of true [] i → Stands q now → ReadsWhole Holds limits p (Err fault) q → ReadsWhole Others limits i (Err fault) now
kept_misread Holds Others limits i p q now fault begun s read =
    misread Holds Others limits s.is s.bytes i now fault (subst (λ (r : Incoming). ReadsWhole Holds limits (keeps_of true [] i) (Err fault) r) s.same (subst (λ (r : Incoming). ReadsWhole Holds limits r (Err fault) q) begun read))

-- it was, but an allocation for its bytes failed
pub kept_lost : {A : Type 0} (Holds : List ℕ → A → Type 0) (limits : Limits) (i p q now : Incoming) (a : A) → p ≡ keeps_of true [] i → Stands q now → ReadsWhole Holds limits p (Ok a) q → Spent limits i now
kept_lost Holds limits i p q now a begun s read =
    spends_within true s.is [] s.bytes i now _ _ (subst (λ (r : Incoming). Spent limits (keeps_of true [] i) r) s.same (subst (λ (r : Incoming). Spent limits r q) begun read.0))

known_told : (o : Option (List ℕ)) → IsSome o → o ≡ Some (known_bytes o)
known_told None tells = absurd cc
known_told (Some bytes) tells = refl

whole_read : {A : Type 0} (Holds : List ℕ → Type 0) (limits : Limits) (bytes : List ℕ) (i now : Incoming) (a : A) → ReadsWhole (λ (all : List ℕ) (a : A). Holds all) limits (keeps_of true [] i) (Ok a) (keeps_of true bytes now)
    → Spent limits i now × (IsSome i.to_come → ((bytes ≡ known_bytes i.to_come) × Holds (known_bytes i.to_come)) × (known_bytes now.to_come ≡ []))
whole_read Holds limits bytes i now a read = (
  spends_within true true [] bytes i now _ _ read.0,
  λ tells. let whole = read.1 tells in ((all_kept bytes (known_bytes i.to_come) i now _ _ read.0 (known_told i.to_come tells) whole.1, whole.0), whole.1),
)

-- it was, and these are its bytes
pub kept_read : {A : Type 0} (Holds : List ℕ → Type 0) (limits : Limits) (bytes : List ℕ) (i p q now : Incoming) (a : A) → p ≡ keeps_of true [] i → q ≡ keeps_of true bytes now → ReadsWhole (λ (all : List ℕ) (a : A). Holds all) limits p (Ok a) q
    → Spent limits i now × (IsSome i.to_come → ((bytes ≡ known_bytes i.to_come) × Holds (known_bytes i.to_come)) × (known_bytes now.to_come ≡ []))
kept_read {A = A} Holds limits bytes i p q now a begun ended read =
    let Whole : Incoming → Incoming → Type 0 = λ before after. ReadsWhole (λ (all : List ℕ) (a : A). Holds all) limits before (Ok a) after in
    whole_read Holds limits bytes i now a (subst (λ (r : Incoming). Whole (keeps_of true [] i) r) ended (subst (λ (r : Incoming). Whole r q) begun read))
