-- Definitions whose operands stand in one list, which grows.
use Rattle.std.proofs.Common.{◌≡◌, List, [], ◌∷◌, ◌++◌, length, ap, sym, ◌∙◌, subst, arith, drop, append_assoc}
use Rattle.std.proofs.lemmas.List.{length-append, drop-append-le}
use Rattle.std.proofs.Math.Seq.{drop-append_seam}
use Rattle.std.specs.List.{AllByRecursion}
use Rattle.bit_grammar.specs.declared.op.Op.{Op}
use Rattle.bit_grammar.specs.FormatDefinition.{Definable}
use Rattle.bit_abbrev.specs.declared.held.Head.{Head}
use Rattle.bit_abbrev.specs.declared.held_op.HeldOp.{HeldOp}
use Rattle.bit_abbrev.specs.declared.held_op.HeldOp.TheVariants.{End}
use Rattle.bit_abbrev.specs.Heads.{ops_of, IsHeld, AreHeld}
use Rattle.bit_abbrev.specs.HeldOps.{ops_in, Ends, Extends, Holds}
use Rattle.bit_abbrev.proofs.Encoded.{does_end, ended, ends_after, same_after}

-- operands are the same in a longer list
pub same_in_more : (all more : List HeldOp) (head : Head) → IsHeld all head → ops_of (all ++ more) head ≡ ops_of all head
same_in_more all more head h = ap ops_in (drop-append-le head.start all more h.0) ∙ same_after (drop head.start all) more h.1

held_in_more : (all more : List HeldOp) (head : Head) → IsHeld all head → IsHeld (all ++ more) head
held_in_more all more head h = (
  omega (arith, h.0, length-append all more),
  subst Ends (sym (drop-append-le head.start all more h.0)) (ends_after (drop head.start all) more h.1),
  subst Definable (sym (same_in_more all more head h)) h.2,
)

pub all_in_more : (all new : List HeldOp) (heads : List Head) → Extends all new → AreHeld all heads → AreHeld new heads
all_in_more all new [] longer h = tt
all_in_more all new (head ∷ heads) longer h = (rw longer.is (held_in_more all longer.added head h.0), all_in_more all new heads longer h.1)

-- a definition that is added behind all others
pub added_ops : {all mid new : List HeldOp} {ops : List Op} (head : Head) → head.start ≡ length all → Holds all mid ops → new ≡ mid ++ End ∷ [] → ops_of new head ≡ ops
added_ops {all} head is holds ends =
    let added = holds.more_held.added in
    rw (is, ends, holds.more_held.is, append_assoc all added (End ∷ []), drop-append_seam all (added ++ End ∷ [])) (ended added holds.none ∙ holds.same)

pub added_held : {all mid new : List HeldOp} {ops : List Op} (head : Head) → head.start ≡ length all → Holds all mid ops → new ≡ mid ++ End ∷ [] → Definable ops → IsHeld new head
added_held {all} {mid} head is holds ends definable =
    let added = holds.more_held.added in (
      omega (arith, is, ap length ends, length-append mid (End ∷ []), ap length holds.more_held.is, length-append all added),
      rw (is, ends, holds.more_held.is, append_assoc all added (End ∷ []), drop-append_seam all (added ++ End ∷ [])) (does_end added []),
      subst Definable (sym (added_ops head is holds ends)) definable,
    )

-- one more at the end
pub and_one : {X : Type 0} (P : X → Type 0) (xs : List X) (x : X) → AllByRecursion P xs → P x → AllByRecursion P (xs ++ x ∷ [])
and_one P [] x all here = (here, tt)
and_one P (y ∷ xs) x all here = (all.0, and_one P xs x all.1 here)
