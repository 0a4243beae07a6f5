-- The number of blocks that are open where two inputs differ.
use Rattle.std.proofs.Common.{◌≡◌, ℕ, suc, ◌+◌, ◌≤◌, Bool, true, false, List, [], ◌∷◌, ◌++◌, length, max, subst, arith, inl, inr, length-append}
use Rattle.std.specs.Prelude.{if◌then◌else◌, Option, Some, None}
use Rattle.std.specs.List.{AllByRecursion}
use Rattle.bit_grammar.specs.Setting.{Setting, keeps, keeps_record}
use Rattle.bit_grammar.specs.Blocks as blocks
use Rattle.bit_grammar.specs.Input.{SpellsInput}
use Rattle.bit_grammar.specs.Marks.{Marks, no_marks, marked_block, marked_record, marked_definition, depth_in}
use Rattle.bit_grammar.specs.Terms.{Marked}
use Rattle.bit_grammar.specs.Under.{marks_under}
use Rattle.bit_grammar.proofs.WholeInputs.Limits.{limits_judged}
use Rattle.bit_norm.specs.Entries.{Entry, FirstDifference, Seen, Sign, all_entries, behind, behind_magic, ends, entries, in_magic, open_block_with, over}
use Rattle.bit_norm.specs.declared.differences.OpenBlock.{OpenBlock}
use Rattle.bit_c.specs.declared.difference.BsDifference.{BsDifference}
use Rattle.bit_c.specs.declared.difference.BsOpenBlock.{BsOpenBlock}
use Rattle.bit_c.specs.declared.left_out.BsLeftOut.{BsLeftOut}
use Rattle.bit_c.specs.declared.outcome.Outcome.{Outcome}
use Rattle.bit_c.specs.declared.outcome.Outcome.TheVariants.{Done, Different, Refused, RefusedLine, Memory, TooLong, Limits, Room, Closed, Names, Unfit}
use Rattle.bit_c.specs.Differing.{Differences, DiffersFed, no_difference, open_in}
use Rattle.bit_c.specs.Limiting.{AsksWithin, setting_told}

-- these entries are within at most so many blocks
abbrev AreWithin : ℕ → List Entry → Type 0
AreWithin most es = AllByRecursion (λ (e : Entry). length e.within ≤ most) es

joined : (most : ℕ) (a b : List Entry) → AreWithin most a → AreWithin most b → AreWithin most (a ++ b)
joined most [] b h k = k
joined most (e ∷ a) b h k = (h.0, joined most a b h.1 k)

one_of : (most : ℕ) (front rest : List Entry) (x : Entry) → AreWithin most (front ++ x ∷ rest) → length x.within ≤ most
one_of most [] rest x h = h.0
one_of most (e ∷ front) rest x h = one_of most front rest x h.1

entries_within : (most : ℕ) (marks : Marks) (end : Sign) (within : List OpenBlock) (items ended : ℕ) → length within + depth_in marks ≤ most → AreWithin most (entries end within items ended marks)
entries_within most no_marks end within items ended h = (omega (arith, h), tt)
entries_within most (marked_block mark inner rest) end within items ended h =
    let inside : List OpenBlock = within ++ open_block_with mark.id items ∷ [] in
    let longer : length inside ≡ length within + 1 = length-append within (open_block_with mark.id items ∷ []) in (
      omega (arith, h),
      joined most (entries ends inside 0 mark.body inner) (entries end within (suc items) mark.after rest)
          (entries_within most inner ends inside 0 mark.body (omega (arith, longer, h))) (entries_within most rest end within (suc items) mark.after (omega (arith, h))),
    )
entries_within most (marked_record mark rest) end within items ended h = (omega (arith, h), entries_within most rest end within (suc items) mark.after h)
entries_within most (marked_definition mark rest) end within items ended h = entries_within most rest end within items ended h

depth_left : (s : Setting) (around : ℕ) (m : Marks) → depth_in (marks_under s around m) ≤ depth_in m
depth_left s around no_marks = omega arith
depth_left s around (marked_block mark inner rest) = go (keeps s mark.id) (depth_left s mark.id inner) (depth_left s around rest)
  where
    go : (b : Bool) → depth_in (marks_under s mark.id inner) ≤ depth_in inner → depth_in (marks_under s around rest) ≤ depth_in rest
        → depth_in (if b then marked_block mark (marks_under s mark.id inner) (marks_under s around rest) else marks_under s around rest) ≤ max (suc (depth_in inner)) (depth_in rest)
    go true x y = omega arith
    go false x y = omega arith
depth_left s around (marked_record mark rest) = go (keeps_record s around mark.code) (depth_left s around rest)
  where
    go : (b : Bool) → depth_in (marks_under s around rest) ≤ depth_in rest → depth_in (if b then marked_record mark (marks_under s around rest) else marks_under s around rest) ≤ depth_in rest
    go true y = y
    go false y = y
depth_left s around (marked_definition mark rest) = depth_left s around rest

place_within : (setting : Setting) (limits : blocks.Limits) (bytes : List ℕ) (a b : Marked) (seen : Seen) → SpellsInput limits bytes a → FirstDifference setting a b seen → length (open_in seen.place) ≤ limits.depth
place_within setting limits bytes a b seen spells (in_magic unlike is) = rw is (omega arith)
place_within setting limits bytes a b seen spells (behind same x y apart is) =
    let kept = (limits_judged limits limits bytes a spells).0 spells in
    let all : AreWithin limits.depth (all_entries setting a) =
    entries_within limits.depth (marks_under setting 0 a.blocks) over [] 0 (behind_magic a.head) (omega (arith, depth_left setting 0 a.blocks, kept.1)) in
    rw is (one_of limits.depth apart.front apart.rest x (subst (λ (es : List Entry). AreWithin limits.depth es) apart.first all))

differ_within : (setting : Setting) (limits : blocks.Limits) (first second : List ℕ) (told : BsDifference) (old new : List BsOpenBlock) (outcome : Outcome) → Differences setting limits first second told old new outcome → told.depth ≤ limits.depth
differ_within setting limits first second told old new Done h = rw h.5 (omega arith)
differ_within setting limits first second told old new Different h = rw h.6.0.depth (place_within setting limits first h.0 h.1 h.2 h.3 h.5)
differ_within setting limits first second told old new Room h = rw h.6.0.depth (place_within setting limits first h.0 h.1 h.2 h.3 h.5)
differ_within setting limits first second told old new (Refused input reason bit) h = rw h.1 (omega arith)
differ_within setting limits first second told old new Memory h = rw h.1 (omega arith)
differ_within setting limits first second told old new (RefusedLine reason line) h = absurd h.0
differ_within setting limits first second told old new TooLong h = absurd h.0
differ_within setting limits first second told old new Limits h = absurd h.0
differ_within setting limits first second told old new Closed h = absurd h.0
differ_within setting limits first second told old new Names h = absurd h.0
differ_within setting limits first second told old new Unfit h = absurd h.0

-- a call for the first difference set at most so many
pub asked_within : (limits : blocks.Limits) (out : BsLeftOut) (first second : List ℕ) (told : BsDifference) (old new : List BsOpenBlock) (outcome : Outcome)
    → AsksWithin limits out ((told ≡ no_difference) × (new ≡ old)) (Differences (setting_told out) limits first second told old new) outcome → told.depth ≤ limits.depth
asked_within limits out first second told old new outcome (inl h) = rw h.1.0 (omega arith)
asked_within limits out first second told old new outcome (inr h) = differ_within (setting_told out) limits first second told old new outcome h.2

-- the same for inputs that handles gather
pub fed_within : (limits : blocks.Limits) (out : BsLeftOut) (first second : Option (List ℕ)) (told : BsDifference) (old new : List BsOpenBlock) (outcome : Outcome) → DiffersFed limits out first second told old new outcome → told.depth ≤ limits.depth
fed_within limits out (Some first) (Some second) told old new outcome h = asked_within limits out first second told old new outcome h
fed_within limits out (Some first) None told old new outcome h = rw h.1 (omega arith)
fed_within limits out None second told old new outcome h = rw h.1 (omega arith)
