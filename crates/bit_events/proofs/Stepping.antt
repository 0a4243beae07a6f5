-- One step of the machine: what its parts take by the rule for a step.
use Rattle.std.proofs.Common.{◌≡◌, ℕ, zero, suc, ◌+◌, ◌<◌, ◌≤◌, Bool, true, false, not, is_some, eqb, ltb, List, [], ◌∷◌, ◌++◌, length, get_or, take, set, Option, Some, None, Result, Ok, Err, IsSome, is_none, refl, sym, ap, ◌∙◌, subst, arith}
use Rattle.std.specs.Prelude.{unwrap_or, IfOk, OnOk}
use Rattle.std.proofs.lemmas.Bool.{ne_eqb}
use Rattle.std.specs.declared.alloc.AllocError.{AllocError}
use Rattle.bit_grammar.specs.declared.shapes.Shapes.{Shapes}
use Rattle.bit_grammar.specs.declared.op.Op.{Op}
use Rattle.bit_grammar.specs.declared.reason.Reason.TheVariants.{TooDeep, TopLevel, NestedInBlockInfo}
use Rattle.bit_grammar.specs.Grammar.{at, test}
use Rattle.bit_grammar.specs.Fields.{fixed}
use Rattle.bit_grammar.specs.Marks.{RecordMark, DefinitionMark}
use Rattle.bit_grammar.specs.Blocks as blocks
use Rattle.bit_grammar.specs.Blocks.{Limits, Handed, Scope, block_head, end_of_block, define, record_after, enter, leave}
use Rattle.bit_grammar.specs.Machine as machine
use Rattle.bit_grammar.specs.Machine.{Event, enters, defines, notes, leaves, scope_of, frame_of, inside, open_block, open_nested, step_after, step_in, step_top}
use Rattle.bit_fields.specs.declared.fault.Fault.{Fault}
use Rattle.bit_fields.specs.declared.fault.Fault.TheVariants.{Memory}
use Rattle.bit_fields.specs.Reader.{Reader, Took, Why, Takes, failed_reader}
use Rattle.bit_events.specs.declared.frame.Frame.{Frame}
use Rattle.bit_events.specs.declared.frame.Describing.{Describing}
use Rattle.bit_events.specs.declared.machine.Machine.{Machine}
use Rattle.bit_events.specs.declared.machine.Step.{Step}
use Rattle.bit_events.specs.declared.machine.Step.TheVariants.{Define}
use Rattle.bit_events.specs.declared.machine.Step.TheVariants as found
use Rattle.bit_events.specs.HeadView.{head_shown}
use Rattle.bit_abbrev.specs.Ready.{either}
use Rattle.bit_events.specs.FrameView.{info_shown, frame_shown, newest_in, ready_in, frames_onto, frames_shown}
use Rattle.bit_events.specs.MachineView.{newest, lent, step_shown, KeepsValues, innermost_head, HoldsDefinition, LeavesMachine, end_rule, define_rule, record_rule}
use Rattle.bit_events.proofs.Telling.{told, why, answers, andThen, breaks, ends, here, first_rule, second_rule, without_memory}

-- ---- the open blocks

frames_onto-push : (frames : List Frame) (f : Frame) (outer : List machine.Frame) → frames_onto (frames ++ f ∷ []) outer ≡ frame_shown f ∷ frames_onto frames outer
frames_onto-push [] f outer = refl
frames_onto-push (first ∷ frames) f outer = frames_onto-push frames f (frame_shown first ∷ outer)

-- one more block is open
pub frames-push : (frames : List Frame) (f : Frame) → frames_shown (frames ++ f ∷ []) ≡ frame_shown f ∷ frames_shown frames
frames-push frames f = frames_onto-push frames f []

frames_onto-last : (frames : List Frame) (k : ℕ) (f : Frame) (outer : List machine.Frame) → length frames ≡ suc k → f ≡ get_or frames k f → frames_onto frames outer ≡ frame_shown f ∷ frames_onto (take k frames) outer
frames_onto-last [] k f outer n is = absurd (omega arith)
frames_onto-last (a ∷ []) zero f outer n is = ap (λ (x : Frame). frame_shown x ∷ outer) (sym is)
frames_onto-last (a ∷ []) (suc k) f outer n is = absurd (omega arith)
frames_onto-last (a ∷ b ∷ frames) zero f outer n is = absurd (omega arith)
frames_onto-last (a ∷ b ∷ frames) (suc k) f outer n is = frames_onto-last (b ∷ frames) k f (frame_shown a ∷ outer) (omega arith) is

frames_onto-set : (frames : List Frame) (k : ℕ) (new : Frame) (outer : List machine.Frame) → length frames ≡ suc k → frames_onto (set frames k new) outer ≡ frame_shown new ∷ frames_onto (take k frames) outer
frames_onto-set [] k new outer n = absurd (omega arith)
frames_onto-set (a ∷ []) zero new outer n = refl
frames_onto-set (a ∷ []) (suc k) new outer n = absurd (omega arith)
frames_onto-set (a ∷ b ∷ frames) zero new outer n = absurd (omega arith)
frames_onto-set (a ∷ b ∷ frames) (suc k) new outer n = frames_onto-set (b ∷ frames) k new (frame_shown a ∷ outer) (omega arith)

-- the innermost block
pub innermost : (frames : List Frame) (k : ℕ) (f : Frame) (shown : machine.Frame) (outer : List machine.Frame) → length frames ≡ suc k → f ≡ get_or frames k f → frames_shown frames ≡ shown ∷ outer → frame_shown f ≡ shown
innermost frames k f shown outer n is split =
    let e : frame_shown f ∷ frames_onto (take k frames) [] ≡ shown ∷ outer = sym (frames_onto-last frames k f [] n is) ∙ split in
    cc

-- the blocks around it
pub blocks_round : (frames : List Frame) (k : ℕ) (f : Frame) (shown : machine.Frame) (outer : List machine.Frame) → length frames ≡ suc k → f ≡ get_or frames k f → frames_shown frames ≡ shown ∷ outer → frames_onto (take k frames) [] ≡ outer
blocks_round frames k f shown outer n is split =
    let e : frame_shown f ∷ frames_onto (take k frames) [] ≡ shown ∷ outer = sym (frames_onto-last frames k f [] n is) ∙ split in
    cc

-- another innermost block replaces one
pub frames-set : (frames : List Frame) (k : ℕ) (f new : Frame) (shown : machine.Frame) (outer : List machine.Frame) → length frames ≡ suc k → f ≡ get_or frames k f → frames_shown frames ≡ shown ∷ outer → frames_shown (set frames k new) ≡ frame_shown new ∷ outer
frames-set frames k f new shown outer n is split = frames_onto-set frames k new [] n ∙ ap (λ (others : List machine.Frame). frame_shown new ∷ others) (blocks_round frames k f shown outer n is split)

-- without the innermost block
pub frames-pop : (frames others : List Frame) (f : Frame) (shown : machine.Frame) (outer : List machine.Frame) → frames ≡ others ++ f ∷ [] → frames_shown frames ≡ shown ∷ outer → (frame_shown f ≡ shown) × (frames_shown others ≡ outer)
frames-pop frames others f shown outer is split =
    let e : frame_shown f ∷ frames_shown others ≡ shown ∷ outer = sym (frames-push others f) ∙ ap frames_shown (sym is) ∙ split in
    (cc, cc)

length-frames_onto : (frames : List Frame) (outer : List machine.Frame) → length (frames_onto frames outer) ≡ length frames + length outer
length-frames_onto [] outer = omega arith
length-frames_onto (f ∷ frames) outer = omega (arith, length-frames_onto frames (frame_shown f ∷ outer))

pub length-frames : (frames : List Frame) → length (frames_shown frames) ≡ length frames
length-frames frames = omega (arith, length-frames_onto frames [])

-- no block is open
pub frames-none : (frames : List Frame) → length frames ≡ 0 → frames_shown frames ≡ []
frames-none [] n = refl
frames-none (f ∷ frames) n = absurd (omega arith)

-- some block is open
pub frames-some : (frames : List Frame) (k : ℕ) (f : Frame) → length frames ≡ suc k → f ≡ get_or frames k f → frames_shown frames ≡ frame_shown f ∷ frames_onto (take k frames) []
frames-some frames k f n is = frames_onto-last frames k f [] n is

-- ---- a block's beginning

pub open_judged : (limits : Limits) (frames : List machine.Frame) (first : ℕ) (handed : Handed) (a : Reader) (fault : Fault) (b : Reader) → Why (test (ltb (length frames) limits.depth) (at TooDeep first)) a fault b → Why (open_block limits frames first handed) a fault b
unfolding open_block
open_judged limits frames first handed a fault b h = why (open_block limits frames first handed) a fault b (breaks h)

pub open_missed : (limits : Limits) (frames : List machine.Frame) (first : ℕ) (handed : Handed) (a b : Reader) (fault : Fault) (c : Reader) → Took (test (ltb (length frames) limits.depth) (at TooDeep first)) a tt b → Why block_head b fault c → Why (open_block limits frames first handed) a fault c
unfolding open_block
open_missed limits frames first handed a b fault c t h = why (open_block limits frames first handed) a fault c (andThen t (breaks h))

pub open_lost : (limits : Limits) (frames : List machine.Frame) (first : ℕ) (handed : Handed) (a b : Reader) (head : blocks.BlockHead) (c d : Reader) → Took (test (ltb (length frames) limits.depth) (at TooDeep first)) a tt b → Took block_head b head c → d ≡ failed_reader c → Why (open_block limits frames first handed) a Memory d
unfolding open_block
open_lost limits frames first handed a b head c d t u is = why (open_block limits frames first handed) a Memory d (andThen t (andThen u (without_memory u.live is)))

pub open_took : (limits : Limits) (frames : List machine.Frame) (first : ℕ) (handed : Handed) (a b : Reader) (head : blocks.BlockHead) (c d : Reader) (new : machine.Machine) → Took (test (ltb (length frames) limits.depth) (at TooDeep first)) a tt b → Took block_head b head c → d ≡ c → new ≡ inside head frames (enter head.id handed)
    → Took (open_block limits frames first handed) a (enters (record { id = head.id; width = head.width; first = first; body = head.body }), new) d
unfolding open_block
open_took limits frames first handed a b head c d new t u same made =
    rw (same, made) (told (open_block limits frames first handed) a (Ok (enters (record { id = head.id; width = head.width; first = first; body = head.body }), inside head frames (enter head.id handed))) c (andThen t (andThen u (ends u.live))))

-- a block in a block
pub nested_judged : (limits : Limits) (h : blocks.BlockHead) (frames : List machine.Frame) (first : ℕ) (scope : Scope) (a : Reader) (fault : Fault) (b : Reader) → Why (test (is_none scope.info) (at NestedInBlockInfo first)) a fault b → Why (open_nested limits h frames first scope) a fault b
unfolding open_nested
nested_judged limits h frames first scope a fault b w = why (open_nested limits h frames first scope) a fault b (breaks w)

pub nested_opens : (limits : Limits) (h : blocks.BlockHead) (frames : List machine.Frame) (first : ℕ) (scope : Scope) (a b : Reader) (result : Result (Event × machine.Machine) Fault) (c : Reader) → Took (test (is_none scope.info) (at NestedInBlockInfo first)) a tt b → Takes (open_block limits (frame_of h scope ∷ frames) first scope.handed) b result c → Takes (open_nested limits h frames first scope) a result c
unfolding open_nested
nested_opens limits h frames first scope a b result c t u = told (open_nested limits h frames first scope) a result c (andThen t (answers u))

-- a block at the top
pub top_missed : (limits : Limits) (handed : Handed) (a : Reader) (fault : Fault) (b : Reader) → Why (fixed 2) a fault b → Why (step_top limits handed) a fault b
unfolding step_top
top_missed limits handed a fault b h = why (step_top limits handed) a fault b (here a.position refl (breaks h))

pub top_judged : (limits : Limits) (handed : Handed) (a : Reader) (id : ℕ) (b : Reader) (first : ℕ) (fault : Fault) (c : Reader) → first ≡ a.position → Took (fixed 2) a id b → Why (test (eqb id 1) (at TopLevel first)) b fault c → Why (step_top limits handed) a fault c
unfolding step_top
top_judged limits handed a id b first fault c is t h = why (step_top limits handed) a fault c (here first is (andThen t (breaks h)))

pub top_opens : (limits : Limits) (handed : Handed) (a : Reader) (id : ℕ) (b : Reader) (first : ℕ) (c : Reader) (result : Result (Event × machine.Machine) Fault) (d : Reader) → first ≡ a.position → Took (fixed 2) a id b → Took (test (eqb id 1) (at TopLevel first)) b tt c → Takes (open_block limits [] first handed) c result d → Takes (step_top limits handed) a result d
unfolding step_top
top_opens limits handed a id b first c result d is t u v = told (step_top limits handed) a result d (here first is (andThen t (andThen u (answers v))))

-- ---- the end of a block

pub end_missed : (f : machine.Frame) (outer : List machine.Frame) (handed : Handed) (a : Reader) (fault : Fault) (b : Reader) → Why (end_of_block f.head) a fault b → Why (end_rule f outer handed) a fault b
end_missed f outer handed a fault b h = why (end_rule f outer handed) a fault b (breaks h)

pub end_lost : (f : machine.Frame) (outer : List machine.Frame) (handed : Handed) (a : Reader) (after : ℕ) (b c : Reader) → Took (end_of_block f.head) a after b → c ≡ failed_reader b → Why (end_rule f outer handed) a Memory c
end_lost f outer handed a after b c t is = why (end_rule f outer handed) a Memory c (andThen t (without_memory t.live is))

pub end_took : (f : machine.Frame) (outer : List machine.Frame) (handed : Handed) (a : Reader) (after : ℕ) (b c : Reader) (new : machine.Machine) → Took (end_of_block f.head) a after b → c ≡ b → new ≡ record { frames = outer; handed = leave f.info handed } → Took (end_rule f outer handed) a (leaves after, new) c
end_took f outer handed a after b c new t same made = rw (same, made) (told (end_rule f outer handed) a (Ok (leaves after, record { frames = outer; handed = leave f.info handed })) b (andThen t (ends t.live)))

-- ---- a definition and a record

pub define_missed : (shapes : Shapes) (f : machine.Frame) (outer : List machine.Frame) (first : ℕ) (handed : Handed) (a : Reader) (fault : Fault) (b : Reader) → Why (define shapes first (scope_of f handed)) a fault b → Why (define_rule shapes f outer first handed) a fault b
define_missed shapes f outer first handed a fault b h = why (define_rule shapes f outer first handed) a fault b (breaks h)

pub define_took : (shapes : Shapes) (f : machine.Frame) (outer : List machine.Frame) (first : ℕ) (handed : Handed) (a : Reader) (mark : DefinitionMark) (scope : Scope) (b : Reader) (new : machine.Machine) → Took (define shapes first (scope_of f handed)) a (mark, scope) b → new ≡ inside f.head outer scope → Took (define_rule shapes f outer first handed) a (defines mark, new) b
define_took shapes f outer first handed a mark scope b new t made = rw made (told (define_rule shapes f outer first handed) a (Ok (defines mark, inside f.head outer scope)) b (andThen t (ends t.live)))

pub record_missed : (limit : ℕ) (f : machine.Frame) (outer : List machine.Frame) (first id : ℕ) (handed : Handed) (a : Reader) (fault : Fault) (b : Reader) → Why (record_after limit first id (scope_of f handed)) a fault b → Why (record_rule limit f outer first id handed) a fault b
record_missed limit f outer first id handed a fault b h = why (record_rule limit f outer first id handed) a fault b (breaks h)

pub record_took : (limit : ℕ) (f : machine.Frame) (outer : List machine.Frame) (first id : ℕ) (handed : Handed) (a : Reader) (mark : RecordMark) (scope : Scope) (b : Reader) (new : machine.Machine) → Took (record_after limit first id (scope_of f handed)) a (mark, scope) b → new ≡ inside f.head outer scope → Took (record_rule limit f outer first id handed) a (notes mark, new) b
record_took limit f outer first id handed a mark scope b new t made = rw made (told (record_rule limit f outer first id handed) a (Ok (notes mark, inside f.head outer scope)) b (andThen t (ends t.live)))

-- ---- an item

-- an id that is another one
pub other_than : (id k : ℕ) → 3 ≤ id → k < 3 → eqb id k ≡ false
other_than id k most less = ne_eqb id k (λ same. omega (arith, most, less, same))

pub in_missed : (limits : Limits) (h : blocks.BlockHead) (frames : List machine.Frame) (scope : Scope) (a : Reader) (fault : Fault) (b : Reader) → Why (fixed h.width) a fault b → Why (step_in limits h frames scope) a fault b
unfolding step_in
in_missed limits h frames scope a fault b w = why (step_in limits h frames scope) a fault b (here a.position refl (breaks w))

pub in_then : (limits : Limits) (h : blocks.BlockHead) (frames : List machine.Frame) (scope : Scope) (a : Reader) (id : ℕ) (b : Reader) (first : ℕ) (result : Result (Event × machine.Machine) Fault) (c : Reader) → first ≡ a.position → Took (fixed h.width) a id b → Takes (step_after limits h frames first scope id) b result c → Takes (step_in limits h frames scope) a result c
unfolding step_in
in_then limits h frames scope a id b first result c is t u = told (step_in limits h frames scope) a result c (here first is (andThen t (answers u)))

pub after_end : (limits : Limits) (f : machine.Frame) (outer : List machine.Frame) (first id : ℕ) (handed : Handed) (a : Reader) (result : Result (Event × machine.Machine) Fault) (b : Reader) → eqb id 0 ≡ true → Takes (end_rule f outer handed) a result b → Takes (step_after limits f.head outer first (scope_of f handed) id) a result b
unfolding step_after
after_end limits f outer first id handed a result b is t = told (step_after limits f.head outer first (scope_of f handed) id) a result b (first_rule is (answers t))

pub after_nested : (limits : Limits) (f : machine.Frame) (outer : List machine.Frame) (first id : ℕ) (handed : Handed) (a : Reader) (result : Result (Event × machine.Machine) Fault) (b : Reader) → eqb id 0 ≡ false → eqb id 1 ≡ true → Takes (open_nested limits f.head outer first (scope_of f handed)) a result b → Takes (step_after limits f.head outer first (scope_of f handed) id) a result b
unfolding step_after
after_nested limits f outer first id handed a result b no_end is t = told (step_after limits f.head outer first (scope_of f handed) id) a result b (second_rule no_end (first_rule is (answers t)))

pub after_define : (limits : Limits) (f : machine.Frame) (outer : List machine.Frame) (first id : ℕ) (handed : Handed) (a : Reader) (result : Result (Event × machine.Machine) Fault) (b : Reader) → eqb id 0 ≡ false → eqb id 1 ≡ false → eqb id 2 ≡ true → Takes (define_rule limits.shapes f outer first handed) a result b → Takes (step_after limits f.head outer first (scope_of f handed) id) a result b
unfolding step_after
after_define limits f outer first id handed a result b no_end no_block is t = told (step_after limits f.head outer first (scope_of f handed) id) a result b (second_rule no_end (second_rule no_block (first_rule is (answers t))))

pub after_record : (limits : Limits) (f : machine.Frame) (outer : List machine.Frame) (first id : ℕ) (handed : Handed) (a : Reader) (result : Result (Event × machine.Machine) Fault) (b : Reader) → eqb id 0 ≡ false → eqb id 1 ≡ false → eqb id 2 ≡ false → Takes (record_rule limits.values f outer first id handed) a result b → Takes (step_after limits f.head outer first (scope_of f handed) id) a result b
unfolding step_after
after_record limits f outer first id handed a result b no_end no_block no_definition t = told (step_after limits f.head outer first (scope_of f handed) id) a result b (second_rule no_end (second_rule no_block (second_rule no_definition (answers t))))

-- ---- the innermost block, in the program's state

is_none-shown : (info : Option Describing) → is_none info ≡ is_none (info_shown info)
is_none-shown None = refl
is_none-shown (Some d) = refl

not-not : (b : Bool) → b ≡ not (not b)
not-not true = refl
not-not false = refl

pub plain_is : (frames : List Frame) (k : ℕ) (f : Frame) (plain : Bool) (shown : machine.Frame) (outer : List machine.Frame) → length frames ≡ suc k → f ≡ get_or frames k f → is_some f.info ≡ not plain → frames_shown frames ≡ shown ∷ outer → plain ≡ is_none shown.info
plain_is frames k f plain shown outer n is e split = not-not plain ∙ ap not (sym e) ∙ is_none-shown f.info ∙ ap (λ (x : machine.Frame). is_none x.info) (innermost frames k f shown outer n is split)

-- what is lent of the innermost block
lent-last : (made : Option (List Op)) (frames : List Frame) (k : ℕ) (f : Frame) → length frames ≡ suc k → f ≡ get_or frames k f → lent made frames ≡ either made (ready_in f)
lent-last made [] k f n is = absurd (omega arith)
lent-last made (a ∷ []) zero f n is = ap (λ (x : Frame). either made (ready_in x)) (sym is)
lent-last made (a ∷ []) (suc k) f n is = absurd (omega arith)
lent-last made (a ∷ b ∷ frames) zero f n is = absurd (omega arith)
lent-last made (a ∷ b ∷ frames) (suc k) f n is = lent-last made (b ∷ frames) k f (omega arith) is

-- the newest definition of the innermost block
newest-last : (frames : List Frame) (k : ℕ) (f : Frame) → length frames ≡ suc k → f ≡ get_or frames k f → newest frames ≡ newest_in f
newest-last [] k f n is = absurd (omega arith)
newest-last (a ∷ []) zero f n is = ap newest_in (sym is)
newest-last (a ∷ []) (suc k) f n is = absurd (omega arith)
newest-last (a ∷ b ∷ frames) zero f n is = absurd (omega arith)
newest-last (a ∷ b ∷ frames) (suc k) f n is = newest-last (b ∷ frames) k f (omega arith) is

-- one that is ready
pub ready_is : (frames : List Frame) (k : ℕ) (f : Frame) (found : Option (List Op)) → length frames ≡ suc k → f ≡ get_or frames k f → found ≡ ready_in f → found ≡ lent None frames
ready_is frames k f found n is same = same ∙ sym (lent-last None frames k f n is)

-- one that was made
pub made_is : (frames : List Frame) (k : ℕ) (f : Frame) (result : Result (Option (List Op)) AllocError) → length frames ≡ suc k → f ≡ get_or frames k f → IfOk result (λ made. either made (ready_in f) ≡ newest_in f) → IfOk result (λ made. lent made frames ≡ newest frames)
made_is frames k f (Ok made) n is same = lent-last made frames k f n is ∙ same ∙ sym (newest-last frames k f n is)
made_is frames k f (Err e) n is same = tt

-- what was made is lent
pub some_lent : (ops : List Op) (frames : List Frame) → Some ops ≡ lent (Some ops) frames
some_lent ops [] = refl
some_lent ops (f ∷ []) = refl
some_lent ops (f ∷ g ∷ frames) = some_lent ops (g ∷ frames)

pub newest_set : (frames : List Frame) (k : ℕ) (new : Frame) → length frames ≡ suc k → newest (set frames k new) ≡ newest_in new
newest_set [] k new n = absurd (omega arith)
newest_set (a ∷ []) zero new n = refl
newest_set (a ∷ []) (suc k) new n = absurd (omega arith)
newest_set (a ∷ b ∷ frames) zero new n = absurd (omega arith)
newest_set (a ∷ b ∷ []) (suc zero) new n = refl
newest_set (a ∷ b ∷ []) (suc (suc k)) new n = absurd (omega arith)
newest_set (a ∷ b ∷ d ∷ frames) (suc zero) new n = absurd (omega arith)
newest_set (a ∷ b ∷ d ∷ frames) (suc (suc k)) new n = newest_set (b ∷ d ∷ frames) (suc k) new (omega arith)

-- the machine with another innermost block
pub set_inside : (frames : List Frame) (k : ℕ) (f new : Frame) (shown : machine.Frame) (outer : List machine.Frame) (handed : Handed) → length frames ≡ suc k → f ≡ get_or frames k f → frames_shown frames ≡ shown ∷ outer → new.head ≡ f.head
    → record { frames = frames_shown (set frames k new); handed = handed } ≡ inside shown.head outer (scope_of (frame_shown new) handed)
set_inside frames k f new shown outer handed n is split same =
    let head : head_shown new.head ≡ shown.head = ap head_shown same ∙ ap (λ (x : machine.Frame). x.head) (innermost frames k f shown outer n is split) in
    rw (frames-set frames k f new shown outer n is split, ← head) refl

-- ---- the parts of a step, by the innermost block as it is held

pub held_define_missed : (shapes : Shapes) (frames : List Frame) (k : ℕ) (f : Frame) (shown : machine.Frame) (outer : List machine.Frame) (first : ℕ) (handed : Handed) (a : Reader) (fault : Fault) (b : Reader) → length frames ≡ suc k → f ≡ get_or frames k f → frames_shown frames ≡ shown ∷ outer
    → Why (define shapes first (scope_of (frame_shown f) handed)) a fault b → Why (define_rule shapes shown outer first handed) a fault b
held_define_missed shapes frames k f shown outer first handed a fault b n is split h =
    define_missed shapes shown outer first handed a fault b (subst (λ (x : machine.Frame). Why (define shapes first (scope_of x handed)) a fault b) (innermost frames k f shown outer n is split) h)

pub held_define_took : (shapes : Shapes) (frames : List Frame) (k : ℕ) (f new : Frame) (shown : machine.Frame) (outer : List machine.Frame) (first : ℕ) (handed : Handed) (a : Reader) (mark : DefinitionMark) (b : Reader) → length frames ≡ suc k → f ≡ get_or frames k f → frames_shown frames ≡ shown ∷ outer → new.head ≡ f.head
    → Took (define shapes first (scope_of (frame_shown f) handed)) a (mark, scope_of (frame_shown new) handed) b → Took (define_rule shapes shown outer first handed) a (defines mark, record { frames = frames_shown (set frames k new); handed = handed }) b
held_define_took shapes frames k f new shown outer first handed a mark b n is split same t =
    define_took shapes shown outer first handed a mark (scope_of (frame_shown new) handed) b (record { frames = frames_shown (set frames k new); handed = handed })
    (subst (λ (x : machine.Frame). Took (define shapes first (scope_of x handed)) a (mark, scope_of (frame_shown new) handed) b) (innermost frames k f shown outer n is split) t)
    (set_inside frames k f new shown outer handed n is split same)

pub held_record_missed : (limit : ℕ) (frames : List Frame) (k : ℕ) (f : Frame) (shown : machine.Frame) (outer : List machine.Frame) (first id : ℕ) (handed : Handed) (a : Reader) (fault : Fault) (b : Reader) → length frames ≡ suc k → f ≡ get_or frames k f → frames_shown frames ≡ shown ∷ outer
    → Why (record_after limit first id (scope_of (frame_shown f) handed)) a fault b → Why (record_rule limit shown outer first id handed) a fault b
held_record_missed limit frames k f shown outer first id handed a fault b n is split h =
    record_missed limit shown outer first id handed a fault b (subst (λ (x : machine.Frame). Why (record_after limit first id (scope_of x handed)) a fault b) (innermost frames k f shown outer n is split) h)

pub held_record_took : (limit : ℕ) (frames : List Frame) (k : ℕ) (f new : Frame) (shown : machine.Frame) (outer : List machine.Frame) (first id : ℕ) (handed more made : Handed) (a : Reader) (mark : RecordMark) (b : Reader) → length frames ≡ suc k → f ≡ get_or frames k f → frames_shown frames ≡ shown ∷ outer → new.head ≡ f.head → made ≡ more
    → Took (record_after limit first id (scope_of (frame_shown f) handed)) a (mark, scope_of (frame_shown new) more) b → Took (record_rule limit shown outer first id handed) a (notes mark, record { frames = frames_shown (set frames k new); handed = made }) b
held_record_took limit frames k f new shown outer first id handed more made a mark b n is split same same_made t =
    rw same_made (record_took limit shown outer first id handed a mark (scope_of (frame_shown new) more) b (record { frames = frames_shown (set frames k new); handed = more })
    (subst (λ (x : machine.Frame). Took (record_after limit first id (scope_of x handed)) a (mark, scope_of (frame_shown new) more) b) (innermost frames k f shown outer n is split) t)
    (set_inside frames k f new shown outer more n is split same))

pub held_end_missed : (frames others : List Frame) (f : Frame) (shown : machine.Frame) (outer : List machine.Frame) (handed : Handed) (a : Reader) (fault : Fault) (b : Reader) → frames ≡ others ++ f ∷ [] → frames_shown frames ≡ shown ∷ outer
    → Why (end_of_block (head_shown f.head)) a fault b → Why (end_rule shown outer handed) a fault b
held_end_missed frames others f shown outer handed a fault b is split h =
    let popped = frames-pop frames others f shown outer is split in
    end_missed shown outer handed a fault b (subst (λ (x : machine.Frame). Why (end_of_block x.head) a fault b) popped.0 h)

pub held_end_lost : (frames others : List Frame) (f : Frame) (shown : machine.Frame) (outer : List machine.Frame) (handed : Handed) (a : Reader) (after : ℕ) (b c : Reader) → frames ≡ others ++ f ∷ [] → frames_shown frames ≡ shown ∷ outer
    → Took (end_of_block (head_shown f.head)) a after b → c ≡ failed_reader b → Why (end_rule shown outer handed) a Memory c
held_end_lost frames others f shown outer handed a after b c is split t lost =
    let popped = frames-pop frames others f shown outer is split in
    end_lost shown outer handed a after b c (subst (λ (x : machine.Frame). Took (end_of_block x.head) a after b) popped.0 t) lost

pub held_end_took : (frames others : List Frame) (f : Frame) (shown : machine.Frame) (outer : List machine.Frame) (handed : Handed) (a : Reader) (after : ℕ) (b c : Reader) (new : machine.Machine) → frames ≡ others ++ f ∷ [] → frames_shown frames ≡ shown ∷ outer
    → Took (end_of_block (head_shown f.head)) a after b → c ≡ b → new ≡ record { frames = frames_shown others; handed = leave (info_shown f.info) handed } → Took (end_rule shown outer handed) a (leaves after, new) c
held_end_took frames others f shown outer handed a after b c new is split t same made =
    let popped = frames-pop frames others f shown outer is split in
    let left : record { frames = frames_shown others; handed = leave (info_shown f.info) handed } ≡ record { frames = outer; handed = leave shown.info handed } = rw (popped.1, ← popped.0) refl in
    end_took shown outer handed a after b c new (subst (λ (x : machine.Frame). Took (end_of_block x.head) a after b) popped.0 t) same (made ∙ left)

-- ---- the head of the innermost block

-- it is that of the last block held
pub head_held : (frames : List Frame) (k : ℕ) (f : Frame) → length frames ≡ suc k → f ≡ get_or frames k f → Some (head_shown f.head) ≡ innermost_head (frames_shown frames)
head_held frames k f n is = sym (ap innermost_head (frames-some frames k f n is))

-- a block is first if its head is known
pub record Innermost (frames : List machine.Frame) (head : blocks.BlockHead) : Type 0 where
  pub f : machine.Frame
  pub outer : List machine.Frame
  pub split : frames ≡ f ∷ outer
  pub is : f.head ≡ head

pub innermost_of : (frames : List machine.Frame) (head : blocks.BlockHead) → Some head ≡ innermost_head frames → Innermost frames head
innermost_of [] head e = absurd cc
innermost_of (f ∷ outer) head e = record { f = f; outer = outer; split = refl; is = cc }

-- ---- what a definition leaves

newest_some : (o : Option (List Op)) → IsSome o → o ≡ Some (unwrap_or o [])
newest_some None some = absurd cc
newest_some (Some ops) some = refl

pub definition_held : (m : Machine) (list : List ℕ) (first after : ℕ) → IsSome (newest m.frames.items) → HoldsDefinition m (step_shown m list (Define first after))
definition_held m list first after some = newest_some (newest m.frames.items) some

-- the effect of a call that began later
pub left_later : {X : Type 0} (deepest : ℕ) (old : Machine) (a b : Reader) (event : X → Event) (new : Machine) (c : Reader) (result : Result X Fault) → a.position ≤ b.position → IfOk result (λ x. LeavesMachine deepest old b (event x) new c) → IfOk result (λ x. LeavesMachine deepest old a (event x) new c)
left_later deepest old a b event new c (Ok x) forward left = record { stands = left.stands; opens = left.opens; forward = omega (arith, forward, left.forward); aligned = left.aligned; holds = left.holds }
left_later deepest old a b event new c (Err fault) forward left = tt

pub moved_later : {X : Type 0} (deepest : ℕ) (old : Machine) (a b : Reader) (event : X → Event) (new : Machine) (c : Reader) (result : Result X Fault) → a.position < b.position → IfOk result (λ x. LeavesMachine deepest old b (event x) new c) → OnOk result (a.position < c.position)
moved_later deepest old a b event new c (Ok x) forward left = omega (arith, forward, left.forward)
moved_later deepest old a b event new c (Err fault) forward left = tt

-- ---- the value sink

-- an unused value sink stays
kept : {V : Type 0} (v : V) (step : Step) → KeepsValues step v v
kept v (found.Enter body first id width) = refl
kept v (found.Define first after) = refl
kept v (found.Record head) = tt
kept v (found.Leave after) = refl

pub kept_alone : {V : Type 0} (v : V) (result : Result Step Fault) → IfOk result (λ step. KeepsValues step v v)
kept_alone v (Ok step) = kept v step
kept_alone v (Err fault) = tt
