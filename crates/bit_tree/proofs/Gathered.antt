-- The tree that is built of the events of an input.
use Rattle.std.proofs.Common.{◌≡◌, ℕ, zero, suc, false, ◌==◌, ◌-◌, ◌<◌, List, [], ◌∷◌, ◌++◌, length, vec_len, refl, sym, ap, subst, ◌∙◌, arith, append_assoc, length-append, Result, Ok, Err}
use Rattle.std.proofs.lemmas.List.{append-nil}
use Rattle.std.specs.Global.{Vec}
use Rattle.std.specs.Prelude.{OnOk}
use Rattle.std.specs.declared.alloc.AllocError.{AllocError}
use Rattle.bit_grammar.specs.Blocks.{Limits}
use Rattle.bit_grammar.specs.Forest.{Fit}
use Rattle.bit_grammar.specs.Input.{tree_of, SpellsInput}
use Rattle.bit_grammar.specs.Terms.{Head, Marked}
use Rattle.bit_grammar.proofs.NormalForms.Fits.{fit_of_spelled}
use Rattle.bit_grammar.specs.Machine.{Event, leaves, flat}
use Rattle.bit_grammar.specs.Marks.{Marks, no_marks, marked_block, marked_record, marked_definition}
use Rattle.bit_grammar.specs.Steps.{open_after}
use Rattle.bit_grammar.proofs.Events.Telling.{flat_only}
use Rattle.bit_events.specs.Folding.{Gathered}
use Rattle.bit_events.specs.Gathering.{open_behind, left_open}
use Rattle.bit_events.proofs.Folds.{open_behind-push}
use Rattle.bit_tree.specs.declared.marked.MarkedBlock.{MarkedBlock}
use Rattle.bit_tree.specs.declared.marked.MarkedItem.{MarkedItem}
use Rattle.bit_tree.specs.declared.marked.MarkedItem.TheVariants as marked_item
use Rattle.bit_tree.specs.declared.marked_builder.MarkedBuilder.{MarkedBuilder}
use Rattle.bit_tree.specs.declared.marked_builder.MarkedFrame.{MarkedFrame}
use Rattle.bit_tree.specs.MarkedFrames.{flat_item, flat_frames, built_from, IsBuiltFrom}
use Rattle.bit_tree.specs.MarkedView.{marks_of_blocks}
use Rattle.bit_tree.proofs.MarkedFlats.{flat_frames-push}

one_less : (count : ℕ) → suc count - 1 ≡ count
one_less count = omega arith

-- the events of marks leave as many blocks open as before them
pub open_behind-flat : (m : Marks) (following : List Event) (count : ℕ) → open_behind (flat m following) count ≡ open_behind following count
open_behind-flat no_marks following count = refl
open_behind-flat (marked_block mark inner rest) following count = open_behind-flat inner (leaves mark.after ∷ flat rest following) (suc count) ∙ ap (λ (n : ℕ). open_behind (flat rest following) n) (one_less count) ∙ open_behind-flat rest following count
open_behind-flat (marked_record mark rest) following count = open_behind-flat rest following count
open_behind-flat (marked_definition mark rest) following count = open_behind-flat rest following count

-- ---- marked blocks

-- one more event, if a block was open or the event opens one
pub built_more : (event : Event) (events : List Event) (old new : MarkedBuilder) → IsBuiltFrom events old → ((following : List Event) → built_from new following ≡ built_from old (event ∷ following)) → vec_len new.frames ≡ open_after event (vec_len old.frames) → IsBuiltFrom (events ++ event ∷ []) new
built_more event events old new built more depth = record {
  whole = λ following. more following ∙ built.whole (event ∷ following) ∙ sym (append_assoc events (event ∷ []) following);
  depth = depth ∙ ap (open_after event) built.depth ∙ sym (open_behind-push events event 0);
}

-- an item is added to the innermost block
pub item_added : (item : MarkedItem) (event : Event) (old : MarkedBuilder) (frames : Vec MarkedFrame) (result : Result (Unit {0}) AllocError) → ((following : List Event) → flat_item item following ≡ event ∷ following) → ((count : ℕ) → open_after event count ≡ count)
    → OnOk result (0 < vec_len old.frames → (following : List Event) → flat_frames frames.items following ≡ flat_frames old.frames.items (flat_item item following)) → OnOk result (vec_len frames ≡ vec_len old.frames)
    → OnOk result ((first : MarkedBuilder) (done : List Event) (deepest : ℕ) → IsBuiltFrom done old → 0 < left_open done → IsBuiltFrom (done ++ event ∷ []) (record old { frames = frames }))
item_added item event old frames (Ok x) is same more depth = λ first done deepest built some.
    built_more event done old (record old { frames = frames }) built
    (λ following. ap (flat (marks_of_blocks old.blocks.items)) (more (omega (arith, built.depth, some)) following ∙ ap (flat_frames old.frames.items) (is following)))
    (depth ∙ sym (same (vec_len old.frames)))
item_added item event old frames (Err e) is same more depth = tt

-- the innermost block ends in another one
pub block_added : (b : MarkedBlock) (old : MarkedBuilder) (others frames : Vec MarkedFrame) (f : MarkedFrame) (result : Result (Unit {0}) AllocError) → old.frames.items ≡ others.items ++ f ∷ [] → 0 < vec_len others → ((following : List Event) → flat_item (marked_item.Block b) following ≡ flat_frames (f ∷ []) (leaves b.after ∷ following))
    → OnOk result (0 < vec_len others → (following : List Event) → flat_frames frames.items following ≡ flat_frames others.items (flat_item (marked_item.Block b) following)) → OnOk result (vec_len frames ≡ vec_len others)
    → OnOk result ((first : MarkedBuilder) (done : List Event) (deepest : ℕ) → IsBuiltFrom done old → 0 < left_open done → IsBuiltFrom (done ++ leaves b.after ∷ []) (record old { frames = frames }))
block_added b old others frames f (Ok x) split some same more depth = λ first done deepest built any.
    built_more (leaves b.after) done old (record old { frames = frames }) built
    (λ following. ap (flat (marks_of_blocks old.blocks.items)) (more some following ∙ ap (flat_frames others.items) (same following) ∙ sym (flat_frames-push others.items f (leaves b.after ∷ following)) ∙ ap (λ (fs : List MarkedFrame). flat_frames fs (leaves b.after ∷ following)) (sym split)))
    (omega (arith, depth, old.frames.ok.0, others.ok.0, ap length split, length-append others.items (f ∷ [])))
block_added b old others frames f (Err e) split some same more depth = tt

no_frames : (frames : List MarkedFrame) (following : List Event) → length frames ≡ 0 → flat_frames frames following ≡ following
no_frames [] following none = refl
no_frames (f ∷ frames) following none = absurd (omega arith)

pub built_whole : (m : Marks) (b : MarkedBuilder) → IsBuiltFrom (flat m []) b → marks_of_blocks b.blocks.items ≡ m
built_whole m b built =
    let none : length b.frames.items ≡ 0 = omega (arith, b.frames.ok.0, built.depth, open_behind-flat m [] 0) in
    flat_only (marks_of_blocks b.blocks.items) m (ap (flat (marks_of_blocks b.blocks.items)) (sym (no_frames b.frames.items [] none)) ∙ built.whole [] ∙ append-nil (flat m []))

-- ---- results

pub some_left : (count : ℕ) → false ≡ (count == 0) → 0 < count
some_left zero e = absurd cc
some_left (suc n) e = omega arith

-- a marked tree
pub marked_fit : (limits : Limits) (bytes : List ℕ) (first last : MarkedBuilder) (head : Head) (marks : Marks) (after : ℕ) → Gathered (λ (first : MarkedBuilder) (events : List Event) (last : MarkedBuilder). IsBuiltFrom events last) limits bytes first head last after
    → ((m : Marks) → IsBuiltFrom (flat m []) last → marks ≡ m) → SpellsInput limits bytes (record { head = head; blocks = marks; after = after }) × Fit (tree_of (record { head = head; blocks = marks; after = after }))
marked_fit limits bytes first last head marks after found finished =
    let m = found.marked in
    let same : ◌≡◌ {A = Marked} (record { head = m.head; blocks = m.blocks; after = m.after }) (record { head = head; blocks = marks; after = after }) = rw (found.is_head, found.is_after, finished m.blocks found.gathers) refl in
    let spelled : SpellsInput limits bytes (record { head = head; blocks = marks; after = after }) = subst (SpellsInput limits bytes) same found.spelled in
    (spelled, fit_of_spelled limits bytes (record { head = head; blocks = marks; after = after }) found.capped spelled)
