-- The events of marked blocks that are partly built.
use Rattle.std.proofs.Common.{◌≡◌, ℕ, zero, suc, List, [], ◌∷◌, ◌++◌, length, get_or, refl, sym, ap, ◌∙◌, arith}
use Rattle.std.proofs.Math.ListN.{set}
use Rattle.std.specs.Global.{Vec}
use Rattle.bit_grammar.specs.Machine.{Event, Opened, enters, leaves, flat}
use Rattle.bit_grammar.specs.Marks.{Marks}
use Rattle.bit_tree.specs.MarkedFrames.{flat_frames, flat_item}
use Rattle.bit_tree.specs.MarkedView.{put_marked, marks_of_items, marks_of_blocks}
use Rattle.bit_tree.specs.declared.marked.MarkedBlock.{MarkedBlock}
use Rattle.bit_tree.specs.declared.marked.MarkedItem.{MarkedItem}
use Rattle.bit_tree.specs.declared.marked.MarkedItem.TheVariants.{Block, Record, Define}
use Rattle.bit_tree.specs.declared.marked_builder.MarkedFrame.{MarkedFrame}

abbrev opened : MarkedFrame → Opened
opened f = record { id = f.id; width = f.width; first = f.first; body = f.body }

abbrev opened_block : MarkedBlock → Opened
opened_block b = record { id = b.id; width = b.width; first = b.first; body = b.body }

flat-put : (item : MarkedItem) (rest : Marks) (following : List Event) → flat (put_marked item rest) following ≡ flat_item item (flat rest following)
flat-put (Block b) rest following = refl
flat-put (Record r) rest following = refl
flat-put (Define d) rest following = refl

-- the events of items and one more
flat-push : (items : List MarkedItem) (item : MarkedItem) (following : List Event) →
    flat (marks_of_items (items ++ item ∷ [])) following ≡ flat (marks_of_items items) (flat_item item following)
flat-push [] item following = refl
flat-push (first ∷ items) item following =
    flat-put first (marks_of_items (items ++ item ∷ [])) following ∙ ap (flat_item first) (flat-push items item following) ∙ sym (flat-put first (marks_of_items items) (flat_item item following))

-- the innermost block gains an item
pub flat_frames-set : (frames : List MarkedFrame) (k : ℕ) (frame : MarkedFrame) (items : Vec MarkedItem) (item : MarkedItem) (following : List Event) →
    length frames ≡ suc k → frame ≡ get_or frames k frame → items.items ≡ frame.items.items ++ item ∷ [] →
    flat_frames (set frames k (record frame { items = items })) following ≡ flat_frames frames (flat_item item following)
flat_frames-set [] k frame items item following n is more = absurd (omega arith)
flat_frames-set (f ∷ []) zero frame items item following n is more =
    rw (more, ← is) (ap (λ (es : List Event). enters (opened frame) ∷ es) (flat-push frame.items.items item following))
flat_frames-set (f ∷ []) (suc k) frame items item following n is more = absurd (omega arith)
flat_frames-set (f ∷ g ∷ frames) zero frame items item following n is more = absurd (omega arith)
flat_frames-set (f ∷ g ∷ frames) (suc k) frame items item following n is more =
    ap (λ (es : List Event). enters (opened f) ∷ flat (marks_of_items f.items.items) es) (flat_frames-set (g ∷ frames) k frame items item following (omega arith) is more)

-- one more block is open
pub flat_frames-push : (frames : List MarkedFrame) (frame : MarkedFrame) (following : List Event) →
    flat_frames (frames ++ frame ∷ []) following ≡ flat_frames frames (flat_frames (frame ∷ []) following)
flat_frames-push [] frame following = refl
flat_frames-push (f ∷ frames) frame following = ap (λ (es : List Event). enters (opened f) ∷ flat (marks_of_items f.items.items) es) (flat_frames-push frames frame following)

-- one more block at the top is complete
flat-push_block : (blocks : List MarkedBlock) (b : MarkedBlock) (following : List Event) →
    flat (marks_of_blocks (blocks ++ b ∷ [])) following ≡ flat (marks_of_blocks blocks) (flat_item (Block b) following)
flat-push_block [] b following = refl
flat-push_block (first ∷ blocks) b following = ap (λ (es : List Event). enters (opened_block first) ∷ flat first.items (leaves first.after ∷ es)) (flat-push_block blocks b following)

-- the one open block is left
pub flat-close_top : (blocks : List MarkedBlock) (front : List MarkedFrame) (frame : MarkedFrame) (b : MarkedBlock) (following : List Event) →
    length front ≡ 0 → flat_item (Block b) following ≡ flat_frames (frame ∷ []) (leaves b.after ∷ following) →
    flat (marks_of_blocks (blocks ++ b ∷ [])) (flat_frames front following) ≡ flat (marks_of_blocks blocks) (flat_frames (front ++ frame ∷ []) (leaves b.after ∷ following))
flat-close_top blocks [] frame b following n same = flat-push_block blocks b following ∙ ap (flat (marks_of_blocks blocks)) same
flat-close_top blocks (f ∷ front) frame b following n same = absurd (omega arith)
