-- Marked blocks that are partly built, by the events that they were built from.
use Rattle.std.specs.Prelude.{◌≡◌, List, [], ◌∷◌, ◌++◌, vec_len}
use Rattle.bit_grammar.specs.Machine.{Event, enters, flat}
use Rattle.bit_grammar.specs.Marks.{no_marks}
use Rattle.bit_events.specs.Gathering.{left_open}
use Rattle.bit_tree.specs.MarkedView.{put_marked, marks_of_items, marks_of_blocks}
use Rattle.bit_tree.specs.declared.marked.MarkedItem.{MarkedItem}
use Rattle.bit_tree.specs.declared.marked_builder.MarkedFrame.{MarkedFrame}
use Rattle.bit_tree.specs.declared.marked_builder.MarkedBuilder.{MarkedBuilder}

-- the events of one item, before those that follow
abbrev pub flat_item : MarkedItem → List Event → List Event
flat_item item following = flat (put_marked item no_marks) following

-- the events of open blocks, the outermost first, before those that follow
abbrev pub flat_frames : List MarkedFrame → List Event → List Event
flat_frames [] following = following
flat_frames (f ∷ frames) following = enters (record
    { id = f.id; width = f.width; first = f.first; body = f.body })
    ∷ flat (marks_of_items f.items.items) (flat_frames frames following)

-- the events that they were built from, before those that follow
abbrev pub built_from : MarkedBuilder → List Event → List Event
built_from b following = flat (marks_of_blocks b.blocks.items)
    (flat_frames b.frames.items following)

-- it was built from these events
pub record IsBuiltFrom (events : List Event) (b : MarkedBuilder) : Type 0 where
  pub whole : (following : List Event) → built_from b following ≡ events ++ following
  pub depth : vec_len b.frames ≡ left_open events
