-- The model of a marked tree of the program.
use Rattle.std.specs.Prelude.{List, [], ◌∷◌}
use Rattle.bit_grammar.specs.Marks.{BlockMark, RecordMark, DefinitionMark, Marks, no_marks, marked_block, marked_record, marked_definition}
use Rattle.bit_tree.specs.declared.marked.MarkedBlock.{MarkedBlock}
use Rattle.bit_tree.specs.declared.marked.MarkedRecord.{MarkedRecord}
use Rattle.bit_tree.specs.declared.marked.MarkedDefine.{MarkedDefine}
use Rattle.bit_tree.specs.declared.marked.MarkedItem.{MarkedItem}
use Rattle.bit_tree.specs.declared.marked.MarkedItem.TheVariants.{Block, Record, Define}

abbrev pub block_mark : MarkedBlock → BlockMark
block_mark b = record {
  id = b.id;
  width = b.width;
  first = b.first;
  body = b.body;
  after = b.after;
}

abbrev pub record_mark : MarkedRecord → RecordMark
record_mark r = record {
  abbreviation = r.«abbrev»;
  code = r.code;
  values = r.values;
  first = r.first;
  after = r.after;
}

abbrev pub definition_mark : MarkedDefine → DefinitionMark
definition_mark d = record { ops = d.«abbrev»; first = d.first; after = d.after }

-- a block before marks
abbrev pub put_marked_block : MarkedBlock → Marks → Marks
put_marked_block b rest = marked_block (block_mark b) b.items rest

-- an item before marks
abbrev pub put_marked : MarkedItem → Marks → Marks
put_marked (Block b) rest = put_marked_block b rest
put_marked (Record r) rest = marked_record (record_mark r) rest
put_marked (Define d) rest = marked_definition (definition_mark d) rest

-- items in order
abbrev pub marks_of_items : List MarkedItem → Marks
marks_of_items [] = no_marks
marks_of_items (item ∷ items) = put_marked item (marks_of_items items)

-- blocks in order
abbrev pub marks_of_blocks : List MarkedBlock → Marks
marks_of_blocks [] = no_marks
marks_of_blocks (b ∷ blocks) = put_marked_block b (marks_of_blocks blocks)
