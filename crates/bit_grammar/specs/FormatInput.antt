-- Whole inputs in the words of the format. There are no limits here. Source: "LLVM Bitcode File Format", "Bitstream Format", "Magic
-- Numbers", "Bitcode Wrapper Format". This project's own: that there are only blocks at the top, up to the end of the stream; that
-- a wrapper's version is 0, its offset at least 20 and a multiple of 4, that any bytes may come between it and the stream and after
-- the stream, and that a stream in a wrapper has no wrapper.
use Rattle.std.specs.Prelude.{◌≡◌, ℕ, ◌+◌, ◌*◌, ◌%◌, ◌≤◌, ◌≢◌, Bool, List, ◌++◌, length, Option, Some, None}
use Rattle.bit_grammar.specs.FormatFields.{IsFixed}
use Rattle.bit_grammar.specs.Forest.{wrapper_magic}
use Rattle.bit_grammar.specs.Marks.{Marks, no_marks, marked_block, marked_record, marked_definition}
use Rattle.bit_grammar.specs.FormatBlocks.{Context, top_context, AreItems}
use Rattle.bit_grammar.specs.Terms.{Wrapper, Marked}

-- blocks only
abbrev pub AreMarkedBlocks : Marks → Type 0
AreMarkedBlocks no_marks = Unit {0}
AreMarkedBlocks (marked_block mark inner rest) = AreMarkedBlocks rest
AreMarkedBlocks (marked_record mark rest) = ⊥
AreMarkedBlocks (marked_definition mark rest) = ⊥

-- a stream that begins at bit p: a magic of 32 bits, which is not the wrapper's, and blocks up to its end
pub record IsStream (p magic : ℕ) (blocks : Marks) (s : List Bool) : Type 0 where
  pub front : List Bool
  pub rest : List Bool
  pub left : Context
  pub parts : s ≡ front ++ rest
  pub is_magic : IsFixed 32 magic front
  pub bare : magic ≢ wrapper_magic
  pub only : AreMarkedBlocks blocks
  pub items : AreItems blocks top_context (p + 32) rest left

-- A wrapped stream: the wrapper's magic, version 0, the offset, size and CPU type, each in 32 bits, any bytes from byte 20 up to
-- the offset, the stream of exactly size bytes, and any bytes after it.
pub record IsWrapped (w : Wrapper) (magic : ℕ) (blocks : Marks) (s : List Bool) : Type 0 where
  pub front : List Bool
  pub version : List Bool
  pub offset : List Bool
  pub size : List Bool
  pub cpu : List Bool
  pub gap : List Bool
  pub stream : List Bool
  pub tail : List Bool
  pub parts : s ≡ (front ++ (version ++ (offset ++ (size ++ cpu)))) ++ (gap ++ (stream ++ tail))
  pub is_magic : IsFixed 32 wrapper_magic front
  pub is_version : IsFixed 32 0 version
  pub is_offset : IsFixed 32 w.offset offset
  pub offset_lawful : (20 ≤ w.offset) × (w.offset % 4 ≡ 0)
  pub is_size : IsFixed 32 w.size size
  pub is_cpu : IsFixed 32 w.cpu cpu
  pub gap_fills : 160 + length gap ≡ 8 * w.offset
  pub stream_fills : length stream ≡ 8 * w.size
  pub is_stream : IsStream (8 * w.offset) magic blocks stream

-- the marked tree's last position is the bit after the stream
abbrev pub InputBy : Option Wrapper → Marked → List Bool → Type 0
InputBy None m s = IsStream 0 m.head.magic m.blocks s × (m.after ≡ length s)
InputBy (Some w) m s = IsWrapped w m.head.magic m.blocks s × (m.after ≡ 8 * (w.offset + w.size))

-- the bits of an input are a stream, or a wrapped one
abbrev pub IsInput : Marked → List Bool → Type 0
IsInput m s = InputBy m.head.wrapper m s
