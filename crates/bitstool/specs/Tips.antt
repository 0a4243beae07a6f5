-- The second line on the errors, with what helps after a refusal: by its reason, or by what the input begins like.
use Rattle.std.specs.Prelude.{ℕ, nat_eq, nat_lt, if◌then◌else◌, List, [], codes}
use Rattle.bit_grammar.specs.declared.reason.Reason.{Reason}
use Rattle.bit_grammar.specs.declared.reason.Reason.TheVariants.{AbbrevShape, TooDeep, TooLong, TooManyValues, Truncated}
use Rattle.bit_grammar.specs.declared.shapes.Shapes.{Shapes}
use Rattle.bit_grammar.specs.declared.shapes.Shapes.TheVariants.{AtDefinition, AtUse}
use Rattle.bit_norm.specs.declared.comparing.Which.TheVariants.{First, Second}
use Rattle.bit_text.specs.declared.reason.TextReason.{TextReason}
use Rattle.bit_text.specs.declared.reason.TextReason.TheVariants as text
use Rattle.bitstool.specs.declared.beginning.Beginning.{Beginning}
use Rattle.bitstool.specs.declared.beginning.Beginning.TheVariants.{Gzip, Xz, Zstd, Elf, MachO, Pe, Archive, Assembly, Text, Unknown}
use Rattle.bitstool.specs.declared.outcome.Outcome.{Outcome}
use Rattle.bitstool.specs.declared.outcome.Outcome.TheVariants as outcome

-- for a definition with no lawful shape
abbrev pub shape_tip : Shapes → List ℕ
shape_tip AtDefinition = codes "  tip: precompiled headers and module files of Clang 19 and later need '--shapes-at-use'\n"
shape_tip AtUse = []

-- for an input that begins so
abbrev pub beginning_tip : Beginning → List ℕ
beginning_tip Gzip = codes "  tip: this begins like a gzip file: gunzip it first\n"
beginning_tip Xz = codes "  tip: this begins like an xz file: unxz it first\n"
beginning_tip Zstd = codes "  tip: this begins like a zstd file: unzstd it first\n"
beginning_tip Elf = codes "  tip: this begins like an ELF file: take bitcode out of its section .llvmbc with objcopy\n"
beginning_tip MachO = codes "  tip: this begins like a Mach-O file: take bitcode out of its section __LLVM,__bitcode\n"
beginning_tip Pe = codes "  tip: this begins like a PE file, a program or library for Windows\n"
beginning_tip Archive = codes "  tip: this begins like an archive: 'llvm-ar p FILE MEMBER' prints a member\n"
beginning_tip Assembly = codes "  tip: this begins like LLVM IR as text: llvm-as makes bitcode of it\n"
beginning_tip Text = codes "  tip: this begins like a text; a listing is for 'bitstool assemble'\n"
beginning_tip Unknown = []

-- for a refusal at a bit of it, which may be of another kind if it is refused at its first bits
abbrev pub front_tip : Beginning → (bit : ℕ) → List ℕ
front_tip beginning bit = if nat_lt bit 128 then beginning_tip beginning else []

-- for a limit on levels, and on values
abbrev pub depth_tip : List ℕ
depth_tip = codes "  tip: '--depth N' permits more levels of nested blocks, at most 255\n"

abbrev pub values_tip : List ℕ
values_tip = codes "  tip: '--values N' permits more values, at most 4294967295\n"

-- for a refusal for a reason at a bit
abbrev pub refused_tip : Shapes → Beginning → Reason → (bit : ℕ) → List ℕ
refused_tip shapes beginning TooDeep bit = depth_tip
refused_tip shapes beginning TooManyValues bit = values_tip
refused_tip shapes beginning TooLong bit = codes "  tip: '--bytes N' permits a longer input, of at most 17179869180 bytes\n"
refused_tip shapes beginning AbbrevShape bit = shape_tip shapes
refused_tip shapes beginning Truncated bit = if nat_eq bit 0 then codes "  tip: the input is empty, or has fewer than 4 bytes\n"
    else front_tip beginning bit
refused_tip shapes beginning reason bit = front_tip beginning bit

-- for a listing that is refused for a reason
abbrev pub line_tip : TextReason → List ℕ
line_tip text.TooDeep = depth_tip
line_tip text.TooManyValues = values_tip
line_tip reason = []

-- For the outcome of a command whose input begins so. What the second of two inputs begins like is not known.
abbrev pub tip_of : Shapes → Beginning → Outcome → List ℕ
tip_of shapes beginning (outcome.Refused reason bit) = refused_tip shapes beginning reason bit
tip_of shapes beginning (outcome.RefusedOf First reason bit) = refused_tip shapes beginning reason bit
tip_of shapes beginning (outcome.RefusedOf Second reason bit) = refused_tip shapes Unknown reason bit
tip_of shapes beginning (outcome.RefusedLine reason line) = line_tip reason
tip_of shapes beginning (outcome.TooLong limit) = codes "  tip: '--bytes N' permits a longer normal form, of at most 17179869180 bytes\n"
tip_of shapes beginning other = []
