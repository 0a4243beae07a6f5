-- The names of the reasons why a text is refused. They do not change.
use Rattle.std.specs.Prelude.{ℕ, List, codes}
use Rattle.bit_text.specs.declared.reason.TextReason.{TextReason}
use Rattle.bit_text.specs.declared.reason.TextReason.TheVariants.{NoMagic, WrapperMagic, BadLine, NumberTooLarge, BadIndentation, TooDeep, TooManyValues, Misplaced}

abbrev pub name_of : TextReason → List ℕ
name_of NoMagic = codes "NoMagic"
name_of WrapperMagic = codes "WrapperMagic"
name_of BadLine = codes "BadLine"
name_of NumberTooLarge = codes "NumberTooLarge"
name_of BadIndentation = codes "BadIndentation"
name_of TooDeep = codes "TooDeep"
name_of TooManyValues = codes "TooManyValues"
name_of Misplaced = codes "Misplaced"
