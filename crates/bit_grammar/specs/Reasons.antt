-- The numbers and the names of the reasons for which an input is refused. Source: this project's own.
use Rattle.std.specs.Prelude.{ℕ, List, codes}
use Rattle.bit_grammar.specs.declared.reason.Reason.{Reason}
use Rattle.bit_grammar.specs.declared.reason.Reason.TheVariants.{AbbrevEmpty, AbbrevEncoding, AbbrevShape, AbbrevWidth, BadSetBid, BlockId, BlockLength, DirtyPadding, FieldWidth, NestedInBlockInfo, NoBlockSet, TooDeep, TooLong, TooManyValues, TopLevel, Truncated, UndefinedAbbrev, ValueTooWide, WrapperNested, WrapperOffset, WrapperSize, WrapperVersion}

abbrev pub number_of : Reason → ℕ
number_of Truncated = 1
number_of ValueTooWide = 2
number_of TopLevel = 3
number_of TooDeep = 4
number_of BlockId = 5
number_of AbbrevWidth = 6
number_of DirtyPadding = 7
number_of BlockLength = 8
number_of UndefinedAbbrev = 9
number_of AbbrevEmpty = 10
number_of AbbrevEncoding = 11
number_of FieldWidth = 12
number_of AbbrevShape = 13
number_of NoBlockSet = 14
number_of BadSetBid = 15
number_of NestedInBlockInfo = 16
number_of TooManyValues = 17
number_of TooLong = 18
number_of WrapperVersion = 19
number_of WrapperOffset = 20
number_of WrapperSize = 21
number_of WrapperNested = 22

-- as ASCII codes
abbrev pub name_of : Reason → List ℕ
name_of Truncated = codes "Truncated"
name_of ValueTooWide = codes "ValueTooWide"
name_of TopLevel = codes "TopLevel"
name_of TooDeep = codes "TooDeep"
name_of BlockId = codes "BlockId"
name_of AbbrevWidth = codes "AbbrevWidth"
name_of DirtyPadding = codes "DirtyPadding"
name_of BlockLength = codes "BlockLength"
name_of UndefinedAbbrev = codes "UndefinedAbbrev"
name_of AbbrevEmpty = codes "AbbrevEmpty"
name_of AbbrevEncoding = codes "AbbrevEncoding"
name_of FieldWidth = codes "FieldWidth"
name_of AbbrevShape = codes "AbbrevShape"
name_of NoBlockSet = codes "NoBlockSet"
name_of BadSetBid = codes "BadSetBid"
name_of NestedInBlockInfo = codes "NestedInBlockInfo"
name_of TooManyValues = codes "TooManyValues"
name_of TooLong = codes "TooLong"
name_of WrapperVersion = codes "WrapperVersion"
name_of WrapperOffset = codes "WrapperOffset"
name_of WrapperSize = codes "WrapperSize"
name_of WrapperNested = codes "WrapperNested"
