-- Texts that name what is left out.
use Rattle.std.specs.Prelude.{◌≡◌, ⊤, ℕ, ◌<◌, ◌^◌, ◌==◌, Bool, List, [], ◌∷◌, length, Contains}
use Rattle.std.specs.List.{after_first, before_first, position_or_len}
use Rattle.std.specs.Str.Parse.{IsNumeral, digits_value, without_leading_plus}
use Rattle.clap.specs.Words.{Text}
use Rattle.bitstool.specs.declared.names.Unnamed.{Unnamed}
use Rattle.bitstool.specs.declared.names.Unnamed.TheVariants.{Block, Record, Memory}
use Rattle.bit_grammar.specs.declared.info.RecordName.{RecordName}

-- the text is a numeral of this number, with or without a plus sign
abbrev pub IsNumeralOf : Text → ℕ → Type 0
IsNumeralOf text n = IsNumeral 10 (without_leading_plus text)
    × (digits_value 10 (without_leading_plus text) ≡ n)

-- the text names the blocks with this id
abbrev pub NamesBlock : Text → ℕ → Type 0
NamesBlock text id = IsNumeralOf text id × (id < 2 ^ 32)

-- it names this code
abbrev pub NamesCode : Text → ℕ → Type 0
NamesCode text code = IsNumeralOf text code × (code < 2 ^ 64)

abbrev pub is_colon : ℕ → Bool
is_colon byte = byte == 58

-- It names the records with this code in blocks with this id: the text before its first colon names the blocks, which are no
-- BLOCKINFO blocks, and the text after it names the code.
pub record NamesRecord (text : Text) (name : RecordName) : Type 0 where
  pub colon : position_or_len is_colon text < length text
  pub block : NamesBlock (before_first is_colon text) name.block
  pub code : NamesCode (after_first is_colon text) name.code
  pub content : 0 < name.block

-- each text names the item at its place
abbrev pub NameEach : {X : Type 0} → (Text → X → Type 0) → List Text → List X → Type 0
NameEach Names [] [] = ⊤
NameEach Names [] (x ∷ xs) = ⊥
NameEach Names (text ∷ rest) [] = ⊥
NameEach Names (text ∷ rest) (x ∷ xs) = Names text x × NameEach Names rest xs

-- the text is in a list, and names nothing
abbrev pub Misnames : {X : Type 0} → (Text → X → Type 0) → List Text → Text → Type 0
Misnames {X} Names given text = Contains given text × ((x : X) → Names text x → ⊥)

-- the reason why these texts do not name blocks and records
abbrev pub IsUnnamed : (blocks records : List Text) → Unnamed → Type 0
IsUnnamed blocks records (Block text) = Misnames NamesBlock blocks text.now
IsUnnamed blocks records (Record text) = Misnames NamesRecord records text.now
IsUnnamed blocks records Memory = ⊤
