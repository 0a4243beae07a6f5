-- A listing in the words of docs/FORMAT.md: which text lists which items. The order in which it is read, and the limits, are not
-- here.
-- This project's own.
use Rattle.std.specs.Prelude.{◌≡◌, ◌≢◌, ℕ, ◌*◌, ◌^◌, ◌<◌, ◌⊎◌, List, [], ◌∷◌, ◌++◌, length, replicate, flat_map, codes}
use Rattle.std.specs.List.{AllByRecursion}
use Rattle.std.specs.Str.Parse.{AllDigits, digits_value}
use Rattle.bit_grammar.specs.Texts.{hex_text}

-- ---- parts

-- parts of a text: a separator stands before each of them, and in none
pub record AreParts (separator : ℕ) (text : List ℕ) (parts : List (List ℕ)) : Type 0 where
  pub joined : separator ∷ text ≡ flat_map (λ part. separator ∷ part) parts
  pub apart : AllByRecursion (λ part. AllByRecursion (λ b. b ≢ separator) part) parts

-- ---- numbers

-- digits of a base, at least one, spell a number
pub record AreDigits (base : ℕ) (text : List ℕ) (n : ℕ) : Type 0 where
  pub some : 0 < length text
  pub digits : AllDigits base text
  pub value : digits_value base text ≡ n

-- a word spells a number of 64 bits: decimal digits, or hexadecimal ones after `0x`
abbrev pub IsNumber : List ℕ → ℕ → Type 0
IsNumber word n = (AreDigits 10 word n ⊎ (text : List ℕ) × (word ≡ codes "0x" ++ text) × AreDigits 16 text n)
    × (n < 2 ^ 64)

-- each word spells one of these numbers
abbrev pub SpellEach : (words : List (List ℕ)) → List ℕ → Type 0
SpellEach [] ns = ns ≡ []
SpellEach (word ∷ words) ns = (n : ℕ) × (others : List ℕ) × (ns ≡ n ∷ others) × IsNumber word n
    × SpellEach words others

-- words with one space between them spell these numbers
abbrev pub SpellsNumbers : (text : List ℕ) → List ℕ → Type 0
SpellsNumbers text ns = (words : List (List ℕ)) × AreParts 32 text words × SpellEach words ns

-- ---- items

-- a block with this id begins; or there is a record with this code and these values
pub data Item : Type 0 where
  of_block : (id : ℕ) → Item
  of_record : (code : ℕ) → List ℕ → Item

-- a text is an item
abbrev pub IsItem : (text : List ℕ) → Item → Type 0
IsItem text (of_block id) = (numbers : List ℕ) × (text ≡ codes "block " ++ numbers)
    × SpellsNumbers numbers (id ∷ []) × (id < 2 ^ 32)
IsItem text (of_record code values) = (numbers : List ℕ) × (text ≡ codes "record " ++ numbers)
    × SpellsNumbers numbers (code ∷ values)

-- ---- lines

-- an item, and how many blocks are around it
pub record Entry : Type 0 where
  pub around : ℕ
  pub item : Item

-- a line has an item after two spaces for each block around it
abbrev pub IsEntry : (line : List ℕ) → Entry → Type 0
IsEntry line e = (text : List ℕ) × (line ≡ replicate (2 * e.around) 32 ++ text) × IsItem text e.item

-- a text is empty or a comment
abbrev pub IsFree : (text : List ℕ) → Type 0
IsFree [] = Unit {0}
IsFree (b ∷ text) = b ≡ 35

-- a line is that, after spaces
abbrev pub IsFreeLine : (line : List ℕ) → Type 0
IsFreeLine line = (n : ℕ) × (text : List ℕ) × (line ≡ replicate n 32 ++ text) × IsFree text

-- lines have these items in order; the others say nothing
abbrev pub HaveEntries : (lines : List (List ℕ)) → List Entry → Type 0
HaveEntries [] entries = entries ≡ []
HaveEntries (line ∷ lines) entries = (IsFreeLine line × HaveEntries lines entries)
    ⊎ ((e : Entry) × (others : List Entry) × (entries ≡ e ∷ others) × IsEntry line e × HaveEntries lines others)

-- a line is that of a magic of four bytes
pub record IsMagicLine (line magic : List ℕ) : Type 0 where
  pub four : length magic ≡ 4
  pub bytes : AllByRecursion (λ b. b < 256) magic
  pub text : line ≡ codes "magic " ++ flat_map hex_text magic

-- lines have a magic, and then these items; the others say nothing
abbrev pub AreListing : (lines : List (List ℕ)) → (magic : List ℕ) → List Entry → Type 0
AreListing [] magic entries = ⊥
AreListing (line ∷ lines) magic entries = (IsFreeLine line × AreListing lines magic entries)
    ⊎ (IsMagicLine line magic × HaveEntries lines entries)

-- a text is a listing of a magic and these items
abbrev pub IsListing : (text magic : List ℕ) → List Entry → Type 0
IsListing text magic entries = (lines : List (List ℕ)) × AreParts 10 text lines × AreListing lines magic entries
