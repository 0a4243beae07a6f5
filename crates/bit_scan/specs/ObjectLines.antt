-- The grammar of a line of JSON: one object, with no space in it. This project's own.
use Rattle.std.specs.Prelude.{◌≡◌, ◌⊎◌, ℕ, ◌^◌, ◌<◌, ◌≤◌, Bool, true, false, List, [], ◌∷◌, ◌++◌, length, codes, decimal, flat_map, map}
use Rattle.std.specs.Char.{is_ascii_alphabetic, is_ascii_alphanumeric}
use Rattle.std.specs.List.{AllByRecursion, IsDistinct, join_by, list_all}
use Rattle.std.specs.Str.{bytes_eq}

-- letters and digits alone, so no character needs an escape
abbrev pub IsPlain : List ℕ → Type 0
IsPlain text = list_all is_ascii_alphanumeric text ≡ true

-- a word, which begins with a letter
abbrev pub begins_with_letter : List ℕ → Bool
begins_with_letter [] = false
begins_with_letter (c ∷ rest) = is_ascii_alphabetic c

abbrev pub IsWord : List ℕ → Type 0
IsWord text = IsPlain text × (begins_with_letter text ≡ true)

-- as long as the digits of a magic
abbrev pub IsMagicText : List ℕ → Type 0
IsMagicText text = IsPlain text × (length text ≡ 8)

-- a text in quotes
abbrev pub quoted : List ℕ → List ℕ
quoted text = codes "\"" ++ (text ++ codes "\"")

-- a string that is no number
abbrev pub IsString : List ℕ → Type 0
IsString text = (inner : List ℕ) × (IsWord inner ⊎ IsMagicText inner) × (text ≡ quoted inner)

-- A number below this bound, without a sign and without a zero in front. From 2 ^ 53 on it is in quotes, because many readers of
-- JSON round greater numbers.
abbrev pub IsNumber : (bound : ℕ) → List ℕ → Type 0
IsNumber bound text = (number : ℕ) × (number < bound)
    × (((number < 2 ^ 53) × (text ≡ decimal number))
    ⊎ ((2 ^ 53 ≤ number) × (text ≡ quoted (decimal number))))

abbrev pub IsSimple : (bound : ℕ) → List ℕ → Type 0
IsSimple bound text = IsString text ⊎ IsNumber bound text

-- such items between brackets, a comma between two
abbrev pub IsList : (List ℕ → Type 0) → List ℕ → Type 0
IsList IsItem text = (items : List (List ℕ)) × AllByRecursion IsItem items
    × (text ≡ codes "[" ++ (join_by (λ item. item) (codes ",") items ++ codes "]"))

-- a name, and the text of its value
abbrev pub Member : Type 0
Member = List ℕ × List ℕ

abbrev pub member_text : Member → List ℕ
member_text member = quoted member.0 ++ (codes ":" ++ member.1)

abbrev pub names_of : List Member → List (List ℕ)
names_of members = map (λ (member : Member). member.0) members

-- members between braces, with distinct names and such values, a comma between two
pub record IsObject (IsValue : List ℕ → Type 0) (text : List ℕ) : Type 0 where
  pub members : List Member
  pub plain : AllByRecursion IsPlain (names_of members)
  pub distinct : IsDistinct bytes_eq (names_of members)
  pub values : AllByRecursion (λ (member : Member). IsValue member.1) members
  pub spelled : text ≡ codes "{" ++ (join_by member_text (codes ",") members ++ codes "}")

-- a string, a number, or a list of those or of objects of those
abbrev pub IsLineValue : (bound : ℕ) → List ℕ → Type 0
IsLineValue bound text = IsSimple bound text
    ⊎ (IsList (IsSimple bound) text ⊎ IsList (IsObject (IsSimple bound)) text)

-- one line, an object of such values
abbrev pub IsLineOf : (List ℕ → Type 0) → List ℕ → Type 0
IsLineOf IsValue text = (front : List ℕ) × IsObject IsValue front × (text ≡ front ++ codes "\n")

abbrev pub IsObjectLine : (bound : ℕ) → List ℕ → Type 0
IsObjectLine bound text = IsLineOf (IsLineValue bound) text

-- lines one after the other
abbrev pub AreObjectLines : (bound : ℕ) → List ℕ → Type 0
AreObjectLines bound text = (lines : List (List ℕ)) × AllByRecursion (IsObjectLine bound) lines
    × (text ≡ flat_map (λ line. line) lines)
